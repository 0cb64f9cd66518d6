use Rattle.std.proofs.Common.{◌∙◌, arith, subst, sym}
use Rattle.abc_objects.specs.Values.{Exists}
use Rattle.abc_run_members.proofs.fast_paths.call_whole.Goals as goal

pub operand-v-requires : goal.operand-v-requires
operand-v-requires g c = omega (arith, c.requires.1.0.operands)

pub call_on_object-requires : goal.call_on_object-requires
call_on_object-requires g c = (c.requires.0, (c.requires.1.0, (c.requires.1.1.0, (c.requires.1.1.1.0, (c.requires.1.1.1.1.0, (c.requires.1.1.1.1.1.0, ((sym c.operand-v.ensures.is ∙ c.in-Obj.is), ((subst (Exists c.args.linked.now c.args.s.now.arena) c.in-Obj.is (c.operand-v.ensures.there c.args.linked.now c.args.s.now.arena c.requires.0.set.frame.stack)), c.requires.1.1.1.1.1.1))))))))

pub call_searching-requires : goal.call_searching-requires
call_searching-requires g c = (c.requires.0, (c.requires.1.0, (c.requires.1.1.0, (c.requires.1.1.1.0, c.requires.1.1.1.1.1.1))))
