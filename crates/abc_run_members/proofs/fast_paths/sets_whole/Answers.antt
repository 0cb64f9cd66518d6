use Rattle.std.proofs.Common.{◌∙◌, arith, subst, sym}
use Rattle.abc_objects.specs.Values.{Exists}
use Rattle.abc_run_members.proofs.fast_paths.sets_whole.Goals as goal

pub operand-v-requires : goal.operand-v-requires
operand-v-requires g c = omega (arith, c.requires.1.0.operands)

pub sets_on_object-requires : goal.sets_on_object-requires
sets_on_object-requires g c = (c.requires.0, (c.requires.1.0, (c.requires.1.1.0, (c.requires.1.1.1, ((sym c.operand-v.ensures.is ∙ c.in-Obj.is), (subst (Exists c.args.linked.now c.args.s.now.arena) c.in-Obj.is (c.operand-v.ensures.there c.args.linked.now c.args.s.now.arena c.requires.0.frame.stack)))))))
