use mir.Syntax.{w16}
use Rattle.std.proofs.Common.{[], ◌∷◌, ◌∙◌, ap, subst, sym}
use Rattle.std.proofs.lemmas.Int.{to_z-of_z}
use Rattle.abc_meaning.specs.At.{goes, after_pushes}
use Rattle.abc_heap_values.specs.declared.values.Value.{Value}
use Rattle.abc_heap_values.specs.declared.values.Value.TheVariants.{Num}
use Rattle.abc_frames.specs.Frame.{newest}
use Rattle.abc_run_values.proofs.OtherOps.{op_25}
use Rattle.abc_run_values.proofs.Doing.{Does, turns_as}
use Rattle.abc_file_types.specs.declared.code.Instr.TheVariants.{Short}
use Rattle.abc_run_values.proofs.others.run_short.Goals as goal

pub push_value-requires : goal.push_value-requires
push_value-requires g c = let d = op_25 c.args.linked.now g.out c.args.s.now c.args.n c.requires in d.ready

pub returns : goal.returns
returns g c = record {
  runs = turns_as c.args.linked.now g.out c.args.s.now (Short c.args.n) 0 1 _ _ (subst (λ (x : Value). Does c.args.linked.now g.out c.args.s.now (Short c.args.n) 0 1 (goes (after_pushes (x ∷ []) (newest c.args.s.now.frames)))) (sym (c.short_value.ensures ∙ ap Num (to_z-of_z w16 c.args.n c.ranges.n))) (op_25 c.args.linked.now g.out c.args.s.now c.args.n c.requires)) c.push_value.ensures.runs;
  limit = c.push_value.ensures.limit;
}
