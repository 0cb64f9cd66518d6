use mir.Syntax.{w8}
use Rattle.std.proofs.Common.{[], ◌∷◌, ◌∙◌, ap, subst, sym}
use Rattle.std.proofs.lemmas.Int.{to_z-of_z}
use Rattle.abc_meaning.specs.At.{goes, after_pushes}
use Rattle.abc_heap_values.specs.declared.values.Value.{Value}
use Rattle.abc_heap_values.specs.declared.values.Value.TheVariants.{Num}
use Rattle.abc_frames.specs.Frame.{newest}
use Rattle.abc_run_values.proofs.OtherOps.{op_24}
use Rattle.abc_run_values.proofs.Doing.{Does, turns_as}
use Rattle.abc_file_types.specs.declared.code.Instr.TheVariants.{Byte}
use Rattle.abc_run_values.proofs.others.run_byte.Goals as goal

pub push_value-requires : goal.push_value-requires
push_value-requires g c = let d = op_24 c.args.linked.now g.out c.args.s.now c.args.n c.requires in d.ready

pub returns : goal.returns
returns g c = record {
  runs = turns_as c.args.linked.now g.out c.args.s.now (Byte c.args.n) 0 1 _ _ (subst (λ (x : Value). Does c.args.linked.now g.out c.args.s.now (Byte c.args.n) 0 1 (goes (after_pushes (x ∷ []) (newest c.args.s.now.frames)))) (sym (c.byte_value.ensures ∙ ap Num (to_z-of_z w8 c.args.n c.ranges.n))) (op_24 c.args.linked.now g.out c.args.s.now c.args.n c.requires)) c.push_value.ensures.runs;
  limit = c.push_value.ensures.limit;
}
