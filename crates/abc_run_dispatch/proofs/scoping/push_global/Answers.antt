use Rattle.std.proofs.Common.{◌<◌, ℕ, [], ◌∷◌, ap, length, refl, subst, sym, ◌∙◌}
use Rattle.abc_heap_values.specs.declared.values.Value.{Value}
use Rattle.abc_frames.specs.Moves.{next_with}
use Rattle.abc_run_dispatch.proofs.NewOps.{op_64}
use Rattle.abc_run_values.proofs.Doing.{turns_as}
use Rattle.abc_frames.specs.Frame.{Frames, with_newest}
use Rattle.abc_run_state.specs.Outer.{world}
use Rattle.abc_run_state.specs.Turns.{GoesOn}
use Rattle.abc_meaning.specs.Entering.{global}
use Rattle.abc_file_types.specs.declared.code.Instr.TheVariants.{Plain}
use Rattle.abc_run_dispatch.proofs.scoping.push_global.Goals as goal

pub global_of-global-requires : goal.global_of-global-requires
global_of-global-requires g c = record { over = c.requires.set.over; script = subst (λ (n : ℕ). n < length c.args.linked.now.file.scripts) (sym c.home-home.ensures) c.requires.set.frame.home }

pub push-requires : goal.push-requires
push-requires g c = (op_64 c.args.linked.now g.out c.args.s.now c.requires).ready

pub returns : goal.returns
returns g c = record {
  runs =
      let w = world c.args.s.now g.out in
      let q = c.args.s.now.frames in
      let same = c.global_of-global.ensures.is g.out ∙ ap (λ (n : ℕ). global n w) c.home-home.ensures in
      turns_as c.args.linked.now g.out c.args.s.now (Plain 100) 0 1 _ _ (op_64 c.args.linked.now g.out c.args.s.now c.requires) (ap (λ (v : Value). GoesOn w (with_newest (next_with (v ∷ [])) q)) (sym same) ∙ ap (λ (r : Frames). GoesOn w r) (sym c.push.ensures));
  limit = refl;
}
