use Rattle.std.proofs.Common.{ℕ, ap, ◌∙◌}
use Rattle.abc_run_values.proofs.Doing.{can_at}
use Rattle.abc_run_values.specs.Here.{act_here}
use Rattle.abc_frames.specs.Frame.{newest}
use Rattle.abc_run_state.specs.Outer.{setting_in, world}
use Rattle.abc_run_state.specs.Turns.{turn_of}
use Rattle.abc_file_types.specs.declared.code.Instr.TheVariants.{Plain}
use Rattle.abc_run_values.proofs.returning.run_return_fast.Goals as goal

pub returns_number-requires : goal.returns_number-requires
returns_number-requires g c = can_at c.args.linked.now g.out c.args.s.now Plain c.args.op 72 c.in-72.is c.requires

pub returns-in-72 : goal.returns-in-72
returns-in-72 g c = record {
  leaves = λ e.
      let s = c.args.s.now in
      let p = setting_in c.args.linked.now g.out in
      ap (λ (o : ℕ). turn_of p s.frames (act_here p (newest s.frames) (Plain o) (world s g.out))) c.in-72.is ∙ c.returns_number.ensures.leaves e;
  returns = c.returns_number.ensures.returns;
  undone = c.returns_number.ensures.undone;
}
