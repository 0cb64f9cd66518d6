use Rattle.std.proofs.Common.{◌≡◌, ℕ, true}
use Rattle.abc_run_state.specs.Plain.{pushes_test}
use Rattle.abc_run_values.proofs.ComputingOps.{op_AB, op_AC, op_AD, op_AE, op_AF, op_B0}
use Rattle.abc_run_values.proofs.Doing.{Does, pick, turns_as}
use Rattle.abc_run_values.specs.Groups.{comparison_ops}
use Rattle.abc_run_values.specs.Ready.{CanRun}
use Rattle.abc_link_names.specs.Linked.{LinkedFile}
use Rattle.abc_frames.specs.Frame.{newest}
use Rattle.abc_run_state.specs.Outer.{Outer, setting_in}
use Rattle.abc_run_state.specs.declared.state.State.{State}
use Rattle.abc_file_types.specs.Opcodes.{is_in}
use Rattle.abc_file_types.specs.declared.code.Instr.TheVariants.{Plain}
use Rattle.abc_run_values.proofs.compute_steps.run_comparison.Goals as goal

does_so : (l : LinkedFile) (out : Outer) (s : State) (op : ℕ) → CanRun l out s (Plain op) → is_in op comparison_ops ≡ true → Does l out s (Plain op) 2 1 (pushes_test (setting_in l out) op (newest s.frames))
does_so l out s op can among = pick (λ o. CanRun l out s (Plain o) → Does l out s (Plain o) 2 1 (pushes_test (setting_in l out) o (newest s.frames))) comparison_ops op (op_AB l out s, (op_AC l out s, (op_AD l out s, (op_AE l out s, (op_AF l out s, (op_B0 l out s, tt)))))) among can

pub compare_top-requires : goal.compare_top-requires
compare_top-requires g c = (c.requires.0.set, (does_so c.args.linked.now g.out c.args.s.now c.args.op c.requires.0 c.requires.1).ready)

pub returns : goal.returns
returns g c = record {
  runs = turns_as c.args.linked.now g.out c.args.s.now (Plain c.args.op) 2 1 _ _ (does_so c.args.linked.now g.out c.args.s.now c.args.op c.requires.0 c.requires.1) c.compare_top.ensures.runs;
  limit = c.compare_top.ensures.limit;
}
