use Rattle.std.proofs.Common.{◌≡◌, ℕ, true}
use Rattle.abc_run_state.specs.Plain.{computes_both}
use Rattle.abc_run_values.proofs.ComputingOps.{op_A0, op_A1, op_A2, op_A3, op_A4, op_A5, op_A6, op_A7, op_A8, op_A9, op_AA, op_C5, op_C6, op_C7}
use Rattle.abc_run_values.proofs.Doing.{Does, pick, turns_as}
use Rattle.abc_run_values.specs.Groups.{double_ops}
use Rattle.abc_run_values.specs.Ready.{CanRun}
use Rattle.abc_link_names.specs.Linked.{LinkedFile}
use Rattle.abc_frames.specs.Frame.{newest}
use Rattle.abc_run_state.specs.Outer.{Outer, setting_in}
use Rattle.abc_run_state.specs.declared.state.State.{State}
use Rattle.abc_file_types.specs.Opcodes.{is_in}
use Rattle.abc_file_types.specs.declared.code.Instr.TheVariants.{Plain}
use Rattle.abc_run_values.proofs.compute_steps.run_double.Goals as goal

does_so : (l : LinkedFile) (out : Outer) (s : State) (op : ℕ) → CanRun l out s (Plain op) → is_in op double_ops ≡ true → Does l out s (Plain op) 2 1 (computes_both (setting_in l out) op (newest s.frames))
does_so l out s op can among = pick (λ o. CanRun l out s (Plain o) → Does l out s (Plain o) 2 1 (computes_both (setting_in l out) o (newest s.frames))) double_ops op (op_A0 l out s, (op_A1 l out s, (op_A2 l out s, (op_A3 l out s, (op_A4 l out s, (op_A5 l out s, (op_A6 l out s, (op_A7 l out s, (op_A8 l out s, (op_A9 l out s, (op_AA l out s, (op_C5 l out s, (op_C6 l out s, (op_C7 l out s, tt)))))))))))))) among can

pub compute_both-requires : goal.compute_both-requires
compute_both-requires g c = (c.requires.0.set, (does_so c.args.linked.now g.out c.args.s.now c.args.op c.requires.0 c.requires.1).ready)

pub returns : goal.returns
returns g c = record {
  runs = turns_as c.args.linked.now g.out c.args.s.now (Plain c.args.op) 2 1 _ _ (does_so c.args.linked.now g.out c.args.s.now c.args.op c.requires.0 c.requires.1) c.compute_both.ensures.runs;
  limit = c.compute_both.ensures.limit;
}
