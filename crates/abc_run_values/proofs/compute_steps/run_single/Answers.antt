use Rattle.std.proofs.Common.{◌≡◌, ℕ, true}
use Rattle.abc_run_state.specs.Plain.{computes_top}
use Rattle.abc_run_values.proofs.ComputingOps.{op_90, op_91, op_93, op_95, op_96, op_97, op_C0, op_C1, op_C4}
use Rattle.abc_run_values.proofs.Doing.{Does, pick, turns_as}
use Rattle.abc_run_values.specs.Groups.{single_ops}
use Rattle.abc_run_values.specs.Ready.{CanRun}
use Rattle.abc_link_names.specs.Linked.{LinkedFile}
use Rattle.abc_frames.specs.Frame.{newest}
use Rattle.abc_run_state.specs.Outer.{Outer}
use Rattle.abc_run_state.specs.declared.state.State.{State}
use Rattle.abc_file_types.specs.Opcodes.{is_in}
use Rattle.abc_file_types.specs.declared.code.Instr.TheVariants.{Plain}
use Rattle.abc_run_values.proofs.compute_steps.run_single.Goals as goal

does_so : (l : LinkedFile) (out : Outer) (s : State) (op : ℕ) → CanRun l out s (Plain op) → is_in op single_ops ≡ true → Does l out s (Plain op) 1 1 (computes_top op (newest s.frames))
does_so l out s op can among = pick (λ o. CanRun l out s (Plain o) → Does l out s (Plain o) 1 1 (computes_top o (newest s.frames))) single_ops op (op_90 l out s, (op_91 l out s, (op_93 l out s, (op_95 l out s, (op_96 l out s, (op_97 l out s, (op_C0 l out s, (op_C1 l out s, (op_C4 l out s, tt))))))))) among can

pub compute_top-requires : goal.compute_top-requires
compute_top-requires g c = (c.requires.0.set, (does_so c.args.linked.now g.out c.args.s.now c.args.op c.requires.0 c.requires.1).ready)

pub returns : goal.returns
returns g c = record {
  runs = turns_as c.args.linked.now g.out c.args.s.now (Plain c.args.op) 1 1 _ _ (does_so c.args.linked.now g.out c.args.s.now c.args.op c.requires.0 c.requires.1) c.compute_top.ensures.runs;
  limit = c.compute_top.ensures.limit;
}
