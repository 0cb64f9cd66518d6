-- The operands of what asks for numbers are there.
use Rattle.std.proofs.Common.{◌≡◌, ℕ, ◌<◌, length, true, arith}
use Rattle.abc_run_dispatch.specs.StepGroups.{first_order_ops, last_order_ops, to_number_ops}
use Rattle.abc_run_values.proofs.ComputingOps.{op_73, op_74, op_75, op_A0, op_A1, op_A2, op_A3, op_A4, op_A5, op_A6, op_A7, op_A8, op_A9, op_AA, op_C5, op_C6, op_C7}
use Rattle.abc_run_values.proofs.Doing.{Does, pick}
use Rattle.abc_run_values.proofs.OtherOps.{op_0C, op_0D, op_0E, op_0F, op_15, op_16, op_17, op_18}
use Rattle.abc_run_values.specs.Groups.{double_ops}
use Rattle.abc_run_values.specs.Ready.{CanRun}
use Rattle.abc_link_names.specs.Linked.{LinkedFile}
use Rattle.abc_frames.specs.Frame.{newest}
use Rattle.abc_meaning.specs.At.{Act}
use Rattle.abc_run_state.specs.Outer.{Outer}
use Rattle.abc_meaning.specs.World.{Run}
use Rattle.abc_run_state.specs.declared.state.State.{State}
use Rattle.abc_file_types.specs.Opcodes.{is_in}
use Rattle.abc_file_types.specs.declared.code.Instr.{Instr}
use Rattle.abc_file_types.specs.declared.code.Instr.TheVariants.{Branch, Plain}

one_of : (l : LinkedFile) (out : Outer) (s : State) (i : Instr) (g : ℕ) (m : Run Act) → Does l out s i 1 g m → 0 < length (newest s.frames).stack
one_of l out s i g m d = let t = d.ready.operands in omega (arith, t)

two_of : (l : LinkedFile) (out : Outer) (s : State) (i : Instr) (g : ℕ) (m : Run Act) → Does l out s i 2 g m → 1 < length (newest s.frames).stack
two_of l out s i g m d = let t = d.ready.operands in omega (arith, t)

pub one_there : (l : LinkedFile) (out : Outer) (s : State) (op : ℕ) → CanRun l out s (Plain op) → is_in op to_number_ops ≡ true → 0 < length (newest s.frames).stack
one_there l out s op can among = pick (λ o. CanRun l out s (Plain o) → 0 < length (newest s.frames).stack) to_number_ops op ((λ c. one_of l out s _ _ _ (op_73 l out s c)), ((λ c. one_of l out s _ _ _ (op_74 l out s c)), ((λ c. one_of l out s _ _ _ (op_75 l out s c)), tt))) among can

pub two_there : (l : LinkedFile) (out : Outer) (s : State) (op : ℕ) → CanRun l out s (Plain op) → is_in op double_ops ≡ true → 1 < length (newest s.frames).stack
two_there l out s op can among = pick (λ o. CanRun l out s (Plain o) → 1 < length (newest s.frames).stack) double_ops op ((λ c. two_of l out s _ _ _ (op_A0 l out s c)), ((λ c. two_of l out s _ _ _ (op_A1 l out s c)), ((λ c. two_of l out s _ _ _ (op_A2 l out s c)), ((λ c. two_of l out s _ _ _ (op_A3 l out s c)), ((λ c. two_of l out s _ _ _ (op_A4 l out s c)), ((λ c. two_of l out s _ _ _ (op_A5 l out s c)), ((λ c. two_of l out s _ _ _ (op_A6 l out s c)), ((λ c. two_of l out s _ _ _ (op_A7 l out s c)), ((λ c. two_of l out s _ _ _ (op_A8 l out s c)), ((λ c. two_of l out s _ _ _ (op_A9 l out s c)), ((λ c. two_of l out s _ _ _ (op_AA l out s c)), ((λ c. two_of l out s _ _ _ (op_C5 l out s c)), ((λ c. two_of l out s _ _ _ (op_C6 l out s c)), ((λ c. two_of l out s _ _ _ (op_C7 l out s c)), tt)))))))))))))) among can

pub first_two_there : (l : LinkedFile) (out : Outer) (s : State) (op target : ℕ) → CanRun l out s (Branch op target) → is_in op first_order_ops ≡ true → 1 < length (newest s.frames).stack
first_two_there l out s op target can among = pick (λ o. CanRun l out s (Branch o target) → 1 < length (newest s.frames).stack) first_order_ops op ((λ c. two_of l out s _ _ _ (op_0C l out s target c)), ((λ c. two_of l out s _ _ _ (op_0D l out s target c)), ((λ c. two_of l out s _ _ _ (op_0E l out s target c)), ((λ c. two_of l out s _ _ _ (op_0F l out s target c)), tt)))) among can

pub last_two_there : (l : LinkedFile) (out : Outer) (s : State) (op target : ℕ) → CanRun l out s (Branch op target) → is_in op last_order_ops ≡ true → 1 < length (newest s.frames).stack
last_two_there l out s op target can among = pick (λ o. CanRun l out s (Branch o target) → 1 < length (newest s.frames).stack) last_order_ops op ((λ c. two_of l out s _ _ _ (op_15 l out s target c)), ((λ c. two_of l out s _ _ _ (op_16 l out s target c)), ((λ c. two_of l out s _ _ _ (op_17 l out s target c)), ((λ c. two_of l out s _ _ _ (op_18 l out s target c)), tt)))) among can
