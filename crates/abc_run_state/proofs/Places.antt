-- What stands at a place of a list.
use Rattle.std.proofs.Common.{◌≡◌, ℕ, zero, suc, List, [], ◌∷◌, get_or, refl, sym}
use Rattle.std.specs.Prelude.{Some, slice_get}
use Rattle.abc_heap_values.specs.declared.values.Value.{Value}
use Rattle.abc_heap_values.specs.declared.values.Value.TheVariants.{Undefined}
use Rattle.abc_frames.specs.Frame.{Frame}
use Rattle.abc_run_state.specs.Operands.{local_at, operand_at}

pub got_is : (vs : List Value) (n : ℕ) (v : Value) → slice_get vs n ≡ Some v → v ≡ get_or vs n Undefined
got_is [] n v e = cc
got_is (w ∷ vs) zero v e = cc
got_is (w ∷ vs) (suc n) v e = got_is vs n v e

pub operand_is : (f : Frame) (n : ℕ) (v : Value) → slice_get f.stack n ≡ Some v → v ≡ operand_at n f
operand_is f n v e = got_is f.stack n v e

pub local_is : (f : Frame) (n : ℕ) (v : Value) → slice_get f.locals n ≡ Some v → v ≡ local_at n f
local_is f n v e = got_is f.locals n v e
