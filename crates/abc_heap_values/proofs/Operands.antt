-- Numbers are their own operands.
use Rattle.std.proofs.Common.{◌≡◌, ℤ, Bool, true, false, refl}
use Rattle.std.specs.declared.result.Result.TheVariants.{Ok}
use Rattle.abc_heap_values.specs.declared.operations.Operation.{Operation}
use Rattle.abc_heap_values.specs.declared.operations.Single.{Single}
use Rattle.abc_heap_values.specs.declared.values.Value.TheVariants.{Num}
use Rattle.abc_heap_values.specs.Numbers.{is_modular, is_modular_single, operand_of, operand_of_single, number_of, whole_of}
use Rattle.std.specs.Prelude.{if◌then◌else◌}

pub operand_is : (op : Operation) (n : ℤ) → operand_of op (Num n) ≡ Ok n
operand_is op n = go (is_modular op)
  where
    go : (b : Bool) → (if b then whole_of (Num n) else number_of (Num n)) ≡ Ok n
    go true = refl
    go false = refl

pub single_is : (op : Single) (n : ℤ) → operand_of_single op (Num n) ≡ Ok n
single_is op n = go (is_modular_single op)
  where
    go : (b : Bool) → (if b then whole_of (Num n) else number_of (Num n)) ≡ Ok n
    go true = refl
    go false = refl
