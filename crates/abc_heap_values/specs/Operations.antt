-- What the operations give (Overview, chapter 5; profile: docs/MACHINE.md, "Values, conversions and operations").
use Rattle.std.specs.Prelude.{ℤ, pos, Ok}
use Rattle.std.specs.declared.result.Result.{Result}
use Rattle.abc_base.specs.declared.names.Fault.{Fault}
use Rattle.abc_heap_values.specs.Plain.{difference, negation, product, quotient, remainder, sum}
use Rattle.abc_heap_values.specs.Whole.{bits_in_both, bits_in_either, bits_in_one, bits_turned, shifted_left, shifted_right, shifted_right_unsigned, whole_difference, whole_negated, whole_product, whole_sum}
use Rattle.abc_heap_values.specs.declared.operations.Operation.{Operation}
use Rattle.abc_heap_values.specs.declared.operations.Operation.TheVariants as ops
use Rattle.abc_heap_values.specs.declared.operations.Single.{Single}
use Rattle.abc_heap_values.specs.declared.operations.Single.TheVariants as singles

-- what an operation gives of two numbers, the left first, or its fault
abbrev pub calculation : Operation → ℤ → ℤ → Result ℤ Fault
calculation ops.Add x y = sum x y
calculation ops.Subtract x y = difference x y
calculation ops.Multiply x y = product x y
calculation ops.Divide x y = quotient x y
calculation ops.Modulo x y = remainder x y
calculation ops.ShiftLeft x y = Ok (shifted_left x y)
calculation ops.ShiftRight x y = Ok (shifted_right x y)
calculation ops.ShiftRightUnsigned x y = Ok (shifted_right_unsigned x y)
calculation ops.BitAnd x y = Ok (bits_in_both x y)
calculation ops.BitOr x y = Ok (bits_in_either x y)
calculation ops.BitXor x y = Ok (bits_in_one x y)
calculation ops.AddWhole x y = Ok (whole_sum x y)
calculation ops.SubtractWhole x y = Ok (whole_difference x y)
calculation ops.MultiplyWhole x y = Ok (whole_product x y)

-- what an operation gives of one number, or its fault
abbrev pub calculated_single : Single → ℤ → Result ℤ Fault
calculated_single singles.Negate x = negation x
calculated_single singles.Increment x = sum x (pos 1)
calculated_single singles.Decrement x = difference x (pos 1)
calculated_single singles.BitNot x = Ok (bits_turned x)
calculated_single singles.NegateWhole x = Ok (whole_negated x)
calculated_single singles.IncrementWhole x = Ok (whole_sum x (pos 1))
calculated_single singles.DecrementWhole x = Ok (whole_difference x (pos 1))
