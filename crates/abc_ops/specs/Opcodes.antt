-- The operations of opcodes (Overview, chapter 5).
use Rattle.std.specs.Prelude.{ℕ, nat_eq, if◌then◌else◌}
use Rattle.abc_heap_values.specs.declared.operations.Operation.{Operation}
use Rattle.abc_heap_values.specs.declared.operations.Operation.TheVariants as ops
use Rattle.abc_heap_values.specs.declared.operations.Single.{Single}
use Rattle.abc_heap_values.specs.declared.operations.Single.TheVariants as singles
use Rattle.abc_ops.specs.declared.opcodes.Comparison.{Comparison}
use Rattle.abc_ops.specs.declared.opcodes.Comparison.TheVariants.{Equal, StrictlyEqual, Ordered}
use Rattle.abc_heap_values.specs.declared.order.Order.TheVariants.{Less, LessOrEqual, Greater, GreaterOrEqual}
use Rattle.abc_file_types.specs.declared.op.TheConstants as op

-- the operation of an opcode that computes of two values
abbrev pub operation_of : ℕ → Operation
operation_of code =
    if nat_eq code op.ADD then ops.Add
    else (if nat_eq code op.SUBTRACT then ops.Subtract
    else (if nat_eq code op.MULTIPLY then ops.Multiply
    else (if nat_eq code op.DIVIDE then ops.Divide
    else (if nat_eq code op.MODULO then ops.Modulo
    else (if nat_eq code op.LSHIFT then ops.ShiftLeft
    else (if nat_eq code op.RSHIFT then ops.ShiftRight
    else (if nat_eq code op.URSHIFT then ops.ShiftRightUnsigned
    else (if nat_eq code op.BITAND then ops.BitAnd
    else (if nat_eq code op.BITOR then ops.BitOr
    else (if nat_eq code op.BITXOR then ops.BitXor
    else (if nat_eq code op.ADD_I then ops.AddWhole
    else (if nat_eq code op.SUBTRACT_I then ops.SubtractWhole
    else ops.MultiplyWhole))))))))))))

-- the operation of an opcode that computes of one value, but for not and typeof
abbrev pub single_of : ℕ → Single
single_of code =
    if nat_eq code op.NEGATE then singles.Negate
    else (if nat_eq code op.INCREMENT then singles.Increment
    else (if nat_eq code op.DECREMENT then singles.Decrement
    else (if nat_eq code op.BITNOT then singles.BitNot
    else (if nat_eq code op.INCREMENT_I then singles.IncrementWhole
    else (if nat_eq code op.DECREMENT_I then singles.DecrementWhole
    else singles.NegateWhole)))))

-- the comparison of an opcode that compares two values
abbrev pub comparison_of : ℕ → Comparison
comparison_of code =
    if nat_eq code op.EQUALS then Equal
    else (if nat_eq code op.STRICTEQUALS then StrictlyEqual
    else (if nat_eq code op.LESSTHAN then Ordered Less
    else (if nat_eq code op.LESSEQUALS then Ordered LessOrEqual
    else (if nat_eq code op.GREATERTHAN then Ordered Greater
    else Ordered GreaterOrEqual))))
