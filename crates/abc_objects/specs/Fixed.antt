-- The fixed texts, one after the other at the head of part 0 (profile: docs/MACHINE.md, "Heap and room").
use Rattle.std.specs.Prelude.{ℕ, List, codes}
use Rattle.abc_heap_values.specs.declared.values.Span.{Span}
use Rattle.abc_objects.specs.declared.fixed.FixedText.{FixedText}
use Rattle.abc_objects.specs.declared.fixed.FixedText.TheVariants as fixed

abbrev pub fixed_bytes : List ℕ
fixed_bytes = codes "undefinednulltruefalsenumberbooleanstringobjectfunctionmessage"

abbrev pub in_fixed : ℕ → ℕ → Span
in_fixed start len = record { part = 0; start = start; len = len }

-- where a fixed text is in part 0
abbrev pub fixed_span : FixedText → Span
fixed_span fixed.Empty = in_fixed 0 0
fixed_span fixed.Undefined = in_fixed 0 9
fixed_span fixed.Null = in_fixed 9 4
fixed_span fixed.True = in_fixed 13 4
fixed_span fixed.False = in_fixed 17 5
fixed_span fixed.Number = in_fixed 22 6
fixed_span fixed.Boolean = in_fixed 28 7
fixed_span fixed.Str = in_fixed 35 6
fixed_span fixed.Object = in_fixed 41 6
fixed_span fixed.Function = in_fixed 47 8
fixed_span fixed.Message = in_fixed 55 7

-- the bytes of a fixed text
abbrev pub fixed_name : FixedText → List ℕ
fixed_name fixed.Empty = codes ""
fixed_name fixed.Undefined = codes "undefined"
fixed_name fixed.Null = codes "null"
fixed_name fixed.True = codes "true"
fixed_name fixed.False = codes "false"
fixed_name fixed.Number = codes "number"
fixed_name fixed.Boolean = codes "boolean"
fixed_name fixed.Str = codes "string"
fixed_name fixed.Object = codes "object"
fixed_name fixed.Function = codes "function"
fixed_name fixed.Message = codes "message"
