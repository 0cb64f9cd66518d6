-- What crosses to C and back.
use Rattle.std.specs.Prelude.{ℕ, ℤ, ◌+◌, ◌≤◌, List, [], ◌∷◌, length, take, drop, pos}
use Rattle.abc_base.specs.Names.{status_code}
use Rattle.abc_base.specs.Ranges.{IsNumber}
use Rattle.abc_base.specs.declared.status.Status.{Status}
use Rattle.abc_base.specs.declared.status.Status.TheVariants as status
use Rattle.abc_heap_store.specs.declared.records.Limits.{Limits}
use Rattle.abc_c.specs.declared.crossing.Answer.{Answer}
use Rattle.abc_c.specs.declared.crossing.Bounds.{Bounds}
use Rattle.abc_c.specs.declared.crossing.Call.{Call}
use Rattle.abc_c.specs.declared.crossing.Kind.{Kind}
use Rattle.abc_c.specs.declared.crossing.Kind.TheVariants as kinds

-- the limits among the bounds
abbrev pub limits_of_bounds : Bounds → Limits
limits_of_bounds b = record { objects = b.objects; cells = b.cells; text = b.text; frames = b.frames; stack = b.stack }

-- ---- a call

-- code computes with each of its four numbers
pub record HasNumbers (c : Call) : Type 0 where
  pub first : IsNumber c.a
  pub second : IsNumber c.b
  pub third : IsNumber c.c
  pub fourth : IsNumber c.d

-- its name stands among the names, and it is given at most four of such numbers
pub record CanBeMade (names : List ℕ) (c : Call) : Type 0 where
  pub within : c.name_start + c.name_length ≤ length names
  pub few : c.count ≤ 4
  pub numbers : HasNumbers c

-- the name of the function that is called, within the names
abbrev pub name_of_call : List ℕ → Call → List ℕ
name_of_call names c = take c.name_length (drop c.name_start names)

-- the numbers that are given to a call, at most four
abbrev pub numbers_of : Call → List ℤ
numbers_of c = take c.count (c.a ∷ c.b ∷ c.c ∷ c.d ∷ [])

-- ---- an answer

abbrev pub kind_code : Kind → ℕ
kind_code kinds.Undefined = 0
kind_code kinds.Null = 1
kind_code kinds.Bool = 2
kind_code kinds.Num = 3
kind_code kinds.Text = 4
kind_code kinds.Other = 5

-- no value
abbrev pub without : Status → Answer
without s = record { status = status_code s; kind = 0; number = pos 0; text_start = 0; text_length = 0 }

-- a value with a number
abbrev pub of_value : Kind → ℤ → Answer
of_value kind number = record { status = status_code status.Done; kind = kind_code kind; number = number; text_start = 0; text_length = 0 }

-- a text, which stands there in the output
abbrev pub text_at : (start many : ℕ) → Answer
text_at start many = record { status = status_code status.Done; kind = kind_code kinds.Text; number = pos 0; text_start = start; text_length = many }
