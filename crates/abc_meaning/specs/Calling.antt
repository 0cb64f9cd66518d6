-- Calls of values (Overview, chapter 5; profile: docs/MACHINE.md, "The rules of a run").
use Rattle.std.specs.Prelude.{ℕ, ℤ, pos, List, [], ◌∷◌, ◌++◌, length, map, slice_get, Some, None, nat_eq, if◌then◌else◌}
use Rattle.std.specs.declared.option.Option.{Option}
use Rattle.abc_base.specs.Hosts.{number_or_none, value_of}
use Rattle.abc_base.specs.declared.formula.Formula.{Formula}
use Rattle.abc_base.specs.declared.names.Fault.TheVariants as faults
use Rattle.abc_base.specs.declared.names.HostClass.TheVariants as hosts
use Rattle.abc_heap_values.specs.declared.values.ObjId.{ObjId}
use Rattle.abc_heap_values.specs.declared.values.Value.{Value}
use Rattle.abc_heap_values.specs.declared.values.Value.TheVariants.{Undefined, Null, Num, Text, Obj}
use Rattle.abc_heap_store.specs.Texts.{text_of}
use Rattle.abc_heap_store.specs.declared.records.What.{What}
use Rattle.abc_heap_store.specs.declared.records.What.TheVariants as whats
use Rattle.abc_meaning.specs.Entering.{enters, global}
use Rattle.abc_frames.specs.Frame.{Frame}
use Rattle.abc_meaning.specs.Objects.{place}
use Rattle.abc_meaning.specs.Ops.{coerces, as_number, as_text}
use Rattle.abc_meaning.specs.Setting.{Setting, type_of_class, type_of_host}
use Rattle.abc_meaning.specs.World.{Run, World, pure, fails, throws, writes, ◌>>=◌, ◌>>◌, some, the, see, each_of, object_named}

-- what a read, a call or a new comes to: a value, a method that is entered, or one with the object that it makes
pub data Came : Type 0 where
  Got : Value → Came
  Calls : Frame → Came
  Makes : Frame → Value → Came

abbrev pub got : Value → Run Came
got v = pure (Got v)

abbrev pub calls_frame : Frame → Run Came
calls_frame f = pure (Calls f)

-- ---- functions: one that is bound ignores the receiver; to another that is null or undefined it is its script's global object

abbrev pub this_of : Option ObjId → ℕ → Value → World → Value
this_of (Some o) home receiver w = Obj o
this_of None home Undefined w = global home w
this_of None home Null w = global home w
this_of None home receiver w = receiver

-- ---- class objects: exactly one argument, which is coerced to the class's type

abbrev pub only_argument : List Value → (Value → Run Came) → Run Came
only_argument (v ∷ []) f = f v
only_argument vs f = throws hosts.ArgumentError

-- ---- trace: all texts are made before the first byte is written

abbrev pub trace_bytes : Setting → World → Value → List ℕ
trace_bytes p w (Text t) = text_of p.linked.file.strings w.heap t
trace_bytes p w other = []

-- one space between the texts, and a line feed
abbrev pub trace_line : Setting → List Value → World → List ℕ
trace_line p [] w = 10 ∷ []
trace_line p (t ∷ []) w = trace_bytes p w t ++ 10 ∷ []
trace_line p (t ∷ u ∷ ts) w = trace_bytes p w t ++ 32 ∷ trace_line p (u ∷ ts) w

abbrev pub trace : Setting → List Value → Run Came
trace p args = do
  texts ← each_of (as_text p) args
  bytes ← see (trace_line p texts)
  writes bytes
  got Undefined

-- ---- formulas: as many arguments as factors, each made a number

abbrev pub number_of_argument : Value → ℤ
number_of_argument (Num n) = n
number_of_argument other = pos 0

abbrev pub number_in_range : Option ℤ → Run Came
number_in_range None = fails faults.Range
number_in_range (Some n) = got (Num n)

abbrev pub calls_formula : Setting → Formula → List Value → Run Came
calls_formula p f args = if nat_eq (length args) (length f.factors) then (each_of (as_number p) args >>= λ vs. number_in_range (number_or_none (value_of f (map number_of_argument vs)))) else throws hosts.ArgumentError

-- ---- any value

abbrev pub calls_what : Setting → What → Value → List Value → Run Came
calls_what p (whats.Closure method home scope bound) receiver args = see (this_of bound home receiver) >>= λ this. enters p method this (place home scope) args >>= calls_frame
calls_what p (whats.ClassObject k home statics instances) receiver args = only_argument args (λ v. coerces p (type_of_class p k) v >>= got)
calls_what p (whats.HostClass c) receiver args = only_argument args (λ v. coerces p (type_of_host p c) v >>= got)
calls_what p whats.Trace receiver args = trace p args
calls_what p (whats.Formula n) receiver args = some (slice_get p.formulas n) >>= λ f. calls_formula p f args
calls_what p other receiver args = throws hosts.TypeError

abbrev pub calls : Setting → Value → Value → List Value → Run Came
calls p (Obj o) receiver args = the (object_named o) >>= λ ob. calls_what p ob.what receiver args
calls p v receiver args = throws hosts.TypeError
