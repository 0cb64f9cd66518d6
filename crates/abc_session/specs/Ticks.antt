-- A run, and then calls of a method with 0, 1 and so on, each on what the one before left, as one run: what is written, with a line for each value,
-- and how it ends (profile: docs/PROGRAM.md, "Words").
use Rattle.std.specs.Prelude.{ℕ, zero, suc, ◌+◌, pos, List, [], ◌∷◌, ◌++◌, true, false, codes}
use Rattle.std.specs.Fmt.{signed_decimal}
use Rattle.abc_base.specs.declared.formula.Formula.{Formula}
use Rattle.abc_meaning.specs.Calls.{Call, EndsAs, Gives, Replied, Reply, session}
use Rattle.abc_heap_store.specs.Heap.{Heap}
use Rattle.abc_heap_store.specs.Texts.{text_of}
use Rattle.abc_heap_store.specs.declared.records.Limits.{Limits}
use Rattle.abc_meaning.specs.Meaning.{Meaning, Ran, TooSmall, first_state, runs_for}
use Rattle.abc_meaning.specs.Throwing.{Done, End}
use Rattle.abc_meaning.specs.World.{World}
use Rattle.abc_meaning.specs.Setting.{Setting}
use Rattle.abc_machine.specs.declared.replies.PlainValue.{PlainValue}
use Rattle.abc_machine.specs.declared.replies.PlainValue.TheVariants as values
use Rattle.abc_machine.specs.Replied.{plain_value}
use Rattle.abc_file_types.specs.declared.tables.Abc.{Abc}

-- ---- the line of a value

abbrev pub value_text : Abc → Heap → PlainValue → List ℕ
value_text v h values.Undefined = codes "undefined"
value_text v h values.Null = codes "null"
value_text v h (values.Bool true) = codes "true"
value_text v h (values.Bool false) = codes "false"
value_text v h (values.Num n) = signed_decimal n
value_text v h (values.Text s) = text_of v.strings h s
value_text v h values.Other = codes "other"

unfoldable pub value_line : Abc → Heap → PlainValue → List ℕ
value_line v h x = value_text v h x ++ 10 ∷ []

-- ---- calls one after the other

-- a method is called with one number
abbrev pub tick : (method fuel : ℕ) → List Formula → (number : ℕ) → Call
tick method fuel formulas number = record { method = method; args = pos number ∷ []; fuel = fuel; formulas = formulas }

-- so many times, with that number, the next one and so on
abbrev pub ticks : (method fuel : ℕ) → List Formula → (number times : ℕ) → List Call
ticks method fuel formulas number zero = []
ticks method fuel formulas number (suc times) = tick method fuel formulas number ∷ ticks method fuel formulas (number + 1) times

-- what was written before stands in front
abbrev pub with_output_before : List ℕ → Meaning → Meaning
with_output_before wrote (TooSmall limit) = TooSmall limit
with_output_before wrote (Ran more e) = Ran (wrote ++ more) e

-- a value is told on a line, and then come the other calls; any other end is the end of all
abbrev pub then_goes : Abc → World → Reply → Meaning → Meaning
then_goes v w (Gives x) more = with_output_before (w.wrote ++ value_line v w.heap (plain_value x)) more
then_goes v w (EndsAs e) more = Ran w.wrote e

-- calls as one run: what is written, and how it ends
abbrev pub calls_run : Abc → List Replied → Meaning
calls_run v [] = Ran [] Done
calls_run v (r ∷ rs) = then_goes v r.world r.reply (calls_run v rs)

-- ---- the run and the calls

-- where a run is done, more follows in the world that it left
abbrev pub then_follows : World → End → (World → Meaning) → Meaning
then_follows w Done more = with_output_before w.wrote (more w)
then_follows w e more = Ran w.wrote e

abbrev pub ticks_run : Setting → (method fuel times : ℕ) → World → Meaning
ticks_run p method fuel times w = calls_run p.linked.file (session p.linked w (ticks method fuel p.formulas 0 times))

-- the run of the last script and the calls of a method after it, as one run; each has the whole fuel
unfoldable pub calls_meaning : Setting → Limits → (fuel times method : ℕ) → Meaning
calls_meaning p limits fuel times method = then_follows (runs_for p fuel (first_state p limits)).world (runs_for p fuel (first_state p limits)).end (ticks_run p method fuel times)
