-- What is answered of an end that the machine answers, and of a machine that isn't opened.
use Rattle.std.specs.Prelude.{ℕ, ◌<◌, List, [], get_or, length, unwrap_or}
use Rattle.abc_base.specs.Names.{fault_name}
use Rattle.abc_base.specs.declared.status.Status.TheVariants as status
use Rattle.abc_cli_answers.specs.Answers.{Answer, bytes_answer, line_answer}
use Rattle.abc_cli_answers.specs.Lines.{code_text, fuel_spent_text, limit_text, no_memory_text, uncaught_text, write_fault_text}
use Rattle.abc_cli.specs.Meant.{place_as_read}
use Rattle.abc_meaning.specs.Lines.{thrown_name}
use Rattle.abc_objects.specs.declared.error.OpenError.{OpenError}
use Rattle.abc_objects.specs.declared.error.OpenError.TheVariants as errors
use Rattle.abc_link_names.specs.Owners.{body_of}
use Rattle.abc_file_types.specs.declared.tables.Abc.{Abc}
use Rattle.abc_machine.specs.declared.ends.End.{End}
use Rattle.abc_machine.specs.declared.ends.End.TheVariants as ends

-- but for what was written
abbrev pub end_answer : Abc → List (List ℕ) → End → Answer
end_answer v starts ends.Done = bytes_answer []
end_answer v starts (ends.Uncaught t) = line_answer status.Uncaught (uncaught_text (thrown_name v t))
end_answer v starts (ends.Profile m i fault) = line_answer status.Profile (code_text m (place_as_read v starts m i) (fault_name fault))
end_answer v starts ends.FuelSpent = line_answer status.Fuel fuel_spent_text
end_answer v starts (ends.Full limit) = line_answer status.Limit (limit_text limit)
end_answer v starts ends.WriteFault = line_answer status.WriteFault write_fault_text

-- an instruction of a method, or the end of its code, has a place
abbrev pub HasCodePlace : Abc → List (List ℕ) → ℕ → ℕ → Type 0
HasCodePlace v starts m i = (unwrap_or (body_of v m) 0 < length starts) × (i < length (get_or starts (unwrap_or (body_of v m) 0) []))

-- a profile fault that ends a run has its place in the code as it was read; any other end needs none
abbrev pub IsPlacedEnd : Abc → List (List ℕ) → End → Type 0
IsPlacedEnd v starts (ends.Profile m i fault) = HasCodePlace v starts m i
IsPlacedEnd v starts other = Unit {0}

-- what is answered where no machine is opened
abbrev pub open_answer : OpenError → Answer
open_answer errors.NoMemory = line_answer status.NoMemory no_memory_text
open_answer (errors.TooSmall limit) = line_answer status.Limit (limit_text limit)
