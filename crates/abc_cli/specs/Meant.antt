-- What a meaning is answered with: what is written of it, and a line for each end but Done (profile: docs/PROGRAM.md, "Statuses").
use Rattle.std.specs.Prelude.{◌≡◌, ℕ, List, unwrap_or}
use Rattle.abc_base.specs.Names.{fault_name}
use Rattle.abc_base.specs.declared.status.Status.{Status}
use Rattle.abc_base.specs.declared.status.Status.TheVariants as status
use Rattle.abc_heap_store.specs.declared.records.Limits.{Limits}
use Rattle.abc_meaning.specs.Meaning.{Meaning, Ran, TooSmall}
use Rattle.abc_meaning.specs.Throwing.{Done, End, FuelSpent, Full, Profile, Stuck, Uncaught}
use Rattle.abc_meaning.specs.Lines.{thrown_name}
use Rattle.abc_link_names.specs.Owners.{body_of}
use Rattle.abc_file_types.specs.declared.tables.Abc.{Abc}
use Rattle.abc_verify.specs.FileRefusing.{offset_in}
use Rattle.abc_cli_answers.specs.declared.command.RunOptions.{RunOptions}
use Rattle.abc_cli_answers.specs.Answers.{Answer, bytes_answer, line_answer}
use Rattle.abc_cli_answers.specs.Lines.{code_text, fuel_spent_text, limit_text, told_line, uncaught_text}

-- ---- the end of a run

-- an answer that writes bytes and a line
abbrev pub bytes_and_line : Status → List ℕ → List ℕ → Answer
bytes_and_line s wrote text = record { status = s; out = wrote; err = told_line text }

-- where an instruction of a method began in its code as it was read
abbrev pub place_as_read : Abc → List (List ℕ) → ℕ → ℕ → ℕ
place_as_read v starts m i = offset_in starts (unwrap_or (body_of v m) 0) i

-- what is answered of an end of a file that was read so, and of what was written; a verified file never comes to a stuck one
abbrev pub IsEnded : Abc → (starts : List (List ℕ)) → (wrote : List ℕ) → End → Answer → Type 0
IsEnded v starts wrote Done a = a ≡ bytes_answer wrote
IsEnded v starts wrote (Uncaught t) a = a ≡ bytes_and_line status.Uncaught wrote (uncaught_text (thrown_name v t))
IsEnded v starts wrote (Profile m i fault) a = a ≡ bytes_and_line status.Profile wrote (code_text m (place_as_read v starts m i) (fault_name fault))
IsEnded v starts wrote FuelSpent a = a ≡ bytes_and_line status.Fuel wrote fuel_spent_text
IsEnded v starts wrote (Full limit) a = a ≡ bytes_and_line status.Limit wrote (limit_text limit)
IsEnded v starts wrote Stuck a = ⊥

-- of a meaning
abbrev pub IsMeant : Abc → (starts : List (List ℕ)) → Meaning → Answer → Type 0
IsMeant v starts (TooSmall limit) a = a ≡ line_answer status.Limit (limit_text limit)
IsMeant v starts (Ran wrote end) a = IsEnded v starts wrote end a

-- ---- the limits of the words

-- the limits among the options of a run
abbrev pub limits_of : RunOptions → Limits
limits_of o = record { objects = o.objects; cells = o.cells; text = o.text; frames = o.frames; stack = o.stack }
