-- What `run` and `gen` are answered with (profile: docs/PROGRAM.md, "Words" and "Statuses").
use Rattle.std.specs.Prelude.{◌≡◌, ℕ, List, ◌≢◌, ◌++◌}
use Rattle.abc_base.specs.declared.formula.Formula.{Formula}
use Rattle.abc_base.specs.declared.status.Status.TheVariants as status
use Rattle.abc_meaning.specs.Meaning.{meaning}
use Rattle.abc_link_names.specs.Linked.{LinkedFile}
use Rattle.abc_file_types.specs.declared.tables.Abc.{Abc}
use Rattle.abc_verify.specs.Verified.{IsVerifiedOf}
use Rattle.abc_cli_answers.specs.Commands.{cells as cells_option, frames as frames_option, fuel as fuel_option, objects_option, stack as stack_option, text_option}
use Rattle.abc_cli_answers.specs.declared.command.RunOptions.{RunOptions}
use Rattle.abc_cli_answers.specs.Answers.{Answer, OfFileRead, Unverified, bytes_answer}
use Rattle.abc_cli_answers.specs.Generated.{generated_file}
use Rattle.abc_cli_answers.specs.Measured.{size_lines}
use Rattle.abc_file_types.specs.Files.{file_bytes}
use Rattle.abc_cli_answers.specs.declared.command.GenOptions.{GenOptions}
use Rattle.abc_cli.specs.Meant.{IsMeant, limits_of}

-- `run` of a file that was read so, with the formulas of a host: why it isn't verified, or else what is meant by it
pub data RunOfFile (o : RunOptions) (formulas : List Formula) (v : Abc) (starts : List (List ℕ)) (a : Answer) : Type 0 where
  unverified : Unverified v starts a → RunOfFile o formulas v starts a
  ran : (l : LinkedFile) → IsVerifiedOf v l → IsMeant v starts (meaning (record { linked = l; formulas = formulas }) (limits_of o) o.fuel) a → RunOfFile o formulas v starts a

-- the options where no word gives one
abbrev pub default_options : RunOptions
default_options = record {
  fuel = fuel_option.default;
  objects = objects_option.default;
  cells = cells_option.default;
  text = text_option.default;
  frames = frames_option.default;
  stack = stack_option.default;
}

-- `gen`: as `run` of the canonical bytes of the generated file with the defaults, and where that is done, the lines on the file
pub data Gen (options : GenOptions) (formulas : List Formula) (a : Answer) : Type 0 where
  done : (b : Answer) → OfFileRead (RunOfFile default_options formulas) (file_bytes (generated_file options.seed options.methods)) b → b.status ≡ status.Done → a ≡ bytes_answer (b.out ++ size_lines (generated_file options.seed options.methods)) → Gen options formulas a
  not_done : OfFileRead (RunOfFile default_options formulas) (file_bytes (generated_file options.seed options.methods)) a → a.status ≢ status.Done → Gen options formulas a
