-- The lines of code, as they are read.
use Rattle.std.specs.Prelude.{◌≡◌, ◌-◌, ◌^◌, min, List, ◌++◌, Ok, Err}
use Rattle.std.specs.declared.result.Result.{Result}
use Rattle.abc_file_types.specs.declared.code.Instr.{Instr}
use Rattle.abc_file_types.specs.CodeBytes.{code_len}
use Rattle.abc_text_lines.specs.Reasons.{least}
use Rattle.abc_text_lines.specs.Lines.{Row}
use Rattle.abc_text_lines.specs.Rows.{Fault, code_reads, unless, ◌>>=◌}
use Rattle.abc_text_lines.specs.File.{faults, instructions}
use Rattle.abc_text_reader.specs.declared.error.AsmError.{AsmError}
use Rattle.abc_text_reader.specs.declared.reader.Reader.{Reader}
use Rattle.abc_text_reader.specs.Parts.{BlockItem, TextPart}
use Rattle.abc_text_reader.specs.Reading.{Goes, rows_left}
use Rattle.abc_text_reader.specs.declared.gathering.Gathering.{Gathering}

-- instructions, and label lines among them
abbrev pub code_read : TextPart (List Instr)
code_read v instances n rows = code_reads (faults v instances) (instructions v instances) rows

-- the line of an instruction
abbrev pub instruction_read : BlockItem Instr
instruction_read v instances n row rows = unless (least (faults v instances row rows)) row.number (Ok ((instructions v instances).value row, rows))

-- a label line
abbrev pub label_read : BlockItem (Unit {0})
label_read v instances n row rows = unless (least (faults v instances row rows)) row.number (Ok (tt, rows))

-- the result of a reader that leaves what it read in a list
abbrev pub list_or_error : Result (Unit {0}) AsmError → List Instr → Result (List Instr) AsmError
list_or_error (Ok t) xs = Ok xs
list_or_error (Err e) xs = Err e

-- the length is that of the instructions, and no more than 2^64 - 1
abbrev pub IsSummed : Gathering → Type 0
IsSummed g = g.len ≡ min (code_len g.instrs) (2 ^ 64 - 1)

-- some instructions before those that are read
abbrev pub code_front : List Instr → Result (List Instr × List Row) Fault → Result (List Instr × List Row) Fault
code_front front r = r >>= λ x. Ok (front ++ x.0, x.1)

-- What was read, and what is left, is what is read of all.
pub record IsCoding (xs : List Instr) (old new : Reader) : Type 0 where
  pub goes : Goes old new
  pub reads : code_front xs (code_read old.sizes old.instances 0 (rows_left new)) ≡ code_read old.sizes old.instances 0 (rows_left old)
