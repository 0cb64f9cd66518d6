-- A method with its code.
use Rattle.std.specs.Prelude.{◌≡◌, [], ℕ, List, None, Some}
use Rattle.std.specs.declared.option.Option.{Option}
use Rattle.abc_run_dispatch.specs.declared.holding.Held.{Held}
use Rattle.abc_link_names.specs.PartsByNumber.{body_at}
use Rattle.abc_link_names.specs.Linked.{LinkedFile}
use Rattle.abc_link_names.specs.Owners.{body_of}
use Rattle.abc_file_types.specs.declared.code.Instr.{Instr}

-- the code of a body of the file; where there is no body, none
abbrev pub code_in : LinkedFile → Option ℕ → List Instr
code_in l None = []
code_in l (Some b) = (body_at l.file b).code

-- what is held is the code of the method
abbrev pub IsHeld : LinkedFile → Held → Type 0
IsHeld l h = h.code.now ≡ code_in l (body_of l.file h.method)
