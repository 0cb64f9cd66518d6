-- What is proved of the options of a linked file's methods.
use Rattle.std.specs.Prelude.{◌≡◌, ℕ, slice_get, Some}
use Rattle.abc_run_calls.specs.Arguments.{HasOptions}
use Rattle.abc_link_names.specs.Linked.{IsLinkedFile, LinkedFile}
use Rattle.abc_file_types.specs.declared.methods.Method.{Method}

-- in a linked file, the number of each option of a method is below 2 ^ 30, and its value, if it has one, exists in any heap over the file
abbrev pub OptionsAreThere : Type 0
OptionsAreThere = (l : LinkedFile) → IsLinkedFile l → (n : ℕ) (m : Method) → slice_get l.file.methods n ≡ Some m → HasOptions l m
