-- Where a method catches a value, and goes on.
use Rattle.std.specs.Prelude.{ℕ, List, [], Bool, false, ◌&&◌, nat_le, nat_lt, Some, None}
use Rattle.std.specs.declared.option.Option.{Option}
use Rattle.std.specs.List.{find}
use Rattle.abc_heap_values.specs.declared.values.Value.{Value}
use Rattle.abc_heap_store.specs.Heap.{Heap}
use Rattle.abc_link_names.specs.PartsByNumber.{body_at}
use Rattle.abc_link_names.specs.Linked.{LinkedFile}
use Rattle.abc_link_names.specs.Owners.{body_of}
use Rattle.abc_link_names.specs.Types.{type_of}
use Rattle.abc_link_names.specs.declared.types.Ty.{Ty}
use Rattle.abc_file_types.specs.declared.code.Handler.{Handler}
use Rattle.abc_meaning.specs.Types.{is_of_type}

-- a value that is thrown in a file
pub record Held : Type 0 where
  pub linked : LinkedFile
  pub heap : Heap
  pub value : Value

abbrev pub is_caught_by : LinkedFile → Heap → Value → Option Ty → Bool
is_caught_by l h v None = false
is_caught_by l h v (Some t) = is_of_type l h t v

abbrev pub handler_catches : LinkedFile → Heap → Value → (place : ℕ) → Handler → Bool
handler_catches l h v i handler = nat_le handler.from i && nat_lt i handler.to && is_caught_by l h v (type_of l handler.exc_type)

abbrev pub target_of_handler : Option Handler → Option ℕ
target_of_handler None = None
target_of_handler (Some h) = Some h.target

abbrev pub handlers_of_body : LinkedFile → Option ℕ → List Handler
handlers_of_body l None = []
handlers_of_body l (Some b) = (body_at l.file b).handlers

-- the first handler that catches it
abbrev pub target_for_value : LinkedFile → Heap → Value → (method place : ℕ) → Option ℕ
target_for_value l h v n i = target_of_handler (find (handler_catches l h v i) (handlers_of_body l (body_of l.file n)))
