-- What the tables of a linked file say.
use Rattle.std.proofs.Common.{◌≡◌, ℕ, ◌<◌, ◌≤◌, List, length, nat_eq, unwrap_or, ap, sym, arith}
use Rattle.std.proofs.lemmas.List.{get_or_past}
use Rattle.abc_base.specs.declared.names.HostClass.TheVariants as hosts
use Rattle.abc_link_names.specs.Parts.{parent}
use Rattle.abc_link_names.specs.Places.{place_under}
use Rattle.abc_link_names.specs.declared.part.Part.TheVariants as parts
use Rattle.abc_base_graphs.specs.Heirs.{list_at}
use Rattle.abc_base_graphs.specs.Listed.{Listed}
use Rattle.abc_base_graphs.specs.Index.{first}
use Rattle.abc_link.specs.Tables.{AreTables, file_of_tables}
use Rattle.abc_link.specs.declared.linked.Linked.TheInside.{Inside}
use Rattle.abc_link_names.specs.Linked.{IsLinkedFile, LinkedFile, above}
use Rattle.abc_link_names.specs.Slots.{HasFewSlots, slot_numbers_of, slots_of}
use Rattle.abc_link_names.specs.declared.types.SlotInfo.{SlotInfo}
use Rattle.abc_link_names.proofs.FewSlots.{few_slots}
use Rattle.abc_link_layouts.specs.Numbering.{HasLayoutNumbers}
use Rattle.abc_link_layouts.specs.Tables.{HasSlots}

pub is_linked : (a : Inside) → AreTables a → IsLinkedFile (file_of_tables a)
is_linked a t = record { fits = t.fits; rules = t.rules; numbering = t.made_of.layouts_are.numbering; tables = t.tables; layouts = t.made_of.few }

pub has_few_slots : (a : Inside) → AreTables a → HasFewSlots (file_of_tables a)
has_few_slots a t = few_slots (file_of_tables a) (is_linked a t)

pub is_numbered : (a : Inside) → AreTables a → HasLayoutNumbers (file_of_tables a)
is_numbered a t = t.made_of.layouts_are.is

pub slots_within : (l : LinkedFile) (lists : List (Listed SlotInfo)) (n x : ℕ) → HasSlots l lists n → x < n → x < length lists
slots_within l lists n x h lt = let e = h.len in omega arith

pub slots_found : (l : LinkedFile) (lists : List (Listed SlotInfo)) (n x : ℕ) → HasSlots l lists n → x < n → (list_at lists x).values ≡ slots_of l x
slots_found l lists n x h lt = h.heirs.values_of x (slots_within l lists n x h lt)

pub numbered_found : (l : LinkedFile) (lists : List (Listed SlotInfo)) (n x k : ℕ) → HasSlots l lists n → x < n → first (nat_eq k) (list_at lists x).keys ≡ first (nat_eq k) (slot_numbers_of l x)
numbered_found l lists n x k h lt = ap (first (nat_eq k)) (h.heirs.keys_of x (slots_within l lists n x h lt))

-- above what is no layout stands that of Object's instances
pub none_above : (l : LinkedFile) (x : ℕ) → length l.parts ≤ x → 0 ≡ above l x
none_above l x le = sym (ap (λ p. unwrap_or (place_under l.parts (parent l.file p)) 0) (get_or_past l.parts x (parts.Host hosts.Object) le))
