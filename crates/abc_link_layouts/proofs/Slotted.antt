-- Slots of one layout more.
use Rattle.std.proofs.Common.{◌≡◌, ℕ, ◌+◌, ◌<◌, List, [], ◌∷◌, ◌++◌, Some, None, length, refl, sym, ap, subst, ◌∙◌, arith, length-append}
use Rattle.std.specs.declared.option.Option.{Option}
use Rattle.std.specs.List.{flat_map}
use Rattle.std.specs.Option.{IfSome}
use Rattle.abc_base.specs.declared.names.HostClass.TheVariants as hosts
use Rattle.abc_base_graphs.specs.Ways.{IsFalling}
use Rattle.abc_base_graphs.specs.Heirs.{AreHeirs, list_of_base}
use Rattle.abc_base_graphs.specs.Listed.{Listed, both_lists}
use Rattle.abc_base_graphs.proofs.Laid.{heirs_next, no_heirs}
use Rattle.abc_file_types.specs.declared.traits.TraitBody.{TraitBody}
use Rattle.abc_file_types.specs.declared.traits.TraitBody.TheVariants as traits
use Rattle.abc_file_types.specs.declared.traits.TraitInfo.{TraitInfo}
use Rattle.abc_link_names.specs.Linked.{LinkedFile, base_layout}
use Rattle.abc_link_names.specs.Numbering.{IsNumbering, part_at}
use Rattle.abc_link_names.specs.Slots.{slot_numbers_in, own_numbers, own_slots, slots_in, traits_of}
use Rattle.abc_link_names.specs.declared.part.Part.{Part}
use Rattle.abc_link_names.specs.declared.part.Part.TheVariants as parts
use Rattle.abc_link_names.specs.declared.types.SlotInfo.{SlotInfo}
use Rattle.abc_link_names.proofs.Finding.{falling}
use Rattle.abc_link_layouts.specs.Tables.{HasSlots}

pub slots_none : (l : LinkedFile) → IsNumbering l.file l.parts → HasSlots l [] 0
slots_none l n = record { len = refl; heirs = no_heirs (base_layout l) (λ y. own_slots l (part_at l.parts y)) (λ y. own_numbers l (part_at l.parts y)) (falling l.file l.parts n) }

-- each slot has a number
one_paired : (l : LinkedFile) (b : TraitBody) → length (slots_in l b) ≡ length (slot_numbers_in b)
one_paired l (traits.Slot id ty value constant) = refl
one_paired l (traits.Method disp m) = refl
one_paired l (traits.Getter disp m) = refl
one_paired l (traits.Setter disp m) = refl
one_paired l (traits.Class id k) = refl
one_paired l (traits.Function id m) = refl

all_paired : (l : LinkedFile) (ts : List TraitInfo) → length (flat_map (λ (t : TraitInfo). slots_in l t.body) ts) ≡ length (flat_map (λ (t : TraitInfo). slot_numbers_in t.body) ts)
all_paired l [] = refl
all_paired l (t ∷ ts) =
    let a = length-append (slots_in l t.body) (flat_map (λ (t : TraitInfo). slots_in l t.body) ts) in
    let b = length-append (slot_numbers_in t.body) (flat_map (λ (t : TraitInfo). slot_numbers_in t.body) ts) in
    let e = one_paired l t.body in
    let r = all_paired l ts in
    omega (arith, a, b, e, r)

pub own_paired : (l : LinkedFile) (p : Part) → length (own_slots l p) ≡ length (own_numbers l p)
own_paired l (parts.Host hosts.Class) = refl
own_paired l (parts.Catch b e) = refl
own_paired l p = all_paired l (traits_of l.file p)

pub base_low : (l : LinkedFile) (x b n : ℕ) → IsNumbering l.file l.parts → n ≡ x → base_layout l x ≡ Some b → b < n
base_low l x b n h e f = let q = (falling l.file l.parts h).falls x b f in omega arith

pub slots_next : (l : LinkedFile) (lists new : List (Listed SlotInfo)) (x : ℕ) (b : Option ℕ) (own : List SlotInfo) (keys : List ℕ) → IsNumbering l.file l.parts → HasSlots l lists x → b ≡ base_layout l x
    → own ≡ own_slots l (part_at l.parts x) → keys ≡ own_numbers l (part_at l.parts x) → new ≡ lists ++ both_lists (list_of_base lists b) (record { values = own; keys = keys }) ∷ [] → HasSlots l new (x + 1)
slots_next l lists new x b own keys n h is_b is_own is_keys is = record {
  len = ap length is ∙ length-append lists (both_lists (list_of_base lists b) list ∷ []) ∙ ap (λ m. m + 1) h.len;
  heirs = subst (λ (ls : List (Listed SlotInfo)). AreHeirs (base_layout l) values numbers ls) (sym (is ∙ ap (λ (o : Option ℕ). lists ++ both_lists (list_of_base lists o) list ∷ []) at))
      (heirs_next (base_layout l) values numbers (falling l.file l.parts n) lists list h.heirs (is_own ∙ ap values (sym h.len)) (is_keys ∙ ap numbers (sym h.len)));
}
  where
    list : Listed SlotInfo
    list = record { values = own; keys = keys }

    values : ℕ → List SlotInfo
    values y = own_slots l (part_at l.parts y)

    numbers : ℕ → List ℕ
    numbers y = own_numbers l (part_at l.parts y)

    at : b ≡ base_layout l (length lists)
    at = is_b ∙ ap (base_layout l) (sym h.len)

pub base_known : (l : LinkedFile) (lists : List (Listed SlotInfo)) (x : ℕ) (o : Option ℕ) → IsNumbering l.file l.parts → HasSlots l lists x → o ≡ base_layout l x → IfSome o (λ b. b < length lists)
base_known l lists x None n h e = tt
base_known l lists x (Some b) n h e = base_low l x b (length lists) n h.len (sym e)
