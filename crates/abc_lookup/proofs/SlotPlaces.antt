-- The slots of layouts can be counted, and so can their parts.
use Rattle.std.proofs.Common.{◌≡◌, ℕ, zero, suc, ◌+◌, ◌<◌, ◌≤◌, ◌^◌, List, [], ◌∷◌, ◌++◌, length, take, cond, refl, ap, ◌∙◌, arith, length-append}
use Rattle.std.specs.Prelude.{Bool, true, false, Some, None, slice_get}
use Rattle.std.specs.declared.option.Option.{Option}
use Rattle.std.specs.List.{flat_map}
use Rattle.abc_base.specs.declared.names.HostClass.TheVariants as hosts
use Rattle.abc_base_graphs.specs.Heirs.{heritage}
use Rattle.abc_base_graphs.proofs.Laid.{heritage_none, heritage_some}
use Rattle.abc_link_names.specs.Linked.{IsLinkedFile, LinkedFile, base_layout}
use Rattle.abc_link_names.specs.Numbering.{part_at}
use Rattle.abc_link_names.specs.Slots.{HasFewSlots, own_slots, slots_in, slots_of, traits_of}
use Rattle.abc_link_names.specs.Traits.{own_table_of}
use Rattle.abc_link_names.specs.declared.part.Part.{Part}
use Rattle.abc_link_names.specs.declared.part.Part.TheVariants as parts
use Rattle.abc_objects.specs.Traits.{slots_under}
use Rattle.abc_file_types.specs.declared.traits.TraitBody.{TraitBody}
use Rattle.abc_file_types.specs.declared.traits.TraitBody.TheVariants as bodies
use Rattle.abc_file_types.specs.declared.traits.TraitInfo.{TraitInfo}
use Rattle.abc_link.specs.OwnSlots.{is_slot_trait, slots_before, slots_from}
use Rattle.abc_lookup.specs.Slots.{slots_in_traits, slot_of}
use Rattle.abc_lookup.proofs.Along.{bases_fall}

-- a count of the traits that have slots
one_more : (l : LinkedFile) (b : TraitBody) (n : ℕ) → length (slots_in l b) + n ≡ cond (is_slot_trait b) (1 + n) n
one_more l (bodies.Slot id ty value constant) n = refl
one_more l (bodies.Class id k) n = refl
one_more l (bodies.Method d m) n = omega arith
one_more l (bodies.Getter d m) n = omega arith
one_more l (bodies.Setter d m) n = omega arith
one_more l (bodies.Function id m) n = omega arith

one_step : (b : Bool) (n m k c : ℕ) → n ≡ cond b (m + 1) m + k → c ≡ cond b (1 + k) k → n ≡ m + c
one_step true n m k c h e = omega (arith, h, e)
one_step false n m k c h e = omega (arith, h, e)

-- what stands before a trait is counted so
before_from : (l : LinkedFile) (ts : List TraitInfo) (m p n : ℕ) → slice_get (slots_from m ts) p ≡ Some n → n ≡ m + slots_in_traits l (take p ts)
before_from l [] m p n e = cc
before_from l (t ∷ ts) m zero n e = let q : m ≡ n = cc in omega (arith, q)
before_from l (t ∷ ts) m (suc p) n e =
    one_step (is_slot_trait t.body) n m (slots_in_traits l (take p ts)) (slots_in_traits l (t ∷ take p ts)) (before_from l ts (cond (is_slot_trait t.body) (m + 1) m) p n e)
    (length-append (slots_in l t.body) (flat_map (λ (u : TraitInfo). slots_in l u.body) (take p ts)) ∙ one_more l t.body (slots_in_traits l (take p ts)))

-- the slots of a table are own slots
own_count : (l : LinkedFile) (p : Part) → slots_in_traits l (traits_of l.file p) ≤ length (own_slots l p)
own_count l (parts.Host hosts.Class) = omega arith
own_count l (parts.Catch b e) = omega arith
own_count l p = omega arith

take_count : (l : LinkedFile) (ts : List TraitInfo) (p : ℕ) → slots_in_traits l (take p ts) ≤ slots_in_traits l ts
take_count l ts zero = omega arith
take_count l [] (suc p) = omega arith
take_count l (t ∷ ts) (suc p) =
    let h = take_count l ts p in
    omega (arith, h, length-append (slots_in l t.body) (flat_map (λ (u : TraitInfo). slots_in l u.body) (take p ts)), length-append (slots_in l t.body) (flat_map (λ (u : TraitInfo). slots_in l u.body) ts))

-- the slots of a layout are those under it, and then its own
under : (l : LinkedFile) → IsLinkedFile l → (x : ℕ) → length (slots_of l x) ≡ slots_under l (base_layout l x) + length (own_slots l (part_at l.parts x))
under l f x =
    ap length (heritage_some (base_layout l) (λ y. own_slots l (part_at l.parts y)) (bases_fall l f) x)
    ∙ go (base_layout l x)
  where
    go : (o : Option ℕ) → length (heritage (base_layout l) (λ y. own_slots l (part_at l.parts y)) o ++ own_slots l (part_at l.parts x)) ≡ slots_under l o + length (own_slots l (part_at l.parts x))
    go None = length-append (heritage (base_layout l) (λ y. own_slots l (part_at l.parts y)) None) (own_slots l (part_at l.parts x)) ∙ ap (λ xs. length xs + length (own_slots l (part_at l.parts x))) (heritage_none (base_layout l) (λ y. own_slots l (part_at l.parts y)))
    go (Some b) = length-append (slots_of l b) (own_slots l (part_at l.parts x))

pub few_under : (l : LinkedFile) → IsLinkedFile l → HasFewSlots l → (x : ℕ) → x < length l.parts → slots_under l (base_layout l x) < 2 ^ 32
few_under l f few x lt = let e = under l f x in let h = few x lt in omega arith

pub few_before : (l : LinkedFile) → IsLinkedFile l → HasFewSlots l → (x p : ℕ) → x < length l.parts → slot_of l x p < 2 ^ 32
few_before l f few x p lt =
    let e = under l f x in
    let h = few x lt in
    let a = own_count l (part_at l.parts x) in
    let b = take_count l (own_table_of l x) p in
    omega arith

-- where a slot stands
pub slot_is : (l : LinkedFile) (x p under before : ℕ) → under ≡ slots_under l (base_layout l x) → slice_get (slots_before (own_table_of l x)) p ≡ Some before → under + before ≡ slot_of l x p
slot_is l x p under before eu eb = let h = before_from l (own_table_of l x) 0 p before eb in omega (arith, eu, h)
