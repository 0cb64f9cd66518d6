-- The slots before those of traits.
use Rattle.std.proofs.Common.{◌≡◌, ℕ, zero, suc, ◌+◌, ◌<◌, List, [], ◌∷◌, ◌++◌, Some, cond, drop, drop-cons, get_or, length, take, refl, sym, ap, ◌∙◌, arith, append_assoc}
use Rattle.std.specs.Prelude.{slice_get}
use Rattle.std.proofs.lemmas.List.{take_more}
use Rattle.abc_base.specs.declared.names.HostClass.TheVariants as hosts
use Rattle.abc_link_names.specs.Numbering.{part_at}
use Rattle.abc_link_names.specs.Slots.{traits_of}
use Rattle.abc_link_names.specs.declared.part.Part.{Part}
use Rattle.abc_link_names.specs.declared.part.Part.TheVariants as parts
use Rattle.abc_link.specs.OwnSlots.{is_slot_trait, own_slots_before, slots_before, slots_from}
use Rattle.abc_file_types.specs.declared.tables.Abc.{Abc}
use Rattle.abc_file_types.specs.declared.traits.TraitInfo.{TraitInfo}

-- one trait more
pub row_next : (ts : List TraitInfo) (before : List ℕ) (n m i : ℕ) (t : TraitInfo) → i < length ts → t ≡ get_or ts i t → before ++ slots_from n (drop i ts) ≡ slots_before ts → m ≡ cond (is_slot_trait t.body) (n + 1) n
    → (before ++ n ∷ []) ++ slots_from m (drop (i + 1) ts) ≡ slots_before ts
row_next ts before n m i t lt is e em =
    let one : i + 1 ≡ suc i = omega arith in
    append_assoc before (n ∷ []) (slots_from m (drop (i + 1) ts))
    ∙ ap (λ k. before ++ n ∷ slots_from k (drop (i + 1) ts)) em
    ∙ ap (λ k. before ++ n ∷ slots_from (cond (is_slot_trait t.body) (n + 1) n) (drop k ts)) one
    ∙ ap (λ (u : TraitInfo). before ++ n ∷ slots_from (cond (is_slot_trait u.body) (n + 1) n) (drop (suc i) ts)) is
    ∙ ap (λ (us : List TraitInfo). before ++ slots_from n us) (sym (drop-cons ts i t lt))
    ∙ e

-- one part more
pub rows_next : (v : Abc) (ps : List Part) (rows : List (List ℕ)) (row : List ℕ) (x : ℕ) → x < length ps → rows ≡ own_slots_before v (take x ps) → row ≡ slots_before (traits_of v (part_at ps x)) → rows ++ row ∷ [] ≡ own_slots_before v (take (x + 1) ps)
rows_next v ps rows row x lt e is =
    ap (λ (rs : List (List ℕ)). rs ++ row ∷ []) e
    ∙ ap (λ r. own_slots_before v (take x ps) ++ r ∷ []) is
    ∙ sym (pushed (take x ps) (part_at ps x))
    ∙ sym (ap (own_slots_before v) (take_more ps x (parts.Host hosts.Object) lt))
  where
    pushed : (qs : List Part) (p : Part) → own_slots_before v (qs ++ p ∷ []) ≡ own_slots_before v qs ++ slots_before (traits_of v p) ∷ []
    pushed [] p = refl
    pushed (q ∷ qs) p = ap (λ rs. slots_before (traits_of v q) ∷ rs) (pushed qs p)

-- what stands in a row
pub row_of : (v : Abc) (ps : List Part) (x : ℕ) (row : List ℕ) → x < length ps → get_or (own_slots_before v ps) x row ≡ row → row ≡ slots_before (traits_of v (part_at ps x))
row_of v [] x row lt e = absurd (omega arith)
row_of v (p ∷ ps) zero row lt e = sym e
row_of v (p ∷ ps) (suc x) row lt e = row_of v ps x row (omega arith) e

pub row_length : (n : ℕ) (ts : List TraitInfo) → length (slots_from n ts) ≡ length ts
row_length n [] = refl
row_length n (t ∷ ts) = ap suc (row_length (cond (is_slot_trait t.body) (n + 1) n) ts)

pub there : {X : Type 0} (xs : List X) (i : ℕ) (x : X) → i < length xs → get_or xs i x ≡ x → slice_get xs i ≡ Some x
there [] i x h e = absurd (omega arith)
there (y ∷ ys) zero x h e = ap Some e
there (y ∷ ys) (suc i) x h e = there ys i x (omega arith) e
