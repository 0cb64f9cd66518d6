-- What a linked file keeps, as far as a verifier asks.
use Rattle.std.proofs.Common.{◌≡◌, ℕ, ◌+◌, ◌≤◌, ◌<◌, inl, inr, Bool, true, false, nat_eq, List, [], ◌∷◌, ◌++◌, Some, None, length, refl, ap, ◌∙◌, subst, arith, unwrap_or}
use Rattle.std.specs.Prelude.{if◌then◌else◌, slice_get, Option}
use Rattle.std.proofs.lemmas.Bool.{cases_lt}
use Rattle.std.proofs.lemmas.List.{get_or_past, length-take}
use Rattle.abc_base.specs.declared.names.HostClass.TheVariants as hosts
use Rattle.abc_base_graphs.specs.Heirs.{heritage}
use Rattle.abc_base_graphs.proofs.Laid.{heritage_none, heritage_some}
use Rattle.abc_base_graphs.specs.Index.{first, first_from}
use Rattle.abc_link_names.specs.Linked.{IsLinkedFile, LinkedFile, above, base_layout}
use Rattle.abc_link_names.specs.Numbering.{part_at}
use Rattle.abc_link_names.specs.Parts.{parent}
use Rattle.abc_link_names.specs.Places.{place_of_part, place_under}
use Rattle.abc_link_names.specs.Slots.{slot_numbers_of, own_numbers, own_slots, slot_numbered, slots_of}
use Rattle.abc_link_names.specs.declared.part.Part.{Part}
use Rattle.abc_link_names.specs.declared.part.Part.TheVariants as parts
use Rattle.abc_link_names.specs.declared.types.Kind.{Kind}
use Rattle.abc_link_names.specs.declared.types.SlotInfo.{SlotInfo}
use Rattle.abc_link_names.proofs.Finding.{falling, place_low}
use Rattle.abc_file_types.specs.declared.tables.Abc.{Abc}
use Rattle.abc_verify_typing.specs.Effects.{kind_of_slot, slot_kind_at, slot_kind_in}
use Rattle.abc_verify_typing.proofs.Lists.{slice_get-push}

-- the first layout is that of Object, no layout past the end stands under another, and each has the slots of the one above it
pub record IsGood (p : LinkedFile) : Type 0 where
  pub linked : IsLinkedFile p
  pub outside : (l : ℕ) → length p.parts ≤ l → above p l ≡ 0
  pub root : place_of_part p.parts (parts.Host hosts.Object) ≡ 0
  pub inherits : (l j : ℕ) (k : Kind) → slot_kind_at p (above p l) j ≡ Some k → slot_kind_at p l j ≡ Some k

past_end : (p : LinkedFile) (l : ℕ) → length p.parts ≤ l → above p l ≡ 0
past_end p l le = ap (λ (q : Part). unwrap_or (place_under p.parts (parent p.file q)) 0) (get_or_past p.parts l (parts.Host hosts.Object) le)

-- only Object stands under nothing
under_nothing : (v : Abc) (q : Part) → parent v q ≡ None → q ≡ parts.Host hosts.Object
under_nothing v (parts.Host hosts.Object) e = refl
under_nothing v q e = absurd cc

none_under : (p : LinkedFile) → IsLinkedFile p → (x : ℕ) → x < length p.parts → x ≡ 0 → parent p.file (part_at p.parts x) ≡ None
none_under p t x lt z = go (parent p.file (part_at p.parts x)) refl
  where
    go : (o : Option Part) → parent p.file (part_at p.parts x) ≡ o → o ≡ None
    go None e = refl
    go (Some q) e = let c = t.numbering.behind.behind x q lt e in absurd (omega (arith, c.1, length-take x p.parts))

first_part : (p : LinkedFile) → IsLinkedFile p → part_at p.parts 0 ≡ parts.Host hosts.Object
first_part p t = elim (cases_lt 0 (length p.parts)) [ inl lt ↦ under_nothing p.file (part_at p.parts 0) (none_under p t 0 lt refl) | inr le ↦ get_or_past p.parts 0 (parts.Host hosts.Object) le ]

object_first : (p : LinkedFile) → IsLinkedFile p → place_of_part p.parts (parts.Host hosts.Object) ≡ 0
object_first p t =
    let c = t.numbering.every (parts.Host hosts.Object) tt in
    let h = place_low p.parts (parts.Host hosts.Object) 0 (omega (arith, c.1)) (first_part p t) in
    omega (arith, h.0)

-- ---- slots are inherited

first_more : (test : ℕ → Bool) (n : ℕ) (xs ys : List ℕ) (i : ℕ) → first_from test n xs ≡ Some i → first_from test n (xs ++ ys) ≡ Some i
first_more test n [] ys i e = absurd cc
first_more test n (x ∷ xs) ys i e = go (λ f. first_more test (n + 1) xs ys i f) (test x) e
  where
    go : (first_from test (n + 1) xs ≡ Some i → first_from test (n + 1) (xs ++ ys) ≡ Some i) → (b : Bool) → (if b then Some n else first_from test (n + 1) xs) ≡ Some i → (if b then Some n else first_from test (n + 1) (xs ++ ys)) ≡ Some i
    go rec true f = f
    go rec false f = rec f

abbrev numbered : ℕ → List ℕ → Option ℕ
numbered j ns = if nat_eq j 0 then None else first (nat_eq j) ns

slot_more : (p : LinkedFile) (xs ys : List SlotInfo) (ns ms : List ℕ) (j : ℕ) (k : Kind) → slot_kind_in p xs (numbered j ns) ≡ Some k → slot_kind_in p (xs ++ ys) (numbered j (ns ++ ms)) ≡ Some k
slot_more p xs ys ns ms j k = at (nat_eq j 0)
  where
    there : (i : ℕ) (o : Option SlotInfo) → slice_get xs i ≡ o → kind_of_slot p o ≡ Some k → kind_of_slot p (slice_get (xs ++ ys) i) ≡ Some k
    there i None e f = absurd cc
    there i (Some s) e f = ap (kind_of_slot p) (slice_get-push xs ys i s e) ∙ f

    found : (o : Option ℕ) → first (nat_eq j) ns ≡ o → slot_kind_in p xs o ≡ Some k → slot_kind_in p (xs ++ ys) (first (nat_eq j) (ns ++ ms)) ≡ Some k
    found None e f = absurd cc
    found (Some i) e f = ap (slot_kind_in p (xs ++ ys)) (first_more (nat_eq j) 0 ns ms i e) ∙ there i (slice_get xs i) refl f

    at : (b : Bool) → slot_kind_in p xs (if b then None else first (nat_eq j) ns) ≡ Some k → slot_kind_in p (xs ++ ys) (if b then None else first (nat_eq j) (ns ++ ms)) ≡ Some k
    at true f = absurd cc
    at false f = found (first (nat_eq j) ns) refl f

no_slot : (p : LinkedFile) (o : Option ℕ) (k : Kind) → slot_kind_in p [] o ≡ Some k → ⊥
no_slot p None k e = absurd cc
no_slot p (Some i) k e = absurd cc

slots_split : (p : LinkedFile) (t : IsLinkedFile p) (l : ℕ) → slots_of p l ≡ heritage (base_layout p) (λ y. own_slots p (part_at p.parts y)) (base_layout p l) ++ own_slots p (part_at p.parts l)
slots_split p t l = heritage_some (base_layout p) (λ y. own_slots p (part_at p.parts y)) (falling p.file p.parts t.numbering) l

numbers_split : (p : LinkedFile) (t : IsLinkedFile p) (l : ℕ) → slot_numbers_of p l ≡ heritage (base_layout p) (λ y. own_numbers p (part_at p.parts y)) (base_layout p l) ++ own_numbers p (part_at p.parts l)
numbers_split p t l = heritage_some (base_layout p) (λ y. own_numbers p (part_at p.parts y)) (falling p.file p.parts t.numbering) l

-- Object's layout has no slots
first_slots : (p : LinkedFile) → IsLinkedFile p → slots_of p 0 ≡ []
first_slots p t =
    let e = first_part p t in
    let none : base_layout p 0 ≡ None = ap (λ (q : Part). place_under p.parts (parent p.file q)) e in
    slots_split p t 0
    ∙ ap (λ (o : Option ℕ). heritage (base_layout p) (λ y. own_slots p (part_at p.parts y)) o ++ own_slots p (part_at p.parts 0)) none
    ∙ ap (λ (xs : List SlotInfo). xs ++ own_slots p (part_at p.parts 0)) (heritage_none (base_layout p) (λ y. own_slots p (part_at p.parts y)))
    ∙ ap (own_slots p) e

-- what is no layout has none
pub slots_past : (p : LinkedFile) → IsLinkedFile p → (l : ℕ) → length p.parts ≤ l → slots_of p l ≡ []
slots_past p t l le =
    let e : part_at p.parts l ≡ parts.Host hosts.Object = get_or_past p.parts l (parts.Host hosts.Object) le in
    let none : base_layout p l ≡ None = ap (λ (q : Part). place_under p.parts (parent p.file q)) e in
    slots_split p t l
    ∙ ap (λ (o : Option ℕ). heritage (base_layout p) (λ y. own_slots p (part_at p.parts y)) o ++ own_slots p (part_at p.parts l)) none
    ∙ ap (λ (xs : List SlotInfo). xs ++ own_slots p (part_at p.parts l)) (heritage_none (base_layout p) (λ y. own_slots p (part_at p.parts y)))
    ∙ ap (own_slots p) e

inherited : (p : LinkedFile) → IsLinkedFile p → (l j : ℕ) (k : Kind) → slot_kind_at p (above p l) j ≡ Some k → slot_kind_at p l j ≡ Some k
inherited p t l j k = at (base_layout p l) refl
  where
    at : (o : Option ℕ) → base_layout p l ≡ o → slot_kind_at p (unwrap_or o 0) j ≡ Some k → slot_kind_at p l j ≡ Some k
    at None e f = absurd (no_slot p (slot_numbered p 0 j) k (subst (λ (xs : List SlotInfo). slot_kind_in p xs (slot_numbered p 0 j) ≡ Some k) (first_slots p t) f))
    at (Some y) e f =
        let xs : slots_of p l ≡ slots_of p y ++ own_slots p (part_at p.parts l) = slots_split p t l ∙ ap (λ (o : Option ℕ). heritage (base_layout p) (λ y. own_slots p (part_at p.parts y)) o ++ own_slots p (part_at p.parts l)) e in
        let ns : slot_numbers_of p l ≡ slot_numbers_of p y ++ own_numbers p (part_at p.parts l) = numbers_split p t l ∙ ap (λ (o : Option ℕ). heritage (base_layout p) (λ y. own_numbers p (part_at p.parts y)) o ++ own_numbers p (part_at p.parts l)) e in
        ap (λ (ss : List SlotInfo). slot_kind_in p ss (numbered j (slot_numbers_of p l))) xs
        ∙ ap (λ (ms : List ℕ). slot_kind_in p (slots_of p y ++ own_slots p (part_at p.parts l)) (numbered j ms)) ns
        ∙ slot_more p (slots_of p y) (own_slots p (part_at p.parts l)) (slot_numbers_of p y) (own_numbers p (part_at p.parts l)) j k f

pub good : (p : LinkedFile) → IsLinkedFile p → IsGood p
good p t = record { linked = t; outside = past_end p; root = object_first p t; inherits = inherited p t }
