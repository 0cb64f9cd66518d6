-- Two slots of one table have one number exactly where a number stands first elsewhere.
use Rattle.std.proofs.Common.{◌≡◌, ℕ, ◌<◌, ◌≤◌, Bool, true, false, ◌&&◌, not, List, Some, None, map, length, get_or, nat_eq, eq-eqb, eqb-true, refl, sym, ap, ◌∙◌, arith}
use Rattle.std.specs.declared.option.Option.{Option}
use Rattle.std.proofs.lemmas.Bool.{false≢true}
use Rattle.abc_base_graphs.specs.Index.{first}
use Rattle.abc_file_types.specs.declared.traits.TraitInfo.{TraitInfo}
use Rattle.abc_link_rules.specs.Repeats.{is_repeat}
use Rattle.abc_link_names.specs.ItemTypes.{any_pair, slot_id, slots_clash}
use Rattle.abc_link_names.proofs.ItemsPairs.{first_found, first_hit, first_low, pair_found, pair_makes, pair_map}

abbrev ids_clash : ℕ → ℕ → Bool
ids_clash a b = not (nat_eq a 0) && nat_eq a b

both : (a b : Bool) → (a && b) ≡ true → (a ≡ true) × (b ≡ true)
both true b e = (refl, e)
both false b e = absurd (false≢true e)

repeats : (ids : List ℕ) (i : ℕ) (o : Option ℕ) → i < length ids → first (nat_eq (get_or ids i 0)) ids ≡ o → is_repeat o (get_or ids i 0) i ≡ true → any_pair ids_clash ids ≡ true
repeats ids i None lt f e = absurd (false≢true e)
repeats ids i (Some j) lt f e =
    let id : ℕ = get_or ids i 0 in
    let p = both (not (nat_eq id 0)) (not (nat_eq j i)) e in
    let h = first_hit (nat_eq id) ids 0 j f in
    let same : id ≡ get_or ids j 0 = eqb-true id (get_or ids j 0) h.1 in
    let low : j ≤ i = first_low (nat_eq id) ids 0 i j lt (eq-eqb id id refl) f in
    let less : j < i = go (nat_eq j i) refl p.1 low in
    pair_makes ids_clash ids 0 j i less lt (ap (λ m. not (nat_eq m 0) && nat_eq m id) (sym same) ∙ ap (λ b. b && nat_eq id id) p.0 ∙ eq-eqb id id refl)
  where
    go : (b : Bool) → nat_eq j i ≡ b → not b ≡ true → j ≤ i → j < i
    go true q n le = absurd (false≢true n)
    go false q n le = apart (λ (h : j ≡ i). false≢true (sym q ∙ eq-eqb j i h)) le
      where
        apart : (j ≡ i → ⊥) → j ≤ i → j < i
        apart ne le = omega arith

distinct : (ids : List ℕ) → ((i : ℕ) → i < length ids → is_repeat (first (nat_eq (get_or ids i 0)) ids) (get_or ids i 0) i ≡ false) → any_pair ids_clash ids ≡ false
distinct ids none = go (any_pair ids_clash ids) refl
  where
    never : (a b : ℕ) → a < b → b < length ids → ids_clash (get_or ids a 0) (get_or ids b 0) ≡ true → ⊥
    never a b lt within e =
        let x : ℕ = get_or ids a 0 in
        let y : ℕ = get_or ids b 0 in
        let p = both (not (nat_eq x 0)) (nat_eq x y) e in
        let same : x ≡ y = eqb-true x y p.1 in
        let f = first_found (nat_eq y) ids 0 a (omega arith) (eq-eqb y x (sym same)) in
        let le = f.2 in
        let ne : nat_eq f.0 b ≡ false = differ f.0 b (omega arith) in
        let is : is_repeat (first (nat_eq y) ids) y b ≡ true =
        ap (λ o. is_repeat o y b) f.1 ∙ ap (λ m. not (nat_eq m 0) && not (nat_eq f.0 b)) (sym same) ∙ ap (λ c. c && not (nat_eq f.0 b)) p.0 ∙ ap not ne in
        false≢true (sym (none b within) ∙ is)
      where
        differ : (m n : ℕ) → m < n → nat_eq m n ≡ false
        differ m n lt = at (nat_eq m n) refl
          where
            at : (c : Bool) → nat_eq m n ≡ c → nat_eq m n ≡ false
            at true q = let h = eqb-true m n q in absurd (omega arith)
            at false q = q

    go : (c : Bool) → any_pair ids_clash ids ≡ c → any_pair ids_clash ids ≡ false
    go true e = let m = pair_found ids_clash ids 0 e in absurd (never m.0 m.1 m.2 m.3 m.4)
    go false e = e

-- ---- of the slots of a table

of_slots : (ts : List TraitInfo) (ids : List ℕ) → ids ≡ map (λ t. slot_id t.body) ts → any_pair ids_clash ids ≡ any_pair slots_clash ts
of_slots ts ids e = ap (any_pair ids_clash) e ∙ pair_map ids_clash slots_clash (λ (t : TraitInfo). slot_id t.body) (λ x y. refl) ts

pub slots_repeat : (ts : List TraitInfo) (ids : List ℕ) (i id : ℕ) (o : Option ℕ) → ids ≡ map (λ t. slot_id t.body) ts → i < length ids → id ≡ get_or ids i 0 → o ≡ first (nat_eq id) ids → is_repeat o id i ≡ true → any_pair slots_clash ts ≡ true
slots_repeat ts ids i id o e lt is f r =
    sym (of_slots ts ids e)
    ∙ repeats ids i o lt (ap (λ m. first (nat_eq m) ids) (sym is) ∙ sym f) (ap (λ m. is_repeat o m i) (sym is) ∙ r)

pub slots_distinct : (ts : List TraitInfo) (ids : List ℕ) → ids ≡ map (λ t. slot_id t.body) ts → ((i : ℕ) → i < length ids → is_repeat (first (nat_eq (get_or ids i 0)) ids) (get_or ids i 0) i ≡ false) → any_pair slots_clash ts ≡ false
slots_distinct ts ids e none = sym (of_slots ts ids e) ∙ distinct ids none
