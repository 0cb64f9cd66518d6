-- The lists of heirs are those of their ways.
use Rattle.std.proofs.Common.{◌≡◌, ℕ, ◌<◌, ◌≤◌, ◌⊎◌, inl, inr, List, [], ◌∷◌, ◌++◌, Some, None, length, reverse, refl, sym, ap, ◌∙◌, arith, append_assoc, length-append}
use Rattle.std.specs.declared.option.Option.{Option}
use Rattle.std.specs.List.{flat_map}
use Rattle.std.proofs.lemmas.Bool.{cases_lt}
use Rattle.std.proofs.lemmas.List.{get_or_append_left, get_or_push, append-nil, reverse-append}
use Rattle.abc_base_graphs.specs.Ways.{way, IsFalling}
use Rattle.abc_base_graphs.proofs.Walks.{way_none, way_some}
use Rattle.abc_base_graphs.specs.Listed.{Listed, empty_list, both_lists}
use Rattle.abc_base_graphs.specs.Heirs.{list_at, list_of_base, heritage, AreHeirs}

flat_map-append : {X A : Type 0} (f : X → List A) (xs ys : List X) → flat_map f (xs ++ ys) ≡ flat_map f xs ++ flat_map f ys
flat_map-append f [] ys = refl
flat_map-append f (x ∷ xs) ys = ap (λ zs. f x ++ zs) (flat_map-append f xs ys) ∙ sym (append_assoc (f x) (flat_map f xs) (flat_map f ys))

pub heritage_none : {T : Type 0} (next : ℕ → Option ℕ) (own : ℕ → List T) → heritage next own None ≡ []
heritage_none {T} next own = ap (λ (xs : List ℕ). flat_map own (reverse xs)) (way_none next)

-- what stands under a base has what its base has, and then its own
pub heritage_some : {T : Type 0} (next : ℕ → Option ℕ) (own : ℕ → List T) → IsFalling next → (l : ℕ) → heritage next own (Some l) ≡ heritage next own (next l) ++ own l
heritage_some {T} next own f l =
    ap (λ (xs : List ℕ). flat_map own (reverse xs)) (way_some next f l)
    ∙ ap (flat_map own) (reverse-append (l ∷ []) (way next (next l)))
    ∙ flat_map-append own (reverse (way next (next l))) (l ∷ [])
    ∙ ap (λ (zs : List T). flat_map own (reverse (way next (next l))) ++ zs) (append-nil (own l))

module _ {T : Type 0} (next : ℕ → Option ℕ) (values : ℕ → List T) (keys : ℕ → List ℕ) (falling : IsFalling next) where
  pub no_heirs : AreHeirs next values keys []
  no_heirs = record { values_of = λ l lt. absurd (omega arith); keys_of = λ l lt. absurd (omega arith) }

  inherited_values : (lists : List (Listed T)) → AreHeirs next values keys lists → (base : Option ℕ) → ((b : ℕ) → base ≡ Some b → b < length lists) → (list_of_base lists base).values ≡ heritage next values base
  inherited_values lists h None known = sym (heritage_none next values)
  inherited_values lists h (Some b) known = h.values_of b (known b refl)

  inherited_keys : (lists : List (Listed T)) → AreHeirs next values keys lists → (base : Option ℕ) → ((b : ℕ) → base ≡ Some b → b < length lists) → (list_of_base lists base).keys ≡ heritage next keys base
  inherited_keys lists h None known = sym (heritage_none next keys)
  inherited_keys lists h (Some b) known = h.keys_of b (known b refl)

  -- one list more
  pub heirs_next : (lists : List (Listed T)) (own : Listed T) → AreHeirs next values keys lists → own.values ≡ values (length lists) → own.keys ≡ keys (length lists) → AreHeirs next values keys (lists ++ both_lists (list_of_base lists (next (length lists))) own ∷ [])
  heirs_next lists own h is_values is_keys = record {
    values_of = λ l lt. values_of l lt (cases_lt l (length lists));
    keys_of = λ l lt. keys_of l lt (cases_lt l (length lists));
  }
    where
      n : ℕ
      n = length lists

      base : Option ℕ
      base = next n

      new : Listed T
      new = both_lists (list_of_base lists base) own

      known : (b : ℕ) → base ≡ Some b → b < length lists
      known b e = falling.falls n b e

      last_values : new.values ≡ heritage next values (Some n)
      last_values =
          ap (λ (xs : List T). xs ++ own.values) (inherited_values lists h base known) ∙ ap (λ (xs : List T). heritage next values base ++ xs) is_values ∙ sym (heritage_some next values falling n)

      last_keys : new.keys ≡ heritage next keys (Some n)
      last_keys =
          ap (λ (xs : List ℕ). xs ++ own.keys) (inherited_keys lists h base known) ∙ ap (λ (xs : List ℕ). heritage next keys base ++ xs) is_keys ∙ sym (heritage_some next keys falling n)

      is_last : (l : ℕ) → l < length (lists ++ new ∷ []) → length lists ≤ l → length lists ≡ l
      is_last l lt le = omega (arith, length-append lists (new ∷ []))

      values_of : (l : ℕ) → l < length (lists ++ new ∷ []) → (l < length lists) ⊎ (length lists ≤ l) → (list_at (lists ++ new ∷ []) l).values ≡ heritage next values (Some l)
      values_of l lt (inl low) = ap (λ (k : Listed T). k.values) (get_or_append_left lists (new ∷ []) empty_list l low) ∙ h.values_of l low
      values_of l lt (inr le) =
          let q = is_last l lt le in
          ap (λ (k : Listed T). k.values) (get_or_push lists new empty_list l q) ∙ last_values ∙ ap (λ m. heritage next values (Some m)) q

      keys_of : (l : ℕ) → l < length (lists ++ new ∷ []) → (l < length lists) ⊎ (length lists ≤ l) → (list_at (lists ++ new ∷ []) l).keys ≡ heritage next keys (Some l)
      keys_of l lt (inl low) = ap (λ (k : Listed T). k.keys) (get_or_append_left lists (new ∷ []) empty_list l low) ∙ h.keys_of l low
      keys_of l lt (inr le) =
          let q = is_last l lt le in
          ap (λ (k : Listed T). k.keys) (get_or_push lists new empty_list l q) ∙ last_keys ∙ ap (λ m. heritage next keys (Some m)) q
