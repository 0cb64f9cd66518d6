-- Pieces that are written for each number of a list.
use Rattle.std.proofs.Common.{◌≡◌, ℕ, suc, ◌<◌, List, ◌++◌, ◌∷◌, length, take, drop, get_or, sym, ap, subst, ◌∙◌, drop-cons, append_assoc}
use Rattle.std.proofs.lemmas.List.{take-append-drop}
use Rattle.std.proofs.lemmas.Grind.{flat_map-append}
use Rattle.std.specs.List.{flat_map}
use Rattle.std.specs.declared.option.Option.{Option}
use Rattle.std.specs.Io.KnownBytes.{append_known}
use Rattle.abc_base.specs.Sinks.{GrowsByFront}
use Rattle.abc_base.proofs.Writing.{front_first, front_second}

module _ (f : ℕ → List ℕ) where
  -- what was written before a number, its own piece, and what comes after
  parts : (xs : List ℕ) (i : ℕ) → i < length xs → (flat_map f (take i xs) ++ f (get_or xs i 0)) ++ flat_map f (drop (suc i) xs) ≡ flat_map f xs
  parts xs i lt =
      let here : drop i xs ≡ get_or xs i 0 ∷ drop (suc i) xs = drop-cons xs i 0 lt in
      append_assoc (flat_map f (take i xs)) (f (get_or xs i 0)) (flat_map f (drop (suc i) xs))
      ∙ ap (λ (t : List ℕ). flat_map f (take i xs) ++ flat_map f t) (sym here)
      ∙ sym (flat_map-append f (take i xs) (drop i xs))
      ∙ ap (flat_map f) (take-append-drop i xs)

  -- a front of one piece is a front of all
  pub front_in : (old mid new : Option (List ℕ)) (xs : List ℕ) (i : ℕ) → i < length xs → mid ≡ append_known old (flat_map f (take i xs)) → GrowsByFront mid new (f (get_or xs i 0)) → GrowsByFront old new (flat_map f xs)
  front_in old mid new xs i lt is front =
      let before = flat_map f (take i xs) in
      let two = front_second old new before (f (get_or xs i 0)) (subst (λ (m : Option (List ℕ)). GrowsByFront m new (f (get_or xs i 0))) is front) in
      subst (GrowsByFront old new) (parts xs i lt) (front_first old new (before ++ f (get_or xs i 0)) (flat_map f (drop (suc i) xs)) two)
