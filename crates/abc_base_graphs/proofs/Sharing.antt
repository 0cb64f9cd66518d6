-- One list more among the lists that heirs hold.
use Rattle.std.proofs.Common.{◌≡◌, ℕ, suc, ◌<◌, List, [], ◌∷◌, ◌++◌, All, map, length, refl, sym, ap, subst, ◌∙◌, arith, length-append}
use Rattle.std.proofs.lemmas.List.{get_or_append_left, get_or_push, map-append}
use Rattle.std.proofs.lemmas.List.Elements.{All-append, All-cons}
use Rattle.abc_base_graphs.specs.Listed.{Listed, empty_list}
use Rattle.abc_base_graphs.specs.Heirs.{list_at}

module _ {T : Type 0} where
  abbrev pub view_of : List (Listed T) → List ℕ → List (Listed T)
  view_of lists holders = map (λ i. list_at lists i) holders

  -- the lists that stand stay as they are
  pub kept_view : (lists : List (Listed T)) (x : Listed T) (holders : List ℕ) → All (λ i. i < length lists) holders → view_of (lists ++ x ∷ []) holders ≡ view_of lists holders
  kept_view lists x [] h = refl
  kept_view lists x (i ∷ holders) h =
      ap (λ (y : Listed T). y ∷ view_of (lists ++ x ∷ []) holders) (get_or_append_left lists (x ∷ []) empty_list i (h 0 0 (omega arith)))
      ∙ ap (λ (ys : List (Listed T)). list_at lists i ∷ ys) (kept_view lists x holders (λ k d lt. h (suc k) d (omega arith)))

  pub view_more : (lists : List (Listed T)) (x : Listed T) (holders : List ℕ) → All (λ i. i < length lists) holders → view_of (lists ++ x ∷ []) (holders ++ length lists ∷ []) ≡ view_of lists holders ++ x ∷ []
  view_more lists x holders h =
      map-append (λ i. list_at (lists ++ x ∷ []) i) holders (length lists ∷ [])
      ∙ ap (λ (ys : List (Listed T)). ys ++ list_at (lists ++ x ∷ []) (length lists) ∷ []) (kept_view lists x holders h)
      ∙ ap (λ (y : Listed T). view_of lists holders ++ y ∷ []) (get_or_push lists x empty_list (length lists) refl)

  pub held_more : (lists : List (Listed T)) (x : Listed T) (holders : List ℕ) → All (λ i. i < length lists) holders → All (λ i. i < length (lists ++ x ∷ [])) holders
  held_more lists x holders h = λ k d lt. let m = h k d lt in omega (arith, length-append lists (x ∷ []))

  pub held_last : (lists : List (Listed T)) (x : Listed T) (holders : List ℕ) → All (λ i. i < length lists) holders → All (λ i. i < length (lists ++ x ∷ [])) (holders ++ length lists ∷ [])
  held_last lists x holders h =
      All-append (λ i. i < length (lists ++ x ∷ [])) holders (length lists ∷ []) (held_more lists x holders h)
      (All-cons (λ i. i < length (lists ++ x ∷ [])) (length lists) [] (omega (arith, length-append lists (x ∷ []))) (λ k d lt. absurd (omega arith)))

  -- the same, of lists that are said by equations
  pub view_added : (lists lists2 : List (Listed T)) (x : Listed T) (holders holders2 : List ℕ) (n : ℕ) → n ≡ length lists → lists2 ≡ lists ++ x ∷ [] → holders2 ≡ holders ++ n ∷ [] → All (λ i. i < length lists) holders
      → view_of lists2 holders2 ≡ view_of lists holders ++ x ∷ []
  view_added lists lists2 x holders holders2 n e f g h =
      ap (λ (ls : List (Listed T)). view_of ls holders2) f ∙ ap (view_of (lists ++ x ∷ [])) (g ∙ ap (λ m. holders ++ m ∷ []) e) ∙ view_more lists x holders h

  pub view_kept : (lists lists2 : List (Listed T)) (x : Listed T) (holders holders2 : List ℕ) → lists2 ≡ lists ++ x ∷ [] → holders2 ≡ holders → All (λ i. i < length lists) holders → view_of lists2 holders2 ≡ view_of lists holders
  view_kept lists lists2 x holders holders2 f g h = ap (λ (ls : List (Listed T)). view_of ls holders2) f ∙ ap (view_of (lists ++ x ∷ [])) g ∙ kept_view lists x holders h

  pub held_added : (lists lists2 : List (Listed T)) (x : Listed T) (holders holders2 : List ℕ) (n : ℕ) → n ≡ length lists → lists2 ≡ lists ++ x ∷ [] → holders2 ≡ holders ++ n ∷ [] → All (λ i. i < length lists) holders → All (λ i. i < length lists2) holders2
  held_added lists lists2 x holders holders2 n e f g h =
      subst (λ (ls : List (Listed T)). All (λ i. i < length ls) holders2) (sym f)
      (subst (λ (hs : List ℕ). All (λ i. i < length (lists ++ x ∷ [])) hs) (sym (g ∙ ap (λ m. holders ++ m ∷ []) e)) (held_last lists x holders h))
