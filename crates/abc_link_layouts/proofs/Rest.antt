-- What is still to be named.
use Rattle.std.proofs.Common.{◌≡◌, ℕ, suc, ◌+◌, ◌<◌, List, ◌∷◌, ◌++◌, drop, length, get_or, refl, sym, ap, ◌∙◌, append_assoc, arith}
use Rattle.std.proofs.Math.Seq.{drop-cons}
use Rattle.abc_link_names.specs.Owners.{namings_from}
use Rattle.abc_link_names.specs.declared.types.Naming.{Naming}

pub rest_next : {A : Type 0} (f : ℕ → A → List Naming) (xs : List A) (k : ℕ) (x : A) (list new whole : List Naming) → k < length xs → get_or xs k x ≡ x
    → list ++ namings_from f k (drop k xs) ≡ whole → new ≡ list ++ f k x → new ++ namings_from f (k + 1) (drop (k + 1) xs) ≡ whole
rest_next {A = A} f xs k x list new whole lt at before is =
    let next : suc k ≡ k + 1 = omega arith in
    let more : drop k xs ≡ x ∷ drop (k + 1) xs = drop-cons xs k x lt ∙ ap (λ (y : A). y ∷ drop (suc k) xs) at ∙ ap (λ n. x ∷ drop n xs) next in
    ap (λ (ns : List Naming). ns ++ namings_from f (k + 1) (drop (k + 1) xs)) is
    ∙ append_assoc list (f k x) (namings_from f (k + 1) (drop (k + 1) xs))
    ∙ ap (λ (ys : List A). list ++ namings_from f k ys) (sym more)
    ∙ before
