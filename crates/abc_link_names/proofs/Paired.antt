-- Pairs of values of a list, of which the first is taken away.
use Rattle.std.proofs.Common.{◌≡◌, Bool, true, false, ◌||◌, List, [], ◌∷◌, length, sym, ap, ◌∙◌, arith}
use Rattle.std.specs.List.{list_any, IsFirstAndRest}
use Rattle.abc_link_names.specs.ItemTypes.{any_pair}

abbrev either : {A : Type 0} → (A → A → Bool) → A → List A → Bool → Bool
either clash x rest b = b || any_pair clash rest

-- the first clashes with none of the others
pub pairs_left : {A : Type 0} (clash : A → A → Bool) (left rest : List A) (x : A) (all : Bool) → any_pair clash left ≡ all → IsFirstAndRest left x rest → list_any (clash x) rest ≡ false → any_pair clash rest ≡ all
pairs_left {A} clash left rest x all e is none = sym (ap (either clash x rest) none) ∙ sym (ap (λ (zs : List A). any_pair clash zs) is.0) ∙ e

-- the first clashes with one of the others
pub pair_here : {A : Type 0} (clash : A → A → Bool) (left rest : List A) (x : A) (all : Bool) → any_pair clash left ≡ all → IsFirstAndRest left x rest → list_any (clash x) rest ≡ true → true ≡ all
pair_here {A} clash left rest x all e is some = sym (ap (either clash x rest) some) ∙ sym (ap (λ (zs : List A). any_pair clash zs) is.0) ∙ e

-- there are no more values
pub no_pairs : {A : Type 0} (clash : A → A → Bool) (left : List A) (all : Bool) → any_pair clash left ≡ all → length left ≡ 0 → false ≡ all
no_pairs clash [] all e n = e
no_pairs clash (x ∷ left) all e n = absurd (omega arith)
