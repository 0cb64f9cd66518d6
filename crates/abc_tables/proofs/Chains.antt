-- Which lists some bytes spell, where each item depends on those before it; and lists without two alike.
use Rattle.std.proofs.Common.{◌≡◌, ℕ, zero, suc, List, [], ◌∷◌, ◌++◌, length, map, refl, sym, ap, ◌∙◌, append_assoc, arith}
use Rattle.std.specs.Prelude.{All, AllPairs}
use Rattle.std.proofs.lemmas.List.{append-nil}
use Rattle.std.proofs.lemmas.List.Elements.{All-head, All-map, All-tail}
use Rattle.std.proofs.lemmas.List.Kept.{AllPairs-cons}
use Rattle.abc_file_types.specs.Lists.{chain}
use Rattle.abc_file_types.specs.Part.{Part}
use Rattle.abc_tables.specs.Fitting.{Spelled}
use Rattle.abc_tables.proofs.Combined.{done_spelled, image_spelled, then_spelled}

-- ---- chains

-- after `before`, each of these is spelled by some bytes
abbrev pub Follow : {A : Type 0} → (List A → Part A) → List A → List A → Type 0
Follow p before [] = Unit {0}
Follow p before (x ∷ rest) = Spelled (p before) x × Follow p (before ++ x ∷ []) rest

pub record Chained {A : Type 0} (n : ℕ) (p : List A → Part A) (before xs : List A) : Type 0 where
  pub rest : List A
  pub is : xs ≡ before ++ rest
  pub count : length rest ≡ n
  pub follow : Follow p before rest

pub chained : {A : Type 0} (n : ℕ) (p : List A → Part A) (before xs : List A) (b : List ℕ) → (chain n p before).spells xs b → Chained n p before xs
chained zero p before xs b s = record { rest = []; is = s.0 ∙ sym (append-nil before); count = refl; follow = tt }
chained (suc n) p before xs b s =
    let x = s.0.0 in
    let more = chained n p (before ++ x ∷ []) s.0.1 s.1.1 s.1.4 in
    record { rest = x ∷ more.rest; is = s.2 ∙ more.is ∙ append_assoc before (x ∷ []) more.rest; count = ap suc more.count; follow = (record { bytes = s.1.0; is = s.1.3 }, more.follow) }

pub chain_spelled : {A : Type 0} (p : List A → Part A) (before rest : List A) → Follow p before rest → Spelled (chain (length rest) p before) (before ++ rest)
chain_spelled p before [] f = done_spelled before (before ++ []) (append-nil before)
chain_spelled {A = A} p before (x ∷ rest) f =
    let last = (before ++ x ∷ []) ++ rest in
    image_spelled (λ (y : A × List A). y.1) _ (x, last) (before ++ x ∷ rest) (sym (append_assoc before (x ∷ []) rest))
    (then_spelled (p before) (λ y. chain (length rest) p (before ++ y ∷ [])) (x, last) f.0 (chain_spelled p (before ++ x ∷ []) rest f.1))

-- ---- pairs

pairs_head : {X : Type 0} (R : X → X → Type 0) (x : X) (xs : List X) → AllPairs R (x ∷ xs) → All (R x) xs
pairs_head R x xs all = λ k d lt. all zero (suc k) d (omega arith) (omega arith)

pairs_tail : {X : Type 0} (R : X → X → Type 0) (x : X) (xs : List X) → AllPairs R (x ∷ xs) → AllPairs R xs
pairs_tail R x xs all = λ i j d lt len. all (suc i) (suc j) d (omega arith) (omega arith)

pub pairs_map : {X Y : Type 0} (R : Y → Y → Type 0) (f : X → Y) (xs : List X) → AllPairs (λ x y. R (f x) (f y)) xs → AllPairs R (map f xs)
pairs_map R f [] all = λ i j d lt len. absurd (omega arith)
pairs_map R f (x ∷ xs) all =
    AllPairs-cons R (f x) (map f xs) (All-map (R (f x)) f xs (pairs_head (λ x y. R (f x) (f y)) x xs all)) (pairs_map R f xs (pairs_tail (λ x y. R (f x) (f y)) x xs all))

-- what holds of all items holds of one between others
pub middle : {X : Type 0} (P : X → Type 0) (before : List X) (x : X) (rest : List X) → All P (before ++ x ∷ rest) → P x
middle P [] x rest all = All-head P x rest all
middle P (y ∷ before) x rest all = middle P before x rest (All-tail P y (before ++ x ∷ rest) all)

-- what holds of the items before the next one, and of it
pub pairs_before : {X : Type 0} (R : X → X → Type 0) (before : List X) (x : X) (rest : List X) → AllPairs R (before ++ x ∷ rest) → All (λ y. R y x) before
pairs_before R [] x rest all = λ k d lt. absurd (omega arith)
pairs_before R (y ∷ before) x rest all = first (middle (R y) before x rest (pairs_head R y (before ++ x ∷ rest) all)) (pairs_before R before x rest (pairs_tail R y (before ++ x ∷ rest) all)) where
  first : R y x → All (λ z. R z x) before → All (λ z. R z x) (y ∷ before)
  first one all zero d lt = one
  first one all (suc k) d lt = all k d (omega arith)
