-- Lists by their places, and tests over lists.
use Rattle.std.proofs.Common.{◌≡◌, ℕ, zero, suc, ◌+◌, ◌<◌, List, [], ◌∷◌, length, map, get_or, refl, subst, arith}
use Rattle.std.specs.Prelude.{Bool, true, false, ◌||◌, All, slice_get, Some, if◌then◌else◌}
use Rattle.std.specs.List.{list_any}
use Rattle.abc_base_graphs.specs.Index.{first_from}
use Rattle.abc_verify_typing.specs.Lists.{Each}
use Rattle.abc_meaning_sound.proofs.Lists.{inside}

pub got : {X : Type 0} (xs : List X) (i : ℕ) (x d : X) → slice_get xs i ≡ Some x → get_or xs i d ≡ x
got [] i x d e = absurd cc
got (y ∷ ys) zero x d e = cc
got (y ∷ ys) (suc i) x d e = got ys i x d e

pub is_at : {X : Type 0} (xs : List X) (i : ℕ) (d : X) → i < length xs → slice_get xs i ≡ Some (get_or xs i d)
is_at [] i d h = absurd (omega arith)
is_at (y ∷ ys) zero d h = refl
is_at (y ∷ ys) (suc i) d h = is_at ys i d (omega (arith, h))

pub map_at : {X Y : Type 0} (f : X → Y) (xs : List X) (i : ℕ) (y : Y) → slice_get (map f xs) i ≡ Some y → (x : X) × (slice_get xs i ≡ Some x) × (y ≡ f x)
map_at f [] i y e = absurd cc
map_at f (x ∷ xs) zero y e = (x, refl, cc)
map_at f (x ∷ xs) (suc i) y e = map_at f xs i y e

pub all_at : {X : Type 0} (P : X → Type 0) (xs : List X) (i : ℕ) (x : X) → All P xs → slice_get xs i ≡ Some x → P x
all_at P xs i x a e = subst P (got xs i x x e) (a i x (inside xs i x e))

pub all_each : {X : Type 0} (P : X → Type 0) (xs : List X) → All P xs → Each P xs
all_each P [] a = tt
all_each P (x ∷ xs) a = (a 0 x (omega arith), all_each P xs (λ k d h. a (suc k) d (omega (arith, h))))

-- ---- the first that passes a test

pub record PassesAt {K : Type 0} (test : K → Bool) (xs : List K) (n k : ℕ) : Type 0 where
  pub place : ℕ
  pub key : K
  pub is : k ≡ n + place
  pub at : slice_get xs place ≡ Some key
  pub passes : test key ≡ true

pub first_passed : {K : Type 0} (test : K → Bool) (xs : List K) (n k : ℕ) → first_from test n xs ≡ Some k → PassesAt test xs n k
first_passed test [] n k e = absurd cc
first_passed {K = K} test (x ∷ xs) n k e = go (λ q. first_passed test xs (n + 1) k q) (test x) refl e
  where
    go : (first_from test (n + 1) xs ≡ Some k → PassesAt test xs (n + 1) k) → (b : Bool) → test x ≡ b → (if b then Some n else first_from test (n + 1) xs) ≡ Some k → PassesAt test (x ∷ xs) n k
    go more true t q = let same : n ≡ k = cc in record { place = 0; key = x; is = omega (arith, same); at = refl; passes = t }
    go more false t q =
        let r = more q in
        let is = r.is in
        record { place = suc r.place; key = r.key; is = omega (arith, is); at = r.at; passes = r.passes }

pub first_there : {K : Type 0} (test : K → Bool) (xs : List K) (n i : ℕ) (x : K) → slice_get xs i ≡ Some x → test x ≡ true → (k : ℕ) × (first_from test n xs ≡ Some k)
first_there test [] n i x e t = absurd cc
first_there {K = K} test (y ∷ ys) n i x e t = go (λ j q. first_there test ys (n + 1) j x q t) (test y) refl
  where
    later : ((j : ℕ) → slice_get ys j ≡ Some x → (k : ℕ) × (first_from test (n + 1) ys ≡ Some k)) → (j : ℕ) → slice_get (y ∷ ys) j ≡ Some x → test y ≡ false → (k : ℕ) × (first_from test (n + 1) ys ≡ Some k)
    later more zero q f = absurd (let same : y ≡ x = cc in cc)
    later more (suc j) q f = more j q

    go : ((j : ℕ) → slice_get ys j ≡ Some x → (k : ℕ) × (first_from test (n + 1) ys ≡ Some k)) → (b : Bool) → test y ≡ b → (k : ℕ) × ((if b then Some n else first_from test (n + 1) ys) ≡ Some k)
    go more true f = (n, refl)
    go more false f = later more i e f

-- ---- tests that fail

pub or_left : (a b : Bool) → (a || b) ≡ false → a ≡ false
or_left true b e = e
or_left false b e = refl

pub or_right : (a b : Bool) → (a || b) ≡ false → b ≡ false
or_right true b e = absurd cc
or_right false b e = e

pub none_passes : {X : Type 0} (test : X → Bool) (xs : List X) → list_any test xs ≡ false → Each (λ (x : X). test x ≡ false) xs
none_passes test [] e = tt
none_passes test (x ∷ xs) e = (or_left (test x) (list_any test xs) e, none_passes test xs (or_right (test x) (list_any test xs) e))
