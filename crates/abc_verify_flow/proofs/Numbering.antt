-- Numbers of places, of which those behind the last place that has one are not kept.
use Rattle.std.proofs.Common.{◌≡◌, ℕ, zero, suc, ◌+◌, ◌-◌, ◌<◌, ◌≤◌, List, [], ◌∷◌, ◌++◌, Some, None, length, replicate, set, take, refl, sym, ap, ◌∙◌, arith, length-append, append_assoc}
use Rattle.std.specs.Prelude.{slice_get}
use Rattle.std.proofs.lemmas.List.{length-replicate, replicate-append-replicate, set-append_left, take_all}
use Rattle.std.proofs.lemmas.Option.{slice_get_past}
use Rattle.std.proofs.Math.ListN.{length-set}
use Rattle.abc_verify_flow.specs.Numbering.{ReachesPlace, with_zeros}

blanks : (n : ℕ) → length (replicate {A = ℕ} n 0) ≡ n
blanks n = length-replicate {A = ℕ} n 0

length_padded : (n : ℕ) (xs : List ℕ) → length xs ≤ n → length (with_zeros n xs) ≡ n
length_padded n xs h = let a = length-append xs (replicate (n - length xs) 0) in let b = blanks (n - length xs) in omega (arith, a, b, h)

-- ---- how many there are

pub none_padded : (n : ℕ) (xs : List ℕ) → xs ≡ [] → with_zeros n xs ≡ replicate n 0
none_padded n xs e = ap (with_zeros n) e ∙ (let z : n - length {A = ℕ} [] ≡ n = omega arith in ap (λ (k : ℕ). replicate {A = ℕ} k 0) z)

pub none_within : (n : ℕ) (xs : List ℕ) → xs ≡ [] → length xs ≤ n
none_within n xs e = let l : length xs ≡ length {A = ℕ} [] = ap length e in omega (arith, l)

pub all_places : (n : ℕ) (xs value : List ℕ) → length xs ≤ n → with_zeros n xs ≡ value → n ≡ length value
all_places n xs value h e = sym (length_padded n xs h) ∙ ap length e

pub place_before : (n place : ℕ) (xs value : List ℕ) → length xs ≤ n → with_zeros n xs ≡ value → place < length value → place < n
place_before n place xs value h e lt = let a = all_places n xs value h e in omega (arith, a, lt)

pub place_inside : (n place : ℕ) (xs value : List ℕ) → length xs ≤ n → with_zeros n xs ≡ value → place < n → place < length value
place_inside n place xs value h e lt = let a = all_places n xs value h e in omega (arith, a, lt)

-- ---- what is read

got_left : (xs ys : List ℕ) (i k : ℕ) → slice_get xs i ≡ Some k → slice_get (xs ++ ys) i ≡ Some k
got_left [] ys i k e = absurd cc
got_left (x ∷ xs) ys zero k e = e
got_left (x ∷ xs) ys (suc i) k e = got_left xs ys i k e

got_zero : (m i : ℕ) → i < m → slice_get (replicate {A = ℕ} m 0) i ≡ Some 0
got_zero zero i h = absurd (omega arith)
got_zero (suc m) zero h = refl
got_zero (suc m) (suc i) h = got_zero m i (omega arith)

got_blank : (xs : List ℕ) (m i : ℕ) → slice_get xs i ≡ None → i < length xs + m → slice_get (xs ++ replicate m 0) i ≡ Some 0
got_blank [] m i e h = got_zero m i (omega arith)
got_blank (x ∷ xs) m zero e h = absurd cc
got_blank (x ∷ xs) m (suc i) e h = got_blank xs m i e (omega arith)

pub read_kept : (n i k : ℕ) (xs value : List ℕ) → with_zeros n xs ≡ value → slice_get xs i ≡ Some k → slice_get value i ≡ Some k
read_kept n i k xs value e is = ap (λ (zs : List ℕ). slice_get zs i) (sym e) ∙ got_left xs (replicate (n - length xs) 0) i k is

pub read_blank : (n i : ℕ) (xs value : List ℕ) → length xs ≤ n → with_zeros n xs ≡ value → slice_get xs i ≡ None → i < length value → slice_get value i ≡ Some 0
read_blank n i xs value h e is lt =
    let a = all_places n xs value h e in
    ap (λ (zs : List ℕ). slice_get zs i) (sym e) ∙ got_blank xs (n - length xs) i is (omega (arith, a, lt, h))

pub read_past : (n i : ℕ) (xs value : List ℕ) → length xs ≤ n → with_zeros n xs ≡ value → n ≤ i → None ≡ slice_get value i
read_past n i xs value h e le = let a = all_places n xs value h e in sym (slice_get_past value i (omega (arith, a, le)))

-- ---- what is kept

pub reaches_already : (place places : ℕ) (xs : List ℕ) → place < length xs → length xs ≤ places → ReachesPlace place places xs xs
reaches_already place places xs h le = record { far = h; within = le; same = refl }

pub reaches_more : (place places : ℕ) (xs ys : List ℕ) → length xs ≤ place → place < places → ys ≡ take (place + 1) xs ++ replicate (place + 1 - length xs) 0 → ReachesPlace place places xs ys
reaches_more place places xs ys h lt e =
    let is : ys ≡ xs ++ replicate (place + 1 - length xs) 0 = e ∙ ap (λ (zs : List ℕ). zs ++ replicate (place + 1 - length xs) 0) (take_all (place + 1) xs (omega arith)) in
    let a = length-append xs (replicate (place + 1 - length xs) 0) in
    let b = blanks (place + 1 - length xs) in
    let l : length ys ≡ length (xs ++ replicate (place + 1 - length xs) 0) = ap length is in
    let many : length ys ≡ place + 1 = omega (arith, a, b, l, h) in
    let all : place + 1 - length xs + (places - length ys) ≡ places - length xs = omega (arith, many, h, lt) in
    record {
      far = omega (arith, many);
      within = omega (arith, many, lt);
      same =
          ap (λ (zs : List ℕ). zs ++ replicate (places - length ys) 0) is
          ∙ append_assoc xs (replicate (place + 1 - length xs) 0) (replicate (places - length ys) 0)
          ∙ ap (λ (zs : List ℕ). xs ++ zs) (replicate-append-replicate (place + 1 - length xs) (places - length ys) 0)
          ∙ ap (λ (k : ℕ). xs ++ replicate k 0) all;
    }

pub put_within : (place places k : ℕ) (old new last : List ℕ) → ReachesPlace place places old new → last ≡ set new place k → length last ≤ places
put_within place places k old new last r e = let l : length last ≡ length (set new place k) = ap length e in let s = length-set new place k in let w = r.within in omega (arith, l, s, w)

pub put_padded : (place places k : ℕ) (old new last value : List ℕ) → with_zeros places old ≡ value → ReachesPlace place places old new → last ≡ set new place k → with_zeros places last ≡ set value place k
put_padded place places k old new last value v r e =
    ap (with_zeros places) e
    ∙ ap (λ (m : ℕ). set new place k ++ replicate (places - m) 0) (length-set new place k)
    ∙ sym (set-append_left new (replicate (places - length new) 0) place k r.far)
    ∙ ap (λ (zs : List ℕ). set zs place k) (r.same ∙ v)
