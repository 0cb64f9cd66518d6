-- Locals as blocks.
use Rattle.std.proofs.Common.{◌≡◌, ℕ, zero, suc, ◌+◌, ◌-◌, ◌*◌, ◌≤◌, ◌<◌, List, [], ◌∷◌, ◌++◌, Some, length, take, drop, get_or, refl, sym, ap, ◌∙◌, subst, arith}
use Rattle.std.specs.Prelude.{slice_get}
use Rattle.std.proofs.lemmas.List.{append-nil, append_assoc, drop-drop, length-drop, length-take-le, take-append-drop, take_all}
use Rattle.std.proofs.lemmas.List.Edits.{length-paste, paste_all}
use Rattle.std.proofs.Math.Seq.{paste}
use Rattle.abc_link_names.specs.declared.types.Kind.{Kind}
use Rattle.abc_verify_typing.specs.Lists.{Each2}
use Rattle.abc_verify_typing.proofs.Lists.{Each2-append}
use Rattle.abc_verify_flow.proofs.Lists.{each_along, read_more}
use Rattle.abc_verify_flow.specs.Blocks.{blocks_of_64}
use Rattle.abc_verify_flow.specs.Kept.{concat_blocks, over, part}
use Rattle.abc_verify_flow.specs.declared.span.Span.{Span}

pub length-cut : (n : ℕ) (xs : List Kind) → length (blocks_of_64 n xs) ≡ n
length-cut zero xs = refl
length-cut (suc n) xs = ap suc (length-cut n (drop 64 xs))

-- the block of a number
pub cut_at : (n i : ℕ) (xs : List Kind) (d : List Kind) → i < n → get_or (blocks_of_64 n xs) i d ≡ take 64 (drop (i * 64) xs)
cut_at zero i xs d lt = absurd (omega arith)
cut_at (suc n) zero xs d lt = refl
cut_at (suc n) (suc i) xs d lt = cut_at n i (drop 64 xs) d (omega arith) ∙ ap (take 64) (drop-drop (i * 64) 64 xs ∙ ap (λ (k : ℕ). drop k xs) (let z : 64 + i * 64 ≡ suc i * 64 = omega arith in z))

pub cut_more : (n : ℕ) (xs : List Kind) → blocks_of_64 (n + 1) xs ≡ blocks_of_64 n xs ++ take 64 (drop (n * 64) xs) ∷ []
cut_more n xs = let z : n + 1 ≡ suc n = omega arith in ap (λ (k : ℕ). blocks_of_64 k xs) z ∙ go n xs
  where
    go : (m : ℕ) (ys : List Kind) → blocks_of_64 (suc m) ys ≡ blocks_of_64 m ys ++ take 64 (drop (m * 64) ys) ∷ []
    go zero ys = refl
    go (suc m) ys = ap (λ (zs : List (List Kind)). take 64 ys ∷ zs) (go m (drop 64 ys) ∙ ap (λ (zs : List Kind). blocks_of_64 m (drop 64 ys) ++ take 64 zs ∷ []) (drop-drop (m * 64) 64 ys ∙ ap (λ (k : ℕ). drop k ys) (let z : 64 + m * 64 ≡ suc m * 64 = omega arith in z)))

nothing_left : {X : Type 0} (xs : List X) → length xs ≤ 0 → [] ≡ xs
nothing_left [] h = refl
nothing_left (x ∷ xs) h = absurd (omega arith)

pub joined_cut : (n : ℕ) (xs : List Kind) → length xs ≤ n * 64 → concat_blocks (blocks_of_64 n xs) ≡ xs
joined_cut zero xs h = nothing_left xs (omega arith)
joined_cut (suc n) xs h = ap (λ (ys : List Kind). take 64 xs ++ ys) (joined_cut n (drop 64 xs) (let e = length-drop 64 xs in omega (arith, e, h))) ∙ take-append-drop 64 xs

joined-append : {X : Type 0} (xs ys : List (List X)) → concat_blocks (xs ++ ys) ≡ concat_blocks xs ++ concat_blocks ys
joined-append [] ys = refl
joined-append {X} (x ∷ xs) ys = ap (λ (zs : List X). x ++ zs) (joined-append xs ys) ∙ sym (append_assoc x (concat_blocks xs) (concat_blocks ys))

pub joined_last : {X : Type 0} (xs : List (List X)) (x : List X) → concat_blocks (xs ++ x ∷ []) ≡ concat_blocks xs ++ x
joined_last {X} xs x = joined-append xs (x ∷ []) ∙ ap (λ (zs : List X). concat_blocks xs ++ zs) (append-nil x)

-- one block more of a part
pub part_more_at : {X : Type 0} (s : Span) (xs : List (List X)) (i : ℕ) (x : List X) → slice_get xs (s.first + i) ≡ Some x → i < s.count → take (i + 1) (part s xs) ≡ take i (part s xs) ++ x ∷ []
part_more_at s xs i x e lt = read_more (part s xs) i x (got_taken s.count (drop s.first xs) i x lt (got_dropped s.first xs i x e))
  where
    got_dropped : {X : Type 0} (n : ℕ) (ys : List X) (k : ℕ) (y : X) → slice_get ys (n + k) ≡ Some y → slice_get (drop n ys) k ≡ Some y
    got_dropped zero ys k y f = let z : 0 + k ≡ k = omega arith in subst (λ (j : ℕ). slice_get ys j ≡ Some y) z f
    got_dropped (suc n) [] k y f = absurd cc
    got_dropped (suc n) (w ∷ ys) k y f = let z : suc n + k ≡ suc (n + k) = omega arith in got_dropped n ys k y (subst (λ (j : ℕ). slice_get (w ∷ ys) j ≡ Some y) z f)

    got_taken : {X : Type 0} (n : ℕ) (ys : List X) (k : ℕ) (y : X) → k < n → slice_get ys k ≡ Some y → slice_get (take n ys) k ≡ Some y
    got_taken zero ys k y h f = absurd (omega arith)
    got_taken (suc n) [] k y h f = f
    got_taken (suc n) (w ∷ ys) zero y h f = f
    got_taken (suc n) (w ∷ ys) (suc k) y h f = got_taken n ys k y (omega arith) f

pub cut_behind : (old now new : List (List Kind)) (i : ℕ) (xs x : List Kind) → now ≡ old ++ blocks_of_64 i xs → new ≡ now ++ x ∷ [] → x ≡ take 64 (drop (i * 64) xs) → new ≡ old ++ blocks_of_64 (i + 1) xs
cut_behind old now new i xs x p q r =
    q
    ∙ ap (λ (ys : List (List Kind)). ys ++ x ∷ []) p
    ∙ append_assoc old (blocks_of_64 i xs) (x ∷ [])
    ∙ ap (λ (y : List Kind). old ++ (blocks_of_64 i xs ++ y ∷ [])) r
    ∙ ap (λ (ys : List (List Kind)). old ++ ys) (sym (cut_more i xs))

module _ (R : Kind → Kind → Type 0) (xs : List Kind) (s : Span) (bs : List (List Kind)) where
  pub each_block : (i : ℕ) (x y : List Kind) → x ≡ take 64 (drop (i * 64) xs) → slice_get bs (s.first + i) ≡ Some y → i < s.count → Each2 R (concat_blocks (blocks_of_64 i xs)) (concat_blocks (take i (part s bs))) → Each2 R x y → Each2 R (concat_blocks (blocks_of_64 (i + 1) xs)) (concat_blocks (take (i + 1) (part s bs)))
  each_block i x y is e lt h r =
      each_along R _ _ _ _ (Each2-append R (concat_blocks (blocks_of_64 i xs)) (concat_blocks (take i (part s bs))) x y h r)
      (sym (joined_last (blocks_of_64 i xs) x) ∙ ap (λ (z : List Kind). concat_blocks (blocks_of_64 i xs ++ z ∷ [])) is ∙ ap concat_blocks (sym (cut_more i xs)))
      (sym (joined_last (take i (part s bs)) y) ∙ ap concat_blocks (sym (part_more_at s bs i y e lt)))

pub part_all : {X : Type 0} (s : Span) (xs : List X) → s.first + s.count ≤ length xs → take s.count (part s xs) ≡ part s xs
part_all s xs h = take_all s.count (part s xs) (let a = length-take-le s.count (drop s.first xs) (let e = length-drop s.first xs in omega (arith, e, h)) in omega (arith, a))

pub pasted_length : (old now : List (List Kind)) (s : Span) (xs : List Kind) (i : ℕ) → now ≡ paste old s.first (blocks_of_64 s.count xs) i → s.first + s.count ≤ length old → i ≤ s.count → length now ≡ length old
pasted_length old now s xs i e h le =
    ap (λ (ys : List (List Kind)). length ys) e
    ∙ length-paste old s.first (blocks_of_64 s.count xs) i (omega (arith, h, le)) (let q = length-cut s.count xs in omega (arith, q, le))

pub pasted_over : (old now : List (List Kind)) (s : Span) (xs : List Kind) (i : ℕ) → now ≡ paste old s.first (blocks_of_64 s.count xs) i → i ≡ s.count → now ≡ over s old (blocks_of_64 s.count xs)
pasted_over old now s xs i e q =
    e
    ∙ paste_all old s.first (blocks_of_64 s.count xs) i (q ∙ sym (length-cut s.count xs))
    ∙ ap (λ (k : ℕ). take s.first old ++ (blocks_of_64 s.count xs ++ drop (s.first + k) old)) q
    ∙ ap (λ (ys : List (List Kind)). take s.first old ++ (blocks_of_64 s.count xs ++ ys)) (sym (drop-drop s.count s.first old))

pub no_block : {X : Type 0} (xs : List X) (n : ℕ) → length xs ≤ n → [] ≡ take 64 (drop n xs)
no_block {X} xs n h = ap (take 64) (nothing_left (drop n xs) (let e = length-drop n xs in omega (arith, e, h)))

pub short_block : {X : Type 0} (xs : List X) (n : ℕ) → length xs - n ≤ 64 → take (length xs - n) (drop n xs) ≡ take 64 (drop n xs)
short_block xs n h =
    let e = length-drop n xs in
    take_all (length xs - n) (drop n xs) (omega (arith, e)) ∙ sym (take_all 64 (drop n xs) (omega (arith, e, h)))
