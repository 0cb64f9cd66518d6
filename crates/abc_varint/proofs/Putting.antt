-- What puts leave, and how numbers are spelled.
use Rattle.std.proofs.Common.{◌≡◌, ℕ, suc, ◌+◌, ◌-◌, ◌%◌, ◌/◌, ◌^◌, ◌<◌, ◌≤◌, Ok, Err, List, [], ◌∷◌, ◌++◌, length, take, drop, length-append, append_assoc, refl, sym, ap, ◌∙◌, arith}
use Rattle.std.specs.declared.result.Result.{Result}
use Rattle.std.proofs.lemmas.List.{take_all, take_at, take-append-drop}
use Rattle.std.proofs.lemmas.Bool.{le-ltb, lt-ltb}
use Rattle.abc_base.specs.Numbers.{groups_of, number_bytes}
use Rattle.abc_file_types.specs.Canonical.{pool_count}
use Rattle.abc_varint.specs.Puts.{Puts, PutsWhole}

-- ---- what stands before

-- what stands before stays, through two steps
pub stays : (a x b c : List ℕ) → b ≡ a ++ x → take (length b) c ≡ b → take (length a) c ≡ a
stays a x b c e h =
    let le : length a ≤ length b = omega (arith, ap length e, length-append a x) in
    let parts : c ≡ b ++ drop (length b) c = sym (take-append-drop (length b) c) ∙ ap (λ (t : List ℕ). t ++ drop (length b) c) h in
    let all : c ≡ a ++ (x ++ drop (length b) c) = parts ∙ ap (λ (t : List ℕ). t ++ drop (length b) c) e ∙ append_assoc a x (drop (length b) c) in
    ap (take (length a)) all ∙ take_at a (x ++ drop (length b) c) (length a) refl

-- what did not change is at the front
pub stays_whole : (a c : List ℕ) → c ≡ a → take (length a) c ≡ a
stays_whole a c e = ap (take (length a)) e ∙ take_all (length a) a (omega arith)

-- all or nothing is more than a front that stays
pub puts_whole : {T E : Type 0} (old new : List ℕ) (r : Result T E) (bytes : List ℕ) → PutsWhole old new r bytes → Puts old new r bytes
puts_whole old new (Ok x) bytes h = h
puts_whole old new (Err e) bytes h = stays_whole old new h

-- ---- the spelling of a number, by its length

low : (k x : ℕ) → x < 128 → groups_of (suc k) x ≡ x ∷ []
low k x lt = rw (lt-ltb x 128 lt) refl

high : (k x : ℕ) → 128 ≤ x → groups_of (suc k) x ≡ (x % 128 + 128) ∷ groups_of k (x / 128)
high k x le = rw (le-ltb x 128 le) refl

pub bytes_1 : (v : ℕ) → v < 128 → number_bytes v ≡ v ∷ []
unfolding number_bytes
bytes_1 v a = low 4 v a

pub bytes_2 : (v w : ℕ) → 128 ≤ v → w ≡ v / 128 → w < 128 → number_bytes v ≡ (v % 128 + 128) ∷ w ∷ []
unfolding number_bytes
bytes_2 v w a e b = high 4 v a ∙ ap (λ (t : List ℕ). (v % 128 + 128) ∷ t) (ap (groups_of 4) (sym e) ∙ low 3 w b)

pub bytes_3 : (v w x : ℕ) → 128 ≤ v → w ≡ v / 128 → 128 ≤ w → x ≡ w / 128 → x < 128 → number_bytes v ≡ (v % 128 + 128) ∷ (w % 128 + 128) ∷ x ∷ []
unfolding number_bytes
bytes_3 v w x a e b f c = high 4 v a ∙ ap (λ (t : List ℕ). (v % 128 + 128) ∷ t) (ap (groups_of 4) (sym e) ∙ high 3 w b ∙ ap (λ (t : List ℕ). (w % 128 + 128) ∷ t) (ap (groups_of 3) (sym f) ∙ low 2 x c))

pub bytes_4 : (v w x y : ℕ) → 128 ≤ v → w ≡ v / 128 → 128 ≤ w → x ≡ w / 128 → 128 ≤ x → y ≡ x / 128 → y < 128 → number_bytes v ≡ (v % 128 + 128) ∷ (w % 128 + 128) ∷ (x % 128 + 128) ∷ y ∷ []
unfolding number_bytes
bytes_4 v w x y a e b f c g d =
    high 4 v a
    ∙ ap (λ (t : List ℕ). (v % 128 + 128) ∷ t) (ap (groups_of 4) (sym e) ∙ high 3 w b
    ∙ ap (λ (t : List ℕ). (w % 128 + 128) ∷ t) (ap (groups_of 3) (sym f) ∙ high 2 x c
    ∙ ap (λ (t : List ℕ). (x % 128 + 128) ∷ t) (ap (groups_of 2) (sym g) ∙ low 1 y d)))

abbrev four : ℕ → ℕ → ℕ → ℕ → List ℕ → List ℕ
four v w x y t = (v % 128 + 128) ∷ (w % 128 + 128) ∷ (x % 128 + 128) ∷ (y % 128 + 128) ∷ t

four_groups : (v w x y z : ℕ) → 128 ≤ v → w ≡ v / 128 → 128 ≤ w → x ≡ w / 128 → 128 ≤ x → y ≡ x / 128 → 128 ≤ y → z ≡ y / 128 → number_bytes v ≡ four v w x y (groups_of 1 z)
unfolding number_bytes
four_groups v w x y z a e b f c g d h =
    high 4 v a
    ∙ ap (λ (t : List ℕ). (v % 128 + 128) ∷ t) (ap (groups_of 4) (sym e) ∙ high 3 w b
    ∙ ap (λ (t : List ℕ). (w % 128 + 128) ∷ t) (ap (groups_of 3) (sym f) ∙ high 2 x c
    ∙ ap (λ (t : List ℕ). (x % 128 + 128) ∷ t) (ap (groups_of 2) (sym g) ∙ high 1 y d
    ∙ ap (λ (t : List ℕ). (y % 128 + 128) ∷ t) (ap (groups_of 1) (sym h)))))

pub bytes_5 : (v w x y z : ℕ) → 128 ≤ v → w ≡ v / 128 → 128 ≤ w → x ≡ w / 128 → 128 ≤ x → y ≡ x / 128 → 128 ≤ y → z ≡ y / 128 → z < 128
    → number_bytes v ≡ (v % 128 + 128) ∷ (w % 128 + 128) ∷ (x % 128 + 128) ∷ (y % 128 + 128) ∷ z ∷ []
bytes_5 v w x y z a e b f c g d h i = four_groups v w x y z a e b f c g d h ∙ ap (four v w x y) (low 0 z i)

pub bytes_over : (v w x y z : ℕ) → 128 ≤ v → w ≡ v / 128 → 128 ≤ w → x ≡ w / 128 → 128 ≤ x → y ≡ x / 128 → 128 ≤ y → z ≡ y / 128 → 128 ≤ z
    → number_bytes v ≡ (v % 128 + 128) ∷ (w % 128 + 128) ∷ (x % 128 + 128) ∷ (y % 128 + 128) ∷ (z % 128 + 128) ∷ []
bytes_over v w x y z a e b f c g d h i = four_groups v w x y z a e b f c g d h ∙ ap (four v w x y) (high 0 z i)

-- five groups of which each is 0, and more follows
over : number_bytes (2 ^ 35) ≡ number_bytes (2 ^ 64)
unfolding number_bytes
over = refl

pub longest_pool : {A : Type 0} (xs : List A) → length xs ≡ 2 ^ 64 - 1 → number_bytes (2 ^ 35) ≡ number_bytes (pool_count xs)
longest_pool [] e = absurd (omega arith)
longest_pool (x ∷ xs) e = let n : 2 ^ 64 ≡ length xs + 2 = omega arith in over ∙ ap number_bytes n
