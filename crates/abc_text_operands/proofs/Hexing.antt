-- The bytes of hexadecimal digits.
use Rattle.std.proofs.Common.{◌≡◌, ℕ, zero, suc, ◌+◌, ◌*◌, ◌<◌, ◌≤◌, ◌&&◌, Bool, true, false, cond, nat_eq, List, [], ◌∷◌, ◌++◌, length, drop, take, get_or, Some, None, Ok, Err, refl, sym, ap, ◌∙◌, append_assoc, append-nil, arith}
use Rattle.std.proofs.Math.ListN.{set}
use Rattle.std.proofs.Math.Seq.{drop-cons, take-suc-set}
use Rattle.std.proofs.lemmas.Bool.Decides.{nat_tests}
use Rattle.std.specs.declared.option.Option.{Option}
use Rattle.std.specs.declared.result.Result.{Result}
use Rattle.abc_text_lines.specs.declared.reason.AsmReason.TheVariants as reasons
use Rattle.abc_text_lines.specs.Tokens.{hex_pair, is_hex}
use Rattle.abc_text_lines.specs.Operands.{eight_in, hex_bytes, more_hex}
use Rattle.abc_text_operands.specs.Otherlines.{onto_hex}

-- ---- two digits

abbrev Bytes : Type 0
Bytes = Option (List ℕ)

both_hex : (a b : Bool) (x : Bytes) → a ≡ true → b ≡ true → cond (a && b) x None ≡ x
both_hex true true x e f = refl
both_hex true false x e f = absurd cc
both_hex false b x e f = absurd cc

first_not : (a b : Bool) (x : Bytes) → a ≡ false → cond (a && b) x None ≡ None
first_not true b x e = absurd cc
first_not false b x e = refl

second_not : (a b : Bool) (x : Bytes) → b ≡ false → cond (a && b) x None ≡ None
second_not true true x e = absurd cc
second_not true false x e = refl
second_not false b x e = refl

cut : (w : List ℕ) (k : ℕ) → k + 1 < length w → drop k w ≡ get_or w k 0 ∷ get_or w (k + 1) 0 ∷ drop (k + 2) w
cut w k lt =
    let one : suc k ≡ k + 1 = omega arith in
    let two : suc (k + 1) ≡ k + 2 = omega arith in
    let first : drop k w ≡ get_or w k 0 ∷ drop (k + 1) w = drop-cons w k 0 (omega arith) ∙ ap (λ (m : ℕ). get_or w k 0 ∷ drop m w) one in
    let second : drop (k + 1) w ≡ get_or w (k + 1) 0 ∷ drop (k + 2) w = drop-cons w (k + 1) 0 lt ∙ ap (λ (m : ℕ). get_or w (k + 1) 0 ∷ drop m w) two in
    first ∙ ap (λ (l : List ℕ). get_or w k 0 ∷ l) second

abbrev pair_then : List ℕ → ℕ → Bytes
pair_then w k = more_hex (hex_pair (get_or w k 0) (get_or w (k + 1) 0)) (hex_bytes (drop (k + 2) w))

pub hex_next : (w : List ℕ) (k byte : ℕ) → k + 1 < length w → is_hex (get_or w k 0) ≡ true → is_hex (get_or w (k + 1) 0) ≡ true → byte ≡ hex_pair (get_or w k 0) (get_or w (k + 1) 0) → hex_bytes (drop k w) ≡ more_hex byte (hex_bytes (drop (k + 2) w))
hex_next w k byte lt a b is =
    ap hex_bytes (cut w k lt)
    ∙ both_hex (is_hex (get_or w k 0)) (is_hex (get_or w (k + 1) 0)) (pair_then w k) a b
    ∙ ap (λ (n : ℕ). more_hex n (hex_bytes (drop (k + 2) w))) (sym is)

pub hex_high : (w : List ℕ) (k : ℕ) → k + 1 < length w → is_hex (get_or w k 0) ≡ false → hex_bytes (drop k w) ≡ None
hex_high w k lt a = ap hex_bytes (cut w k lt) ∙ first_not (is_hex (get_or w k 0)) (is_hex (get_or w (k + 1) 0)) (pair_then w k) a

pub hex_low : (w : List ℕ) (k : ℕ) → k + 1 < length w → is_hex (get_or w (k + 1) 0) ≡ false → hex_bytes (drop k w) ≡ None
hex_low w k lt b = ap hex_bytes (cut w k lt) ∙ second_not (is_hex (get_or w k 0)) (is_hex (get_or w (k + 1) 0)) (pair_then w k) b

-- ---- how many bytes there are

abbrev are : ℕ → Bytes → Bool
are n None = false
are n (Some bytes) = nat_eq (length bytes) n

none_more : (c : Bool) (p : ℕ) (o : Bytes) → are 0 (cond c (more_hex p o) None) ≡ false
none_more false p o = refl
none_more true p None = refl
none_more true p (Some bytes) = (let t : nat_eq (suc (length bytes)) 0 ≡ false = grind (arith, nat_tests) in t)

one_more : (c : Bool) (p : ℕ) (o : Bytes) (n : ℕ) → are n o ≡ false → are (suc n) (cond c (more_hex p o) None) ≡ false
one_more false p o n e = refl
one_more true p None n e = refl
one_more true p (Some bytes) n e = (let f : nat_eq (length bytes) n ≡ false = e in let t : nat_eq (suc (length bytes)) (suc n) ≡ false = grind (arith, nat_tests) in t)

not_many : (w : List ℕ) (n : ℕ) → ¬ (length w ≡ 2 * n) → are n (hex_bytes w) ≡ false
not_many [] zero differs = absurd (differs refl)
not_many [] (suc n) differs = (let t : nat_eq 0 (suc n) ≡ false = grind (arith, nat_tests) in t)
not_many (a ∷ []) n differs = refl
not_many (a ∷ b ∷ w) zero differs = none_more (is_hex a && is_hex b) (hex_pair a b) (hex_bytes w)
not_many (a ∷ b ∷ w) (suc n) differs = one_more (is_hex a && is_hex b) (hex_pair a b) (hex_bytes w) n (not_many w n (λ same. differs (omega arith)))

not_eight : (o : Bytes) → are 8 o ≡ false → Err reasons.Kind ≡ eight_in o
not_eight None e = refl
not_eight (Some bytes) e = (let f : nat_eq (length bytes) 8 ≡ false = e in rw f refl)

pub short_word : (w : List ℕ) → ¬ (length w ≡ 16) → Err reasons.Kind ≡ eight_in (hex_bytes w)
short_word w differs = not_eight (hex_bytes w) (not_many w 8 differs)

-- ---- one byte after the other

pub onto_nothing : (o : Bytes) → onto_hex [] o ≡ o
onto_nothing None = refl
onto_nothing (Some bytes) = refl

onto_more : (xs : List ℕ) (byte : ℕ) (o : Bytes) → onto_hex xs (more_hex byte o) ≡ onto_hex (xs ++ byte ∷ []) o
onto_more xs byte None = refl
onto_more xs byte (Some ys) = ap (λ (l : List ℕ). Some l) (sym (append_assoc xs (byte ∷ []) ys))

pub more_bytes : (w bytes : List ℕ) (i byte : ℕ) → i < length bytes → hex_bytes (drop (2 * i) w) ≡ more_hex byte (hex_bytes (drop (2 * i + 2) w)) → onto_hex (take i bytes) (hex_bytes (drop (2 * i) w)) ≡ hex_bytes w → onto_hex (take (i + 1) (set bytes i byte)) (hex_bytes (drop (2 * (i + 1)) w)) ≡ hex_bytes w
more_bytes w bytes i byte lt next so_far =
    let twice : 2 * (i + 1) ≡ 2 * i + 2 = omega arith in
    let one : i + 1 ≡ suc i = omega arith in
    let taken : take (i + 1) (set bytes i byte) ≡ take i bytes ++ byte ∷ [] = ap (λ (k : ℕ). take k (set bytes i byte)) one ∙ take-suc-set bytes i byte lt in
    ap (λ (k : ℕ). onto_hex (take (i + 1) (set bytes i byte)) (hex_bytes (drop k w))) twice
    ∙ ap (λ (l : List ℕ). onto_hex l (hex_bytes (drop (2 * i + 2) w))) taken
    ∙ sym (onto_more (take i bytes) byte (hex_bytes (drop (2 * i + 2) w)))
    ∙ ap (onto_hex (take i bytes)) (sym next)
    ∙ so_far

pub no_bytes : (w bytes : List ℕ) (i : ℕ) → hex_bytes (drop (2 * i) w) ≡ None → onto_hex (take i bytes) (hex_bytes (drop (2 * i) w)) ≡ hex_bytes w → Err reasons.Kind ≡ eight_in (hex_bytes w)
no_bytes w bytes i none so_far = ap eight_in (sym (ap (onto_hex (take i bytes)) none) ∙ so_far)

drop_all : (w : List ℕ) (n : ℕ) → length w ≡ n → drop n w ≡ []
drop_all [] zero e = refl
drop_all [] (suc n) e = absurd (omega arith)
drop_all (a ∷ w) zero e = absurd (omega arith)
drop_all (a ∷ w) (suc n) e = drop_all w n (omega arith)

take_all : (w : List ℕ) (n : ℕ) → length w ≡ n → take n w ≡ w
take_all [] zero e = refl
take_all [] (suc n) e = absurd (omega arith)
take_all (a ∷ w) zero e = absurd (omega arith)
take_all (a ∷ w) (suc n) e = ap (λ (l : List ℕ). a ∷ l) (take_all w n (omega arith))

eight_good : (bytes : List ℕ) → length bytes ≡ 8 → Ok bytes ≡ eight_in (Some bytes)
eight_good bytes e = (let t : nat_eq (length bytes) 8 ≡ true = grind (arith, nat_tests) in rw t refl)

pub all_bytes : (w bytes : List ℕ) (i : ℕ) → length w ≡ 16 → length bytes ≡ 8 → i ≡ 8 → onto_hex (take i bytes) (hex_bytes (drop (2 * i) w)) ≡ hex_bytes w → Ok bytes ≡ eight_in (hex_bytes w)
all_bytes w bytes i long many end so_far =
    let last : 2 * i ≡ 16 = omega arith in
    let rest : drop (2 * i) w ≡ [] = ap (λ (k : ℕ). drop k w) last ∙ drop_all w 16 long in
    let front : take i bytes ≡ bytes = take_all bytes i (many ∙ sym end) in
    eight_good bytes many
    ∙ ap (λ (l : List ℕ). eight_in (Some l)) (sym (append-nil bytes))
    ∙ ap (λ (l : List ℕ). eight_in (onto_hex l (Some []))) (sym front)
    ∙ ap (λ (l : List ℕ). eight_in (onto_hex (take i bytes) (hex_bytes l))) (sym rest)
    ∙ ap eight_in so_far
