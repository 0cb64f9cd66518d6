-- A line at the front of an input.
use Rattle.std.proofs.Common.{◌≡◌, ◌≢◌, ℕ, zero, suc, ◌+◌, ◌<◌, ◌≤◌, ◌^◌, true, List, [], ◌∷◌, ◌++◌, length, drop, take, get_or, Some, None, refl, sym, ap, subst, ◌∙◌, arith, append_assoc, length-append, length-take-le}
use Rattle.std.specs.Prelude.{codes, decimal, EachIndex, IfSome, nat_le, not}
use Rattle.std.proofs.lemmas.List.{append-nil}
use Rattle.std.specs.List.{flat_map, list_all}
use Rattle.std.specs.Io.KnownBytes.{Consumes}
use Rattle.std.specs.declared.option.Option.{Option}
use Rattle.std.proofs.lemmas.Bool.{and_from, and_parts, both_ways, leb-true, ne_eqb}
use Rattle.std.proofs.lemmas.Fmt.{length-decimal-le}
use Rattle.std.proofs.lemmas.List.Folds.{list_all-append}
use Rattle.abc_heap_store.specs.declared.records.Limits.{Limits}
use Rattle.abc_log.specs.Lines.{AreLimits, limits_line, limits_text, next_number, limit_numbers}
use Rattle.abc_log.specs.Bytes.{GivesNext}
use Rattle.abc_log.specs.Limits.{HasNoLimits, HasNoLine, is_limit_digit, is_no_feed}
use Rattle.abc_log.proofs.Fronts.{one_front}
use Rattle.abc_log.proofs.Spelling.{all_digits, one_list}

-- ---- the text of limits

no_feed_digit : (b : ℕ) → is_limit_digit b ≡ true → is_no_feed b ≡ true
no_feed_digit b e =
    let low : 48 ≤ b = leb-true 48 b (and_parts (nat_le 48 b) (nat_le b 57) e).0 in
    ap not (ne_eqb b 10 (λ same. omega (arith, same)))

no_feeds : (ds : List ℕ) → list_all is_limit_digit ds ≡ true → list_all is_no_feed ds ≡ true
no_feeds [] all = refl
no_feeds (d ∷ ds) all =
    let both = and_parts (is_limit_digit d) (list_all is_limit_digit ds) all in
    and_from (is_no_feed d) (list_all is_no_feed ds) (no_feed_digit d both.0) (no_feeds ds both.1)

no_feed_next : (n : ℕ) → n < 2 ^ 64 → list_all is_no_feed (next_number n) ≡ true
no_feed_next n small = no_feeds (decimal n) (all_digits n small)

next_and : (n : ℕ) (more : List ℕ) → n < 2 ^ 64 → list_all is_no_feed more ≡ true → list_all is_no_feed (next_number n ++ more) ≡ true
next_and n more small all = list_all-append is_no_feed (next_number n) more ∙ and_from (list_all is_no_feed (next_number n)) (list_all is_no_feed more) (no_feed_next n small) all

pub limits_feedless : (fuel : ℕ) (m : Limits) → AreLimits fuel m → list_all is_no_feed (limits_text fuel m) ≡ true
unfolding limits_text
limits_feedless fuel m a =
    list_all-append is_no_feed (codes "limits") (flat_map next_number (limit_numbers fuel m))
    ∙ next_and fuel _ (omega (arith, a.steps)) (next_and m.objects _ (omega (arith, a.objects)) (next_and m.cells _ (omega (arith, a.cells)) (next_and m.text _ (omega (arith, a.text)) (next_and m.frames _ (omega (arith, a.frames)) (next_and m.stack [] (omega (arith, a.stack)) refl)))))

few_digits : (n : ℕ) → n ≤ 2 ^ 24 → length (decimal n) ≤ 8
few_digits n small = length-decimal-le 8 n (omega arith) (omega (arith, small)) (omega (arith, small))

length_next : (n k : ℕ) (ns : List ℕ) → length (decimal n) ≤ k → length (flat_map next_number (n ∷ ns)) ≤ k + 1 + length (flat_map next_number ns)
length_next n k ns few =
    let far : length (next_number n ++ flat_map next_number ns) ≡ length (next_number n) + length (flat_map next_number ns) = length-append (next_number n) (flat_map next_number ns) in
    let one : length (next_number n) ≡ suc (length (decimal n)) = refl in
    let most : length (next_number n) + length (flat_map next_number ns) ≤ k + 1 + length (flat_map next_number ns) = omega (arith, one, few) in
    subst (λ (l : ℕ). l ≤ k + 1 + length (flat_map next_number ns)) (sym far) most

add_up : (all a b c d e f : ℕ) → all ≡ 6 + a → a ≤ 10 + 1 + b → b ≤ 8 + 1 + c → c ≤ 8 + 1 + d → d ≤ 8 + 1 + e → e ≤ 8 + 1 + f → f ≤ 8 + 1 + 0 → all < 64
add_up all a b c d e f whole one two three four five six = omega arith

pub limits_few : (fuel : ℕ) (m : Limits) → AreLimits fuel m → length (limits_text fuel m) < 64
unfolding limits_text
limits_few fuel m a =
    add_up (length (limits_text fuel m)) (length (flat_map next_number (limit_numbers fuel m))) (length (flat_map next_number (m.objects ∷ m.cells ∷ m.text ∷ m.frames ∷ m.stack ∷ []))) (length (flat_map next_number (m.cells ∷ m.text ∷ m.frames ∷ m.stack ∷ [])))
    (length (flat_map next_number (m.text ∷ m.frames ∷ m.stack ∷ []))) (length (flat_map next_number (m.frames ∷ m.stack ∷ []))) (length (flat_map next_number (m.stack ∷ [])))
    (length-append (codes "limits") (flat_map next_number (limit_numbers fuel m)))
    (length_next fuel 10 (m.objects ∷ m.cells ∷ m.text ∷ m.frames ∷ m.stack ∷ []) (length-decimal-le 10 fuel (omega arith) (omega (arith, a.steps)) (omega (arith, a.steps))))
    (length_next m.objects 8 (m.cells ∷ m.text ∷ m.frames ∷ m.stack ∷ []) (few_digits m.objects a.objects))
    (length_next m.cells 8 (m.text ∷ m.frames ∷ m.stack ∷ []) (few_digits m.cells a.cells))
    (length_next m.text 8 (m.frames ∷ m.stack ∷ []) (few_digits m.text a.text))
    (length_next m.frames 8 (m.stack ∷ []) (few_digits m.frames a.frames))
    (length_next m.stack 8 [] (few_digits m.stack a.stack))

small_numbers : (fuel : ℕ) (m : Limits) → AreLimits fuel m → (k : ℕ) → k < 6 → get_or (limit_numbers fuel m) k 0 < 2 ^ 32
small_numbers fuel m a zero lt = a.steps
small_numbers fuel m a (suc zero) lt = omega (arith, a.objects)
small_numbers fuel m a (suc (suc zero)) lt = omega (arith, a.cells)
small_numbers fuel m a (suc (suc (suc zero))) lt = omega (arith, a.text)
small_numbers fuel m a (suc (suc (suc (suc zero)))) lt = omega (arith, a.frames)
small_numbers fuel m a (suc (suc (suc (suc (suc zero))))) lt = omega (arith, a.stack)
small_numbers fuel m a (suc (suc (suc (suc (suc (suc k)))))) lt = absurd (omega (arith, lt))

abbrev pub limits_at : List ℕ → Limits
limits_at ns = record { objects = get_or ns 1 0; cells = get_or ns 2 0; text = get_or ns 3 0; frames = get_or ns 4 0; stack = get_or ns 5 0 }

-- six numbers are a fuel and limits
pub six_numbers : (ns : List ℕ) → length ns ≡ 6 → ns ≡ limit_numbers (get_or ns 0 0) (limits_at ns)
six_numbers [] e = absurd (omega (arith, e))
six_numbers (a ∷ []) e = absurd (omega (arith, e))
six_numbers (a ∷ b ∷ []) e = absurd (omega (arith, e))
six_numbers (a ∷ b ∷ c ∷ []) e = absurd (omega (arith, e))
six_numbers (a ∷ b ∷ c ∷ d ∷ []) e = absurd (omega (arith, e))
six_numbers (a ∷ b ∷ c ∷ d ∷ f ∷ []) e = absurd (omega (arith, e))
six_numbers (a ∷ b ∷ c ∷ d ∷ f ∷ h ∷ []) e = refl
six_numbers (a ∷ b ∷ c ∷ d ∷ f ∷ h ∷ x ∷ xs) e = let more : suc (suc (suc (suc (suc (suc (suc (length xs))))))) ≡ 6 = e in absurd (omega (arith, more))

pub text_of : (line rest ns : List ℕ) → line ≡ codes "limits" ++ rest → rest ≡ flat_map next_number ns → length ns ≡ 6 → line ≡ limits_text (get_or ns 0 0) (limits_at ns)
unfolding limits_text
text_of line rest ns is all long = is ∙ ap (λ (l : List ℕ). codes "limits" ++ l) (all ∙ ap (flat_map next_number) (six_numbers ns long))

-- a text of limits is the word, and their numbers behind it
numbers_behind : (line rest : List ℕ) (fuel : ℕ) (m : Limits) → line ≡ codes "limits" ++ rest → line ≡ limits_text fuel m → rest ≡ flat_map next_number (limit_numbers fuel m)
unfolding limits_text
numbers_behind line rest fuel m is e = ap (drop 6) (sym is ∙ e)

pub no_word : (line : List ℕ) → ((rest : List ℕ) → line ≢ codes "limits" ++ rest) → (fuel : ℕ) (m : Limits) → AreLimits fuel m → line ≢ limits_text fuel m
unfolding limits_text
no_word line none fuel m a e = none (flat_map next_number (limit_numbers fuel m)) e

pub no_numbers : (line rest : List ℕ) → line ≡ codes "limits" ++ rest → ((ns : List ℕ) → length ns ≡ 6 → EachIndex ns (λ k. get_or ns k 0 < 2 ^ 32) → rest ≢ flat_map next_number ns) → (fuel : ℕ) (m : Limits) → AreLimits fuel m → line ≢ limits_text fuel m
no_numbers line rest is none fuel m a e = none (limit_numbers fuel m) refl (small_numbers fuel m a) (numbers_behind line rest fuel m is e)

-- with these numbers there are no other limits
pub these_limits : (line rest ns : List ℕ) → line ≡ codes "limits" ++ rest → rest ≡ flat_map next_number ns → length ns ≡ 6 → EachIndex ns (λ k. get_or ns k 0 < 2 ^ 32) → (fuel : ℕ) (m : Limits) → AreLimits fuel m → line ≡ limits_text fuel m → ns ≡ limit_numbers fuel m
these_limits line rest ns is all long small fuel m a e = one_list ns (limit_numbers fuel m) small (small_numbers fuel m a) long (sym all ∙ numbers_behind line rest fuel m is e)

pub too_great : (line rest ns : List ℕ) → line ≡ codes "limits" ++ rest → rest ≡ flat_map next_number ns → length ns ≡ 6 → EachIndex ns (λ k. get_or ns k 0 < 2 ^ 32)
    → ((get_or ns 1 0 ≤ 2 ^ 24) × (get_or ns 2 0 ≤ 2 ^ 24) × (get_or ns 3 0 ≤ 2 ^ 24) × (get_or ns 4 0 ≤ 2 ^ 24) × (get_or ns 5 0 ≤ 2 ^ 24) → ⊥) → (fuel : ℕ) (m : Limits) → AreLimits fuel m → line ≢ limits_text fuel m
too_great line rest ns is all long small great fuel m a e =
    let these = these_limits line rest ns is all long small fuel m a e in
    let at : (k : ℕ) → get_or ns k 0 ≡ get_or (limit_numbers fuel m) k 0 = λ k. ap (λ (l : List ℕ). get_or l k 0) these in
    great (omega (arith, at 1, a.objects), omega (arith, at 2, a.cells), omega (arith, at 3, a.text), omega (arith, at 4, a.frames), omega (arith, at 5, a.stack))

-- ---- lines

pub line_length : (line : List ℕ) (count fuel : ℕ) (m : Limits) → count < length line → take count line ≡ limits_text fuel m → count + 1 ≡ length (limits_line fuel m)
line_length line count fuel m fits e =
    let far : length (limits_text fuel m ++ 10 ∷ []) ≡ length (limits_text fuel m) + 1 = length-append (limits_text fuel m) (10 ∷ []) in
    let text : length (take count line) ≡ length (limits_text fuel m) = ap length e in
    let front : length (take count line) ≡ count = length-take-le count line (omega (arith, fits)) in
    omega (arith, far, text, front)

-- what has no line feed has no line in it
pub no_line_within : (bytes line more : List ℕ) → list_all is_no_feed bytes ≡ true → list_all is_no_feed line ≡ true → bytes ≢ line ++ 10 ∷ more
no_line_within bytes line more all one e =
    let none : [] ≡ 10 ∷ more = (one_front is_no_feed bytes line [] (10 ∷ more) all one tt refl (append-nil bytes ∙ e)).1 in
    cc

-- a line is not shorter than what has no line feed
pub no_line_short : (bytes left line more : List ℕ) → list_all is_no_feed bytes ≡ true → length line < length bytes → bytes ++ left ≢ line ++ 10 ∷ more
no_line_short [] left line more all short e = absurd (omega (arith, short))
no_line_short (b ∷ bytes) left [] more all short e =
    let both = and_parts (is_no_feed b) (list_all is_no_feed bytes) all in
    let here : b ≡ 10 = ap (λ (l : List ℕ). get_or l 0 0) e in
    both_ways (is_no_feed b) (ap is_no_feed here) both.0
no_line_short (b ∷ bytes) left (x ∷ line) more all short e =
    let both = and_parts (is_no_feed b) (list_all is_no_feed bytes) all in
    let shorter : suc (length line) < suc (length bytes) = short in
    no_line_short bytes left line more both.1 (omega (arith, shorter)) (ap (drop 1) e)

-- so many bytes without a line feed are the front of an input
pub no_line_in : (old new : Option (List ℕ)) (bytes : List ℕ) (most : ℕ) → most ≤ length bytes → list_all is_no_feed bytes ≡ true → Consumes old new bytes → IfSome old (HasNoLine most)
no_line_in None new bytes most many all taken = tt
no_line_in (Some xs) None bytes most many all taken = absurd taken
no_line_in (Some xs) (Some ys) bytes most many all taken = λ line more one short e. no_line_short bytes ys line more all (omega (arith, short, many)) (sym taken ∙ e)

-- the same where the input ends behind them
pub no_line_at_end : (old mid new : Option (List ℕ)) (bytes : List ℕ) (most : ℕ) → list_all is_no_feed bytes ≡ true → Consumes old mid bytes → GivesNext mid new None → IfSome old (HasNoLine most)
no_line_at_end None mid new bytes most all taken g = tt
no_line_at_end (Some xs) None new bytes most all taken g = absurd taken
no_line_at_end (Some xs) (Some ys) None bytes most all taken g = absurd g.taken
no_line_at_end (Some xs) (Some ys) (Some zs) bytes most all taken g = λ line more one short e.
    let none : ys ≡ [] = g.taken ∙ g.end refl in
    no_line_within bytes line more all one (sym (append-nil bytes) ∙ ap (λ (l : List ℕ). bytes ++ l) (sym none) ∙ sym taken ∙ e)

-- ---- no line of limits

pub no_limits_unlined : (input : List ℕ) → HasNoLine 64 input → HasNoLimits input
no_limits_unlined input none fuel m more a e =
    none (limits_text fuel m) more (limits_feedless fuel m a) (limits_few fuel m a) (e ∙ append_assoc (limits_text fuel m) (10 ∷ []) more)

pub no_limits_in : (old : Option (List ℕ)) → IfSome old (HasNoLine 64) → IfSome old HasNoLimits
no_limits_in None none = tt
no_limits_in (Some xs) none = no_limits_unlined xs none

pub no_limits_other : (old new : Option (List ℕ)) (line : List ℕ) → list_all is_no_feed line ≡ true → Consumes old new (line ++ 10 ∷ []) → ((fuel : ℕ) (m : Limits) → AreLimits fuel m → line ≢ limits_text fuel m) → IfSome old HasNoLimits
no_limits_other None new line one taken none = tt
no_limits_other (Some xs) None line one taken none = absurd taken
no_limits_other (Some xs) (Some ys) line one taken none = λ fuel m more a e.
    let parts : line ++ 10 ∷ ys ≡ limits_text fuel m ++ 10 ∷ more = sym (append_assoc line (10 ∷ []) ys) ∙ sym taken ∙ e ∙ append_assoc (limits_text fuel m) (10 ∷ []) more in
    none fuel m a (one_front is_no_feed line (limits_text fuel m) (10 ∷ ys) (10 ∷ more) one (limits_feedless fuel m a) refl refl parts).0
