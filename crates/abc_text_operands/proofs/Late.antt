-- Operands have only reasons after Operands, so a wrong number of tokens is told first.
use Rattle.std.proofs.Common.{◌≡◌, ℕ, ◌<◌, ◌^◌, ◌&&◌, ◌⊎◌, inl, inr, Bool, true, false, cond, nat_le, nat_lt, List, [], ◌∷◌, Some, None, Ok, Err, refl, sym, ap, ◌∙◌, arith}
use Rattle.std.proofs.lemmas.Bool.Decides.{nat_tests}
use Rattle.std.specs.declared.option.Option.{Option}
use Rattle.std.specs.declared.result.Result.{Result}
use Rattle.abc_text_lines.specs.declared.reason.AsmReason.{AsmReason}
use Rattle.abc_text_lines.specs.declared.reason.AsmReason.TheVariants as reasons
use Rattle.abc_text_lines.specs.Reasons.{rank_of_reason}
use Rattle.abc_text_lines.specs.Tokens.{Token, Bare, Quoted}
use Rattle.abc_text_lines.proofs.Bools.{split_bool}
use Rattle.abc_text_lines.specs.Lines.{Label}
use Rattle.abc_text_lines.specs.Operands.{Operand, Operands, any_number, by, entry_upto, index_upto, is_numeral, number_below, number_of_digits, numeral, test_result, u30_operand, value_if_any, ◌&◌}
use Rattle.abc_text_operands.specs.Joined.{both_or_reason, line_result}
use Rattle.abc_text_operands.proofs.Joining.{badly_counted, next_operand}
use Rattle.abc_text_operands.proofs.More.{next_by}

abbrev pub IsLate : {A : Type 0} → Result A AsmReason → Type 0
IsLate (Ok x) = Unit {0}
IsLate (Err r) = 4 < rank_of_reason r

if_late : {A : Type 0} (b : Bool) (x : A) (r : AsmReason) → 4 < rank_of_reason r → IsLate {A = A} (cond b (Ok x) (Err r))
if_late true x r h = tt
if_late false x r h = h

tested_late : {A : Type 0} (test : A → Bool) (reason : AsmReason) (r : Result A AsmReason) → 4 < rank_of_reason reason → IsLate r → IsLate (test_result test reason r)
tested_late test reason (Ok x) h l = if_late (test x) x reason h
tested_late test reason (Err s) h l = l

numeral_late : (token : Token) → IsLate (numeral token)
numeral_late (Bare word) = if_late (is_numeral word) (number_of_digits word) reasons.Number (omega arith)
numeral_late (Quoted bytes) = omega arith

pub below_late : (bound : ℕ) (labels : List Label) (token : Token) → IsLate ((number_below bound).reads labels token)
unfolding any_number
below_late bound labels token = tested_late (λ n. nat_lt n bound) reasons.Range (numeral token) (omega arith) (numeral_late token)

pub u30_late : (labels : List Label) (token : Token) → IsLate (u30_operand.reads labels token)
u30_late labels token = below_late (2 ^ 30) labels token

pub upto_late : (size : ℕ) (labels : List Label) (token : Token) → IsLate ((index_upto size).reads labels token)
upto_late size labels token = tested_late (λ n. nat_le n size) reasons.Index (u30_operand.reads labels token) (omega arith) (u30_late labels token)

pub entry_late : (size : ℕ) (labels : List Label) (token : Token) → IsLate ((entry_upto size).reads labels token)
entry_late size labels token = tested_late (λ n. nat_lt 0 n && nat_le n size) reasons.Index (u30_operand.reads labels token) (omega arith) (u30_late labels token)

-- ---- a wrong number behind an operand

abbrev wrong : {B : Type 0} → Result B AsmReason
wrong = Err reasons.Operands

pub wrong_behind : {A B : Type 0} (r : Result A AsmReason) → IsLate r → both_or_reason {B = B} r wrong ≡ wrong
wrong_behind (Ok x) late = refl
wrong_behind (Err r) late = let t : nat_le (rank_of_reason r) 4 ≡ false = grind (arith, nat_tests) in rw t refl

pub next_late : {A B : Type 0} (p : Operand A) (q : Operands B) (labels : List Label) (t : Token) (ts : List Token) → IsLate (p.reads labels t) → line_result (p & q) labels (t ∷ ts) ≡ both_or_reason (p.reads labels t) (line_result q labels ts)
next_late p q labels t ts late =
    elim (split_bool (q.counts labels ts)) [
      | inl c ↦ next_operand p q labels t ts c
      | inr c ↦ badly_counted (p & q) labels (t ∷ ts) c ∙ sym (ap (both_or_reason (p.reads labels t)) (badly_counted q labels ts c) ∙ wrong_behind (p.reads labels t) late)
    ]

pub by_late : {A B : Type 0} (p : Operand A) (rest : Option A → Operands B) (labels : List Label) (t : Token) (ts : List Token) → IsLate (p.reads labels t) → line_result (by p rest) labels (t ∷ ts) ≡ both_or_reason (p.reads labels t) (line_result (rest (value_if_any (p.reads labels t))) labels ts)
by_late p rest labels t ts late =
    elim (split_bool ((rest (value_if_any (p.reads labels t))).counts labels ts)) [
      | inl c ↦ next_by p rest labels t ts c
      | inr c ↦ badly_counted (by p rest) labels (t ∷ ts) c ∙ sym (ap (both_or_reason (p.reads labels t)) (badly_counted (rest (value_if_any (p.reads labels t))) labels ts c) ∙ wrong_behind (p.reads labels t) late)
    ]
