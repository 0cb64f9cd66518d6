-- The integers of lines are 32 bits wide.
use Rattle.std.proofs.Common.{◌≡◌, ℤ, pos, negsuc, true, ◌&&◌, List, [], ◌∷◌, Ok, Some, None, refl, subst, rules}
use Rattle.std.specs.Prelude.{◌≤ℤ◌, int_le}
use Rattle.std.specs.declared.option.Option.{Option}
use Rattle.abc_text_lines.specs.declared.reason.AsmReason.{AsmReason}
use Rattle.abc_text_lines.specs.Reasons.{least}
use Rattle.abc_text_lines.specs.Tokens.{Token}
use Rattle.abc_text_lines.proofs.Bools.{and_true}
use Rattle.abc_text_lines.specs.Firsts.{value_or_reason}
use Rattle.abc_text_lines.specs.Operands.{reasons_of}
use Rattle.abc_text_lines.proofs.Wordlines.{reasons_nil}
use Rattle.abc_text_lines.specs.Lineforms.{int_line}
use Rattle.abc_text_lines.proofs.Forms.{int-are}
use Rattle.abc_text_operands.specs.Joined.{line_result}

nil_of : (l : List AsmReason) → least l ≡ None → l ≡ []
unfolding least
nil_of [] e = refl
nil_of (r ∷ rs) e = absurd cc

told_none : {A : Type 0} (o : Option AsmReason) (x y : A) → Ok y ≡ value_or_reason o x → (o ≡ None) × (x ≡ y)
told_none None x y e = (refl, cc)
told_none (Some r) x y e = absurd cc

tested_in : (z : ℤ) → int_line.fits z → (int_le (negsuc 2147483647) z && int_le z (pos 2147483647)) ≡ true
unfolding int_line
tested_in z fits = fits.0.0.1

le_of : (a b : ℤ) → int_le a b ≡ true → a ≤ℤ b
le_of a b e = search rules

pub int_within : (ts : List Token) (z : ℤ) → Ok z ≡ line_result int_line [] ts → (negsuc 2147483647 ≤ℤ z) × (z ≤ℤ pos 2147483647)
int_within ts z e =
    let t = told_none (least (reasons_of int_line [] ts)) (int_line.value [] ts) z e in
    let r = reasons_nil int_line [] ts (nil_of (reasons_of int_line [] ts) t.0) in
    let f = int-are.found [] ts r.0 r.1 in
    let both = and_true (int_le (negsuc 2147483647) z) (int_le z (pos 2147483647)) (tested_in z (subst (λ (y : ℤ). int_line.fits y) t.1 f.1)) in
    (le_of (negsuc 2147483647) z both.0, le_of z (pos 2147483647) both.1)
