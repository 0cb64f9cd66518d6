-- The first of some reasons.
use Rattle.std.proofs.Common.{◌≡◌, ℕ, ◌≤◌, ◌<◌, inl, inr, Bool, cond, nat_le, List, [], ◌∷◌, Some, None, refl, sym, ap, subst, ◌∙◌, arith}
use Rattle.std.proofs.lemmas.Bool.Decides.{nat_tests}
use Rattle.std.specs.declared.option.Option.{Option}
use Rattle.abc_text_lines.specs.declared.reason.AsmReason.{AsmReason}
use Rattle.abc_text_lines.specs.declared.reason.AsmReason.TheVariants as reasons
use Rattle.abc_text_lines.specs.Reasons.{least, lesser, rank_of_reason}
use Rattle.abc_text_lines.specs.Assembly.{IsIn}
use Rattle.abc_text_lines.proofs.Bools.{split_bool}

abbrev of_rank : ℕ → AsmReason
of_rank n = cond (nat_le n 1) reasons.Text (cond (nat_le n 2) reasons.Word (cond (nat_le n 3) reasons.Order (cond (nat_le n 4) reasons.Operands (cond (nat_le n 5) reasons.Kind (cond (nat_le n 6) reasons.Number (cond (nat_le n 7) reasons.Range (cond (nat_le n 8) reasons.Count (cond (nat_le n 9) reasons.Index (cond (nat_le n 10) reasons.LabelMissing (cond (nat_le n 11) reasons.LabelTwice (cond (nat_le n 12) reasons.CodeTooLong (cond (nat_le n 13) reasons.SecondBody (cond (nat_le n 14) reasons.FileTooLong reasons.TextTooLong)))))))))))))

ranked : (r : AsmReason) → of_rank (rank_of_reason r) ≡ r
ranked reasons.Text = refl
ranked reasons.Word = refl
ranked reasons.Order = refl
ranked reasons.Operands = refl
ranked reasons.Kind = refl
ranked reasons.Number = refl
ranked reasons.Range = refl
ranked reasons.Count = refl
ranked reasons.Index = refl
ranked reasons.LabelMissing = refl
ranked reasons.LabelTwice = refl
ranked reasons.CodeTooLong = refl
ranked reasons.SecondBody = refl
ranked reasons.FileTooLong = refl
ranked reasons.TextTooLong = refl

-- two reasons of one number are one
pub same_rank : (r s : AsmReason) → rank_of_reason r ≡ rank_of_reason s → r ≡ s
same_rank r s e = sym (ranked r) ∙ ap of_rank e ∙ ranked s

-- what is true of the first reason
pub record IsLeast (r : AsmReason) (rs : List AsmReason) : Type 0 where
  pub among : IsIn r rs
  pub first : (s : AsmReason) → IsIn s rs → rank_of_reason r ≤ rank_of_reason s

pub least_none : (rs : List AsmReason) (r : AsmReason) → least rs ≡ None → IsIn r rs → ⊥
unfolding least
least_none [] r e h = h
least_none (s ∷ rs) r e h = cc

pub rank_le : (s r : AsmReason) → s ≡ r → rank_of_reason r ≤ rank_of_reason s
rank_le s r e = let k : rank_of_reason s ≡ rank_of_reason r = ap rank_of_reason e in omega arith

lesser_is : (r : AsmReason) (rs : List AsmReason) (o : Option AsmReason) → least rs ≡ o → ((s : AsmReason) → o ≡ Some s → IsLeast s rs) → IsLeast (lesser r o) (r ∷ rs)
lesser_is r rs None e h = record { among = inl refl; first = λ s i. elim i [ inl same ↦ rank_le s r same | inr more ↦ absurd (least_none rs s e more) ] }
lesser_is r rs (Some t) e h =
    let m = h t refl in
    elim (split_bool (nat_le (rank_of_reason r) (rank_of_reason t))) [
      | inl le ↦
          let low : rank_of_reason r ≤ rank_of_reason t = grind (arith, nat_tests) in
          subst (λ (x : AsmReason). IsLeast x (r ∷ rs)) (sym (ap (λ (b : Bool). cond b r t) le))
          (record { among = inl refl; first = λ s i. elim i [ inl same ↦ rank_le s r same | inr more ↦ let k = m.first s more in omega arith ] })
      | inr gt ↦
          let low : rank_of_reason t < rank_of_reason r = grind (arith, nat_tests) in
          subst (λ (x : AsmReason). IsLeast x (r ∷ rs)) (sym (ap (λ (b : Bool). cond b r t) gt))
          (record { among = inr m.among; first = λ s i. elim i [ inl same ↦ let k = rank_le s r same in omega arith | inr more ↦ m.first s more ] })
    ]

pub least_some : (rs : List AsmReason) (r : AsmReason) → least rs ≡ Some r → IsLeast r rs
unfolding least
least_some [] r e = absurd cc
least_some (s ∷ rs) r e =
    let same : lesser s (least rs) ≡ r = cc in
    subst (λ (x : AsmReason). IsLeast x (s ∷ rs)) same (lesser_is s rs (least rs) refl (λ t h. least_some rs t h))

pub lesser_least : (s : AsmReason) (rs : List AsmReason) → IsLeast (lesser s (least rs)) (s ∷ rs)
lesser_least s rs = lesser_is s rs (least rs) refl (λ t h. least_some rs t h)
