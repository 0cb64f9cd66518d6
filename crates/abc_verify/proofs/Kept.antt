-- Rules that are kept, some at a time.
use Rattle.std.proofs.Common.{◌≡◌, List, [], ◌∷◌, ◌++◌, Some, None, cond, refl, sym, ap, ◌∙◌, subst, inl, inr}
use Rattle.std.specs.Prelude.{Bool, true, false}
use Rattle.std.specs.Bool.{OnTrue}
use Rattle.abc_verify_typing.specs.Effects.{Here}
use Rattle.abc_verify_typing.specs.Rules.{early_rules, first_broken, keeps, late_rules}
use Rattle.abc_verify_typing.specs.declared.rule.VerifyRule.{VerifyRule}
use Rattle.abc_verify_typing.specs.declared.state.State.{State}
use Rattle.abc_verify_typing.proofs.Member.{in_append}
use Rattle.abc_verify.specs.Asking.{AreRulesKept}

on : (b : Bool) (P Q : Type 0) → (P → Q) → OnTrue b P → OnTrue b Q
on true P Q f p = f p
on false P Q f p = tt

-- two lists of rules
both : (h : Here) (s : State) (xs ys : List VerifyRule) → AreRulesKept h s xs → AreRulesKept h s ys → AreRulesKept h s (xs ++ ys)
both h s xs ys a b = record { kept = λ r k. elim (in_append r xs ys k) [ inl l ↦ a.kept r l | inr l ↦ b.kept r l ] }

pub two_kept : (h : Here) (s : State) (x y : VerifyRule) (p q : Bool) → p ≡ keeps h s x → p ≡ true → q ≡ keeps h s y → OnTrue q (AreRulesKept h s (x ∷ y ∷ []))
two_kept h s x y p q e on f = go q f
  where
    go : (q : Bool) → q ≡ keeps h s y → OnTrue q (AreRulesKept h s (x ∷ y ∷ []))
    go true f = record {
      kept = λ r k. elim k [
        | inl a ↦ (let z : x ≡ r = sym a in subst (λ (v : VerifyRule). keeps h s v ≡ true) z (sym e ∙ on))
        | inr m ↦ elim m [ inl a ↦ (let z : y ≡ r = sym a in subst (λ (v : VerifyRule). keeps h s v ≡ true) z (sym f)) | inr b ↦ absurd b ]
      ];
    }
    go false f = tt

held : (p : Bool) (P : Type 0) → p ≡ true → OnTrue p P → P
held true P e h = h
held false P e h = absurd cc

pub four_kept : (h : Here) (s : State) (a b c d e f g i : VerifyRule) (k l m q : Bool) → k ≡ true → OnTrue k (AreRulesKept h s (a ∷ b ∷ [])) → l ≡ true → OnTrue l (AreRulesKept h s (c ∷ d ∷ [])) → m ≡ true → OnTrue m (AreRulesKept h s (e ∷ f ∷ []))
    → OnTrue q (AreRulesKept h s (g ∷ i ∷ [])) → OnTrue q (AreRulesKept h s (a ∷ b ∷ c ∷ d ∷ e ∷ f ∷ g ∷ i ∷ []))
four_kept h s a b c d e f g i k l m q x' x y' y z' z w =
    on q (AreRulesKept h s (g ∷ i ∷ [])) (AreRulesKept h s (a ∷ b ∷ c ∷ d ∷ e ∷ f ∷ g ∷ i ∷ []))
    (λ v. both h s (a ∷ b ∷ []) (c ∷ d ∷ e ∷ f ∷ g ∷ i ∷ []) (held k (AreRulesKept h s (a ∷ b ∷ [])) x' x) (both h s (c ∷ d ∷ []) (e ∷ f ∷ g ∷ i ∷ []) (held l (AreRulesKept h s (c ∷ d ∷ [])) y' y) (both h s (e ∷ f ∷ []) (g ∷ i ∷ []) (held m (AreRulesKept h s (e ∷ f ∷ [])) z' z) v))) w

pub all_kept : (h : Here) (s : State) (p q : Bool) → p ≡ true → OnTrue p (AreRulesKept h s early_rules) → OnTrue q (AreRulesKept h s late_rules) → OnTrue q (AreRulesKept h s (early_rules ++ late_rules))
all_kept h s p q e a b = on q (AreRulesKept h s late_rules) (AreRulesKept h s (early_rules ++ late_rules)) (λ v. both h s early_rules late_rules (held p (AreRulesKept h s early_rules) e a) v) b

unbroken : (h : Here) (s : State) (xs : List VerifyRule) → AreRulesKept h s xs → None ≡ first_broken (keeps h s) xs
unbroken h s [] a = refl
unbroken h s (x ∷ xs) a = unbroken h s xs (record { kept = λ r k. a.kept r (inr k) }) ∙ sym (ap (λ (b : Bool). cond b (first_broken (keeps h s) xs) (Some x)) (a.kept x (inl refl)))

pub none_broken : (h : Here) (s : State) (p : Bool) → p ≡ true → OnTrue p (AreRulesKept h s (early_rules ++ late_rules)) → None ≡ first_broken (keeps h s) (early_rules ++ late_rules)
none_broken h s p e a = unbroken h s (early_rules ++ late_rules) (held p (AreRulesKept h s (early_rules ++ late_rules)) e a)
