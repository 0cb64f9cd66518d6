-- A method has a typing exactly where nothing refutes it.
use Rattle.std.proofs.Common.{◌≡◌, ℕ, Option, Some, sym, ◌∙◌, subst, ◌↔◌, inl, inr}
use Rattle.abc_link_names.specs.Linked.{LinkedFile}
use Rattle.abc_verify_typing.specs.Routines.{Routine}
use Rattle.abc_verify_typing.specs.declared.state.Scope.{Scope}
use Rattle.abc_verify_typing.specs.declared.state.State.{State}
use Rattle.abc_verify_typing.specs.declared.rule.VerifyRule.{VerifyRule}
use Rattle.abc_verify_typing.specs.Lists.{Each2}
use Rattle.abc_verify_typing.proofs.Lists.{Each2-length}
use Rattle.std.specs.Prelude.{List, [], ◌∷◌}
use Rattle.abc_verify_typing.specs.Typing.{ScopeLe, StateLe, HasOneFlag, IsTyping, Derivable, Entry, Next, Join, Refutes, Broken, Unmerged, HasTyping, IsRefuted}
use Rattle.abc_verify_typing.proofs.Order.{state_trans}
use Rattle.abc_verify_typing.proofs.Decides.{decides}
use Rattle.abc_verify_typing.proofs.Good.{IsGood}
use Rattle.abc_verify_typing.proofs.Monotone.{fine_down, follows_le}

-- what can be derived is at most any typing
derivable_le : (p : LinkedFile) (m : Routine) → IsGood p → (states : ℕ → Option State) → IsTyping p m states → (i : ℕ) (s : State) → Derivable p m i s → (u : State) × (states i ≡ Some u) × StateLe p s u
derivable_le p m g states ty i s Entry = ty.start
derivable_le p m g states ty i s (Next i' s' t' n' d fine f) =
    let a = derivable_le p m g states ty i' s' d in
    let n = follows_le p m i' s' a.0 t' n' g a.2 (ty.fine i' a.0 a.1) f in
    let u = ty.follows i' a.0 t' n.0 a.1 n.1 in
    (u.0, u.1, state_trans p n' n.0 u.0 n.2 u.2)
derivable_le p m g states ty i s (Join i' s' t' j' ds dt join) =
    let a = derivable_le p m g states ty i' s' ds in
    let c = derivable_le p m g states ty i' t' dt in
    let e : c.0 ≡ a.0 = cc (a.1, c.1) in
    (a.0, a.1, join.least a.0 a.2 (subst (λ x. StateLe p t' x) e c.2))

one_flags : (p : LinkedFile) (xs ys zs : List Scope) → Each2 (ScopeLe p) xs zs → Each2 (ScopeLe p) ys zs → Each2 HasOneFlag xs ys
one_flags p [] [] [] a b = tt
one_flags p [] [] (z ∷ zs) a b = absurd a
one_flags p (x ∷ xs) (y ∷ ys) (z ∷ zs) a b = (a.0.flag ∙ sym b.0.flag, one_flags p xs ys zs a.1 b.1)
one_flags p (x ∷ xs) [] (z ∷ zs) a b = absurd b
one_flags p [] (y ∷ ys) (z ∷ zs) a b = absurd a
one_flags p (x ∷ xs) ys [] a b = absurd a
one_flags p [] (y ∷ ys) [] a b = absurd b

never_both : (p : LinkedFile) (m : Routine) → IsGood p → (states : ℕ → Option State) → IsTyping p m states → (i : ℕ) (r : VerifyRule) → Refutes p m i r → ⊥
never_both p m g states ty i r (Broken s r' d e) =
    let a = derivable_le p m g states ty i s d in
    let f = fine_down p m i s a.0 g a.2 (ty.fine i a.0 a.1) in
    cc
never_both p m g states ty i r (Unmerged s t ds dt ne e) =
    let a = derivable_le p m g states ty i s ds in
    let c = derivable_le p m g states ty i t dt in
    let q : c.0 ≡ a.0 = cc (a.1, c.1) in
    let h = subst (λ x. StateLe p t x) q c.2 in
    ne (record { stack = Each2-length _ _ _ a.2.stack ∙ sym (Each2-length _ _ _ h.stack); scopes = one_flags p _ _ _ a.2.scopes h.scopes; locals = Each2-length _ _ _ a.2.locals ∙ sym (Each2-length _ _ _ h.locals) })

pub typed_not_refuted : (p : LinkedFile) (m : Routine) → IsGood p → HasTyping p m → IsRefuted p m → ⊥
typed_not_refuted p m g t r = never_both p m g t.0 t.1 r.0 r.1.0 r.1.1

pub exactly : (p : LinkedFile) (m : Routine) → IsGood p → HasTyping p m ↔ (IsRefuted p m → ⊥)
exactly p m g = (typed_not_refuted p m g, λ h. elim (decides p m g) [ inl t ↦ t | inr r ↦ absurd (h r) ])
