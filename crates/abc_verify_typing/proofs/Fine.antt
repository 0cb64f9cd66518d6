-- A state that breaks no rule.
use Rattle.std.proofs.Common.{◌≡◌, ℕ, List, [], ◌∷◌, ◌++◌, Option, Some, None, refl, ap, ◌∙◌, inl, inr}
use Rattle.std.specs.Prelude.{Bool, true, false, cond, map, slice_get}
use Rattle.abc_verify_typing.specs.Instructions.{opcode}
use Rattle.abc_verify_typing.specs.Rows.{Shape, row_at}
use Rattle.abc_file_types.specs.declared.code.Instr.{Instr}
use Rattle.abc_link_names.specs.Linked.{LinkedFile}
use Rattle.abc_verify_typing.specs.Routines.{Routine}
use Rattle.abc_verify_typing.specs.declared.state.State.{State}
use Rattle.abc_verify_typing.specs.declared.rule.VerifyRule.{VerifyRule}
use Rattle.abc_verify_typing.specs.declared.rule.VerifyRule.TheVariants.{NotRun, PoolIndex, NameForm, StackUnder, StackOver, ScopeUnder, ScopeOver, LocalIndex, OffEnd, Merge, NotSpace, NotObject, SlotIndex, ScopeIndex, NotHere, NotIndex, Parameters, Flags}
use Rattle.abc_verify_typing.specs.Effects.{covering, caught_state}
use Rattle.abc_verify_typing.specs.Rules.{keeps, first_broken, early_rules, late_rules, at_row, at_instr, after_row, after_instr}
use Rattle.abc_verify_typing.specs.Typing.{In, IsFine}
use Rattle.abc_verify_typing.specs.Standing.{here_with, Stands}

none_broken : (kept : VerifyRule → Bool) (rules : List VerifyRule) (r : VerifyRule) → first_broken kept rules ≡ None → In r rules → kept r ≡ true
none_broken kept [] r e h = absurd h
none_broken kept (q ∷ rules) r e h = go (λ f k. none_broken kept rules r f k) (kept q) refl e h
  where
    go : (first_broken kept rules ≡ None → In r rules → kept r ≡ true) → (b : Bool) → kept q ≡ b → cond b (first_broken kept rules) (Some q) ≡ None → In r (q ∷ rules) → kept r ≡ true
    go rec true is e (inl w) = ap kept w ∙ is
    go rec true is e (inr h) = rec e h
    go rec false is e h = absurd cc

all_kept : (p : LinkedFile) (m : Routine) (i : ℕ) (instr : Instr) (row : Shape) (s : State) → first_broken (keeps (here_with p m i instr row) s) (early_rules ++ late_rules) ≡ None → (r : VerifyRule) → keeps (here_with p m i instr row) s r ≡ true
all_kept p m i instr row s e NotRun = refl
all_kept p m i instr row s e Merge = refl
all_kept p m i instr row s e PoolIndex = none_broken (keeps (here_with p m i instr row) s) (early_rules ++ late_rules) PoolIndex e (inl refl)
all_kept p m i instr row s e NameForm = none_broken (keeps (here_with p m i instr row) s) (early_rules ++ late_rules) NameForm e (inr (inl refl))
all_kept p m i instr row s e StackUnder = none_broken (keeps (here_with p m i instr row) s) (early_rules ++ late_rules) StackUnder e (inr (inr (inl refl)))
all_kept p m i instr row s e StackOver = none_broken (keeps (here_with p m i instr row) s) (early_rules ++ late_rules) StackOver e (inr (inr (inr (inl refl))))
all_kept p m i instr row s e ScopeUnder = none_broken (keeps (here_with p m i instr row) s) (early_rules ++ late_rules) ScopeUnder e (inr (inr (inr (inr (inl refl)))))
all_kept p m i instr row s e ScopeOver = none_broken (keeps (here_with p m i instr row) s) (early_rules ++ late_rules) ScopeOver e (inr (inr (inr (inr (inr (inl refl))))))
all_kept p m i instr row s e LocalIndex = none_broken (keeps (here_with p m i instr row) s) (early_rules ++ late_rules) LocalIndex e (inr (inr (inr (inr (inr (inr (inl refl)))))))
all_kept p m i instr row s e OffEnd = none_broken (keeps (here_with p m i instr row) s) (early_rules ++ late_rules) OffEnd e (inr (inr (inr (inr (inr (inr (inr (inl refl))))))))
all_kept p m i instr row s e NotSpace = none_broken (keeps (here_with p m i instr row) s) (early_rules ++ late_rules) NotSpace e (inr (inr (inr (inr (inr (inr (inr (inr (inl refl)))))))))
all_kept p m i instr row s e NotObject = none_broken (keeps (here_with p m i instr row) s) (early_rules ++ late_rules) NotObject e (inr (inr (inr (inr (inr (inr (inr (inr (inr (inl refl))))))))))
all_kept p m i instr row s e SlotIndex = none_broken (keeps (here_with p m i instr row) s) (early_rules ++ late_rules) SlotIndex e (inr (inr (inr (inr (inr (inr (inr (inr (inr (inr (inl refl)))))))))))
all_kept p m i instr row s e ScopeIndex = none_broken (keeps (here_with p m i instr row) s) (early_rules ++ late_rules) ScopeIndex e (inr (inr (inr (inr (inr (inr (inr (inr (inr (inr (inr (inl refl))))))))))))
all_kept p m i instr row s e NotHere = none_broken (keeps (here_with p m i instr row) s) (early_rules ++ late_rules) NotHere e (inr (inr (inr (inr (inr (inr (inr (inr (inr (inr (inr (inr (inl refl)))))))))))))
all_kept p m i instr row s e NotIndex = none_broken (keeps (here_with p m i instr row) s) (early_rules ++ late_rules) NotIndex e (inr (inr (inr (inr (inr (inr (inr (inr (inr (inr (inr (inr (inr (inl refl))))))))))))))
all_kept p m i instr row s e Parameters = none_broken (keeps (here_with p m i instr row) s) (early_rules ++ late_rules) Parameters e (inr (inr (inr (inr (inr (inr (inr (inr (inr (inr (inr (inr (inr (inr (inl refl)))))))))))))))
all_kept p m i instr row s e Flags = none_broken (keeps (here_with p m i instr row) s) (early_rules ++ late_rules) Flags e (inr (inr (inr (inr (inr (inr (inr (inr (inr (inr (inr (inr (inr (inr (inr (inl refl))))))))))))))))

pub stands : (p : LinkedFile) (m : Routine) (i : ℕ) (s : State) → IsFine p m i s → Stands p m i s
stands p m i s fine = at (slice_get m.code i) refl fine
  where
    in_row : (instr : Instr) → slice_get m.code i ≡ Some instr → (o : Option Shape) → row_at (opcode instr) ≡ o → at_row p m i instr (early_rules ++ late_rules) s o ≡ None → Stands p m i s
    in_row instr e None f g = absurd cc
    in_row instr e (Some row) f g = record { instr = instr; row = row; at = e; is = f; kept = all_kept p m i instr row s g; follows_is = ap (λ o. after_instr p m i s o ++ map (caught_state s) (covering m i)) e ∙ ap (λ o. after_row p m i instr s o ++ map (caught_state s) (covering m i)) f }

    at : (o : Option Instr) → slice_get m.code i ≡ o → at_instr p m i (early_rules ++ late_rules) s o ≡ None → Stands p m i s
    at None e g = absurd cc
    at (Some instr) e g = in_row instr e (row_at (opcode instr)) refl g

-- the other way
none_from : (kept : VerifyRule → Bool) (rules : List VerifyRule) → ((r : VerifyRule) → kept r ≡ true) → first_broken kept rules ≡ None
none_from kept [] h = refl
none_from kept (r ∷ rules) h = ap (λ b. cond b (first_broken kept rules) (Some r)) (h r) ∙ none_from kept rules h

pub fine_from : (p : LinkedFile) (m : Routine) (i : ℕ) (s : State) (instr : Instr) (row : Shape) → slice_get m.code i ≡ Some instr → row_at (opcode instr) ≡ Some row → ((r : VerifyRule) → keeps (here_with p m i instr row) s r ≡ true) → IsFine p m i s
fine_from p m i s instr row e f k = ap (at_instr p m i (early_rules ++ late_rules) s) e ∙ ap (at_row p m i instr (early_rules ++ late_rules) s) f ∙ none_from (keeps (here_with p m i instr row) s) (early_rules ++ late_rules) k
