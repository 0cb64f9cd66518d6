-- A method has a typing, or a place and a rule refute it.
use Rattle.std.proofs.Common.{◌≡◌, ℕ, zero, suc, ◌+◌, ◌≤◌, ◌<◌, List, [], ◌∷◌, ◌++◌, Option, Some, None, length, set, refl, sym, ap, ◌∙◌, subst, arith, ◌⊎◌, inl, inr}
use Rattle.std.specs.Prelude.{Bool, true, false, cond, slice_get, replicate}
use Rattle.std.proofs.lemmas.Bool.{cases_eq}
use Rattle.abc_link_names.specs.Linked.{LinkedFile}
use Rattle.abc_verify_typing.specs.Routines.{Routine}
use Rattle.abc_verify_typing.specs.declared.state.Scope.{Scope}
use Rattle.abc_verify_typing.specs.declared.state.State.{State}
use Rattle.abc_verify_typing.specs.declared.rule.VerifyRule.{VerifyRule}
use Rattle.abc_verify_typing.specs.declared.rule.VerifyRule.TheVariants.{Merge, OffEnd}
use Rattle.abc_verify_typing.specs.Lists.{Each2}
use Rattle.std.proofs.lemmas.Option.{slice_get_past}
use Rattle.abc_verify_typing.specs.Rows.{Shape, row_at}
use Rattle.abc_file_types.specs.declared.code.Instr.{Instr}
use Rattle.abc_verify_typing.specs.Instructions.{opcode}
use Rattle.abc_verify_typing.specs.Standing.{here_with}
use Rattle.abc_verify_typing.specs.Rules.{keeps, first_broken, broken, broken_early, follows, at_row, at_instr, early_rules, late_rules}
use Rattle.abc_verify_typing.specs.Typing.{HasOneFlag, HasOneShape, IsFine, In, entry, Derivable, Entry, Next, Broken, Unmerged, HasTyping, IsRefuted}
use Rattle.abc_verify_typing.proofs.Good.{IsGood}
use Rattle.abc_verify_typing.proofs.Sized.{follows_inside, derivable_sized}
use Rattle.abc_verify_typing.specs.Work.{at, Landed, RunsOn, Halts, total_rank, Advances, AreDerived, IsUnderWay, state_on_walk}
use Rattle.abc_verify_typing.specs.Rank.{layouts, rank_of_state, top_rank}
use Rattle.abc_verify_typing.proofs.Turn.{advance_self, advance_trans, lands_on, turn, begins}
use Rattle.abc_verify_typing.proofs.Visits.{Reaches, merge_same, merge_joined, merge_first}
use Rattle.abc_verify_typing.proofs.Merging.{state_join, rank_most}
use Rattle.abc_verify_typing.proofs.Heads.{heads_typing}

-- here every place is a head
abbrev everywhere : ℕ → Bool
everywhere i = true

flags_equal : (a b : Bool) → (a ≡ b) ⊎ (a ≡ b → ⊥)
flags_equal true true = inl refl
flags_equal false false = inl refl
flags_equal true false = inr (λ e. cc)
flags_equal false true = inr (λ e. cc)

flags : (xs ys : List Scope) → Each2 HasOneFlag xs ys ⊎ (Each2 HasOneFlag xs ys → ⊥)
flags [] [] = inl tt
flags [] (y ∷ ys) = inr (λ h. h)
flags (x ∷ xs) [] = inr (λ h. h)
flags (x ∷ xs) (y ∷ ys) = elim (flags_equal x.is_with y.is_with) [ inr ne ↦ inr (λ h. ne h.0) | inl e ↦ elim (flags xs ys) [ inr ne ↦ inr (λ h. ne h.1) | inl h ↦ inl (e, h) ] ]

pub one_shape : (s u : State) → HasOneShape s u ⊎ (HasOneShape s u → ⊥)
one_shape s u = elim (cases_eq (length s.stack) (length u.stack)) [
  | inr ne ↦ inr (λ h. ne h.stack)
  | inl e ↦ elim (flags s.scopes u.scopes) [ inr ne ↦ inr (λ h. ne h.scopes) | inl f ↦ elim (cases_eq (length s.locals) (length u.locals)) [ inr ne ↦ inr (λ h. ne h.locals) | inl g ↦ inl (record { stack = e; scopes = f; locals = g }) ] ]
]

early_first : (kept : VerifyRule → Bool) (early late : List VerifyRule) (r : VerifyRule) → first_broken kept early ≡ Some r → first_broken kept (early ++ late) ≡ Some r
early_first kept [] late r e = absurd cc
early_first kept (q ∷ early) late r e = go (λ f. early_first kept early late r f) (kept q) refl e
  where
    go : (first_broken kept early ≡ Some r → first_broken kept (early ++ late) ≡ Some r) → (b : Bool) → kept q ≡ b → cond b (first_broken kept early) (Some q) ≡ Some r → cond (kept q) (first_broken kept (early ++ late)) (Some q) ≡ Some r
    go rec true is e = ap (λ b. cond b (first_broken kept (early ++ late)) (Some q)) is ∙ rec e
    go rec false is e = ap (λ b. cond b (first_broken kept (early ++ late)) (Some q)) is ∙ e

-- what is broken before Merge is broken first
pub early_broken : (p : LinkedFile) (m : Routine) (i : ℕ) (s : State) (r : VerifyRule) → broken_early p m i s ≡ Some r → broken p m i s ≡ Some r
early_broken p m i s r e = at (slice_get m.code i) e
  where
    in_row : (instr : Instr) (o : Option Shape) → at_row p m i instr early_rules s o ≡ Some r → at_row p m i instr (early_rules ++ late_rules) s o ≡ Some r
    in_row instr None e = e
    in_row instr (Some row) e = early_first (keeps (here_with p m i instr row) s) early_rules late_rules r e

    at : (o : Option Instr) → at_instr p m i early_rules s o ≡ Some r → at_instr p m i (early_rules ++ late_rules) s o ≡ Some r
    at None e = e
    at (Some instr) e = in_row instr (row_at (opcode instr)) e

-- two states that can't be merged: the first rule before Merge that one breaks, or Merge
pub clash : (p : LinkedFile) (m : Routine) (i : ℕ) (s u : State) → Derivable p m i s → Derivable p m i u → (HasOneShape s u → ⊥) → IsRefuted p m
clash p m i s u ds du ne = go (broken_early p m i s) refl
  where
    go : (o : Option VerifyRule) → broken_early p m i s ≡ o → IsRefuted p m
    go None e = (i, (Merge, Unmerged s u ds du ne e))
    go (Some r) e = (i, (r, Broken s r ds (early_broken p m i s r e)))

-- all of some states have landed
pub record AllLanded (p : LinkedFile) (m : Routine) (xs : List (ℕ × State)) (a : List (Option State)) (v : List ℕ) : Type 0 where
  pub states : List (Option State)
  pub work : List ℕ
  pub advances : Advances p (rank_of_state (layouts p)) (top_rank (layouts p) m) everywhere a v states work
  pub derived : AreDerived p m states
  pub landed : (t : ℕ) (u : State) → In (t, u) xs → Landed p states t u

module _ (p : LinkedFile) (m : Routine) (g : IsGood p) where
  land : (a : List (Option State)) (v : List ℕ) (t : ℕ) (u : State) → t < length a → AreDerived p m a → Derivable p m t u → IsRefuted p m ⊎ ((c : List (Option State)) × ((w : List ℕ) × Reaches p m (rank_of_state (layouts p)) (top_rank (layouts p) m) everywhere t u a v c w))
  land a v t u h d du = go (at a t) refl
    where
      go : (o : Option State) → at a t ≡ o → IsRefuted p m ⊎ ((c : List (Option State)) × ((w : List ℕ) × Reaches p m (rank_of_state (layouts p)) (top_rank (layouts p) m) everywhere t u a v c w))
      go None e = inr (set a t (Some u), (t ∷ v, merge_first p m _ _ everywhere a v t u h refl e (rank_most p g (layouts p) (omega arith) (omega arith) m u (derivable_sized p m t u du)) d du))
      go (Some old) e = elim (one_shape old u) [
        | inr ne ↦ inl (clash p m t old u (d t old e) du ne)
        | inl same ↦ elim (state_join p g (layouts p) (omega arith) (omega arith) old u same) [
          | inl le ↦ inr (a, (v, merge_same p m _ _ everywhere a v t u old e d le))
          | inr j ↦ inr (set a t (Some j.0), (t ∷ v, merge_joined p m _ _ everywhere a v t u old j.0 h refl e d du j.1 j.2))
        ]
      ]

  land_all : (xs : List (ℕ × State)) (a : List (Option State)) (v : List ℕ) → length a ≡ length m.code → AreDerived p m a → ((t : ℕ) (u : State) → In (t, u) xs → Derivable p m t u × (t < length m.code)) → IsRefuted p m ⊎ AllLanded p m xs a v
  land_all [] a v long d all = inr (record { states = a; work = v; advances = advance_self p _ _ everywhere a v; derived = d; landed = λ t u h. absurd h })
  land_all (x ∷ xs) a v long d all = first (λ c w l e. land_all xs c w l e (λ t u h. all t u (inr h))) (let k = all x.0 x.1 (inl refl) in land a v x.0 x.1 (let q = k.1 in omega arith) d k.0)
    where
      rest : (c : List (Option State)) (w : List ℕ) → Reaches p m (rank_of_state (layouts p)) (top_rank (layouts p) m) everywhere x.0 x.1 a v c w → AllLanded p m xs c w → AllLanded p m (x ∷ xs) a v
      rest c w r s = record { states = s.states; work = s.work; advances = advance_trans p _ _ everywhere a c s.states v w s.work r.advances s.advances; derived = s.derived; landed = there }
        where
          there : (t : ℕ) (u : State) → In (t, u) (x ∷ xs) → Landed p s.states t u
          there t u (inr h) = s.landed t u h
          there t u (inl q) = subst (λ (z : ℕ × State). Landed p s.states z.0 z.1) (sym q) (lands_on p _ _ everywhere c s.states w s.work s.advances x.0 x.1 r.landed)

      first : ((c : List (Option State)) (w : List ℕ) → length c ≡ length m.code → AreDerived p m c → IsRefuted p m ⊎ AllLanded p m xs c w) → (IsRefuted p m ⊎ ((c : List (Option State)) × ((w : List ℕ) × Reaches p m (rank_of_state (layouts p)) (top_rank (layouts p) m) everywhere x.0 x.1 a v c w))) → IsRefuted p m ⊎ AllLanded p m (x ∷ xs) a v
      first rec (inl bad) = inl bad
      first rec (inr r) = elim (rec r.0 r.1.0 (r.1.1.advances.long ∙ long) r.1.1.derived) [ inl bad ↦ inl bad | inr s ↦ inr (rest r.0 r.1.0 r.1.1 s) ]

  visit : (a : List (Option State)) (i : ℕ) (v : List ℕ) → IsUnderWay p m everywhere a (i ∷ v) → IsRefuted p m ⊎ ((c : List (Option State)) × ((w : List ℕ) × (IsUnderWay p m everywhere c w × (total_rank (rank_of_state (layouts p)) (top_rank (layouts p) m) c + length w ≤ total_rank (rank_of_state (layouts p)) (top_rank (layouts p) m) a + length v))))
  visit a i v u = go (at a i) refl
    where
      fine : (s : State) → at a i ≡ Some s → IsFine p m i s → AllLanded p m (follows p m i s) a v → IsRefuted p m ⊎ ((c : List (Option State)) × ((w : List ℕ) × (IsUnderWay p m everywhere c w × (total_rank (rank_of_state (layouts p)) (top_rank (layouts p) m) c + length w ≤ total_rank (rank_of_state (layouts p)) (top_rank (layouts p) m) a + length v))))
      fine s e f r = inr (r.states, (r.work, (turn p m _ _ everywhere a r.states i v r.work u r.advances (λ s2 e2. let q : s ≡ s2 = (let z : Some s ≡ Some s2 = sym e ∙ e2 in cc) in subst (λ x. RunsOn p m everywhere r.states i x) q (Halts i s f r.landed)) r.derived, r.advances.falls)))

      go : (o : Option State) → at a i ≡ o → IsRefuted p m ⊎ ((c : List (Option State)) × ((w : List ℕ) × (IsUnderWay p m everywhere c w × (total_rank (rank_of_state (layouts p)) (top_rank (layouts p) m) c + length w ≤ total_rank (rank_of_state (layouts p)) (top_rank (layouts p) m) a + length v))))
      go None e = inr (a, (v, (turn p m (rank_of_state (layouts p)) (top_rank (layouts p) m) everywhere a a i v v u (advance_self p _ _ everywhere a v) (λ s q. absurd cc) u.derived, omega arith)))
      go (Some s) e = ask (broken p m i s) refl
        where
          ask : (o : Option VerifyRule) → broken p m i s ≡ o → IsRefuted p m ⊎ ((c : List (Option State)) × ((w : List ℕ) × (IsUnderWay p m everywhere c w × (total_rank (rank_of_state (layouts p)) (top_rank (layouts p) m) c + length w ≤ total_rank (rank_of_state (layouts p)) (top_rank (layouts p) m) a + length v))))
          ask (Some r) f = inl (i, (r, Broken s r (u.derived i s e) f))
          ask None f = elim (land_all (follows p m i s) a v u.long u.derived (λ t n h. (Next i s t n (u.derived i s e) f h, follows_inside p m i s t n f h))) [ inl bad ↦ inl bad | inr r ↦ fine s e f r ]

  run : (fuel : ℕ) (a : List (Option State)) (v : List ℕ) → IsUnderWay p m everywhere a v → total_rank (rank_of_state (layouts p)) (top_rank (layouts p) m) a + length v ≤ fuel → HasTyping p m ⊎ IsRefuted p m
  run fuel a [] u h = inl (state_on_walk p m everywhere a, heads_typing p m everywhere a u)
  run zero a (i ∷ v) u h = absurd (omega arith)
  run (suc fuel) a (i ∷ v) u h = elim (visit a i v u) [ inl bad ↦ inr bad | inr r ↦ run fuel r.0 r.1.0 r.1.1.0 (let q = r.1.1.1 in omega arith) ]

  -- the law
  pub decides : HasTyping p m ⊎ IsRefuted p m
  decides = elim (cases_eq (length m.code) 0) [ inl e ↦ inr (0, (OffEnd, Broken (entry m) OffEnd Entry (ap (at_instr p m 0 (early_rules ++ late_rules) (entry m)) (slice_get_past m.code 0 (omega arith))))) | inr ne ↦ (let start : List (Option State) = set (replicate (length m.code) None) 0 (Some (entry m)) in run (total_rank (rank_of_state (layouts p)) (top_rank (layouts p) m) start + 1) start (0 ∷ []) (begins p m everywhere (omega arith) refl) (omega arith)) ]
