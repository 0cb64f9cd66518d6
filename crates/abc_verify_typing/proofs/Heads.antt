-- States at the heads that all run on make a typing of all places.
use Rattle.std.proofs.Common.{◌≡◌, ℕ, zero, suc, List, [], ◌∷◌, Option, Some, None, refl, sym, ap, ◌∙◌, subst, inl, inr}
use Rattle.std.specs.Prelude.{Bool, true, false, cond, eqb}
use Rattle.std.proofs.lemmas.Bool.{eqb-true, eqb-false}
use Rattle.abc_link_names.specs.Linked.{LinkedFile}
use Rattle.abc_verify_typing.specs.Routines.{Routine}
use Rattle.abc_verify_typing.specs.declared.state.State.{State}
use Rattle.abc_verify_typing.specs.Rules.{follows}
use Rattle.abc_verify_typing.specs.Typing.{StateLe, IsFine, IsTyping, In, Follows, entry}
use Rattle.abc_verify_typing.specs.Work.{at, Landed, RunsOn, Halts, Goes, AtHeads, follow_at, state_onward, state_on_walk, IsUnderWay}
use Rattle.abc_verify_typing.proofs.Order.{state_self}

-- what is found follows
find_in : (t : ℕ) (xs : List (ℕ × State)) (n : State) → follow_at t xs ≡ Some n → In (t, n) xs
find_in t [] n e = absurd cc
find_in t (x ∷ xs) n e = go (λ f. find_in t xs n f) (eqb x.0 t) refl e
  where
    go : (follow_at t xs ≡ Some n → In (t, n) xs) → (b : Bool) → eqb x.0 t ≡ b → cond b (Some x.1) (follow_at t xs) ≡ Some n → In (t, n) (x ∷ xs)
    go rec true is e = inl (let q : x.0 ≡ t = eqb-true x.0 t is in let r : x.1 ≡ n = cc in ap (λ (k : ℕ). (k, n)) (sym q) ∙ ap (λ (s : State). (x.0, s)) (sym r))
    go rec false is e = inr (rec e)

-- what follows is found, or another state is
in_find : (t : ℕ) (xs : List (ℕ × State)) (n : State) → In (t, n) xs → (u : State) × (follow_at t xs ≡ Some u)
in_find t [] n h = absurd h
in_find t (x ∷ xs) n h = go (λ k. in_find t xs n k) h (eqb x.0 t) refl
  where
    go : (In (t, n) xs → (u : State) × (follow_at t xs ≡ Some u)) → In (t, n) (x ∷ xs) → (b : Bool) → eqb x.0 t ≡ b → (u : State) × (cond b (Some x.1) (follow_at t xs) ≡ Some u)
    go rec h true is = (x.1, refl)
    go rec (inr k) false is = rec k
    go rec (inl q) false is = absurd (eqb-false x.0 t is (ap (λ (z : ℕ × State). z.0) (sym q)))

module _ (p : LinkedFile) (m : Routine) (head : ℕ → Bool) (states : List (Option State)) where
  onward_in : (i : ℕ) (o : Option State) (n : State) → state_onward p m i o ≡ Some n → (s : State) × (o ≡ Some s) × Follows p m i s (suc i) n
  onward_in i None n e = absurd cc
  onward_in i (Some s) n e = (s, refl, find_in (suc i) (follows p m i s) n e)

  -- what goes on to a place that is no head runs on there
  runs_next : AtHeads head states → (i : ℕ) (s n : State) → head (suc i) ≡ false → RunsOn p m head states i s → Follows p m i s (suc i) n → RunsOn p m head states (suc i) n
  runs_next only i s n off (Halts i' s' fine all) f = absurd (let l = all (suc i') n f in let z = only (suc i') off in let w = l.1 in cc)
  runs_next only i s n off (Goes i' s' n' fine h all rest) f = elim (all (suc i') n f) [ inl l ↦ absurd (let z = only (suc i') off in let w = l.1 in cc) | inr q ↦ subst (λ x. RunsOn p m head states (suc i') x) (sym q.1) rest ]

  -- only one state goes on
  one_next : AtHeads head states → (i : ℕ) (s n u : State) → head (suc i) ≡ false → RunsOn p m head states i s → Follows p m i s (suc i) n → Follows p m i s (suc i) u → n ≡ u
  one_next only i s n u off (Halts i' s' fine all) f g = absurd (let l = all (suc i') n f in let z = only (suc i') off in let w = l.1 in cc)
  one_next only i s n u off (Goes i' s' n' fine h all rest) f g = elim (all (suc i') n f) [ inl l ↦ absurd (let z = only (suc i') off in let w = l.1 in cc) | inr q ↦ elim (all (suc i') u g) [ inl l ↦ absurd (let z = only (suc i') off in let w = l.1 in cc) | inr r ↦ q.1 ∙ sym r.1 ] ]

  runs_fine : (i : ℕ) (s : State) → RunsOn p m head states i s → IsFine p m i s
  runs_fine i s (Halts i' s' fine all) = fine
  runs_fine i s (Goes i' s' n fine h all rest) = fine

  walked_runs : AtHeads head states → ((i : ℕ) (s : State) → at states i ≡ Some s → RunsOn p m head states i s) → (i : ℕ) (s : State) → state_on_walk p m head states i ≡ Some s → RunsOn p m head states i s
  walked_runs only all zero s e = all zero s e
  walked_runs only all (suc i) s e = go (λ u k. walked_runs only all i u k) (head (suc i)) refl e
    where
      go : ((u : State) → state_on_walk p m head states i ≡ Some u → RunsOn p m head states i u) → (b : Bool) → head (suc i) ≡ b → cond b (at states (suc i)) (state_onward p m i (state_on_walk p m head states i)) ≡ Some s → RunsOn p m head states (suc i) s
      go rec true is e = all (suc i) s e
      go rec false is e = let x = onward_in i (state_on_walk p m head states i) s e in runs_next only i x.0 s is (rec x.0 x.1) x.2

  -- the state of a place where something landed
  landed_walked : (t : ℕ) (n : State) → AtHeads head states → Landed p states t n → (u : State) × (state_on_walk p m head states t ≡ Some u) × StateLe p n u
  landed_walked zero n only l = l
  landed_walked (suc i) n only l = go (head (suc i)) refl
    where
      go : (b : Bool) → head (suc i) ≡ b → (u : State) × (cond (head (suc i)) (at states (suc i)) (state_onward p m i (state_on_walk p m head states i)) ≡ Some u) × StateLe p n u
      go true is = (l.0, ap (λ b. cond b (at states (suc i)) (state_onward p m i (state_on_walk p m head states i))) is ∙ l.1, l.2)
      go false is = absurd (let z = only (suc i) is in let w = l.1 in cc)

  walked_next : AtHeads head states → (i : ℕ) (s n : State) → head (suc i) ≡ false → state_on_walk p m head states i ≡ Some s → RunsOn p m head states i s → Follows p m i s (suc i) n → state_on_walk p m head states (suc i) ≡ Some n
  walked_next only i s n off e r f =
      let x = in_find (suc i) (follows p m i s) n f in
      let g = find_in (suc i) (follows p m i s) x.0 x.1 in
      let q : x.0 ≡ n = one_next only i s x.0 n off r g f in
      ap (λ b. cond b (at states (suc i)) (state_onward p m i (state_on_walk p m head states i))) off ∙ ap (state_onward p m i) e ∙ x.1 ∙ ap (λ (y : State). Some y) q

  pub heads_typing : IsUnderWay p m head states [] → IsTyping p m (state_on_walk p m head states)
  heads_typing u = record { start = landed_walked 0 (entry m) u.heads u.start; fine = λ i s e. runs_fine i s (run i s e); follows = λ i s t n e f. onto i s t n e (run i s e) f }
    where
      all : (i : ℕ) (s : State) → at states i ≡ Some s → RunsOn p m head states i s
      all i s e = elim (u.settled i s e) [ inl h ↦ absurd h | inr h ↦ h ]

      run : (i : ℕ) (s : State) → state_on_walk p m head states i ≡ Some s → RunsOn p m head states i s
      run i s e = walked_runs u.heads all i s e

      onto : (i : ℕ) (s : State) (t : ℕ) (n : State) → state_on_walk p m head states i ≡ Some s → RunsOn p m head states i s → Follows p m i s t n → (v : State) × (state_on_walk p m head states t ≡ Some v) × StateLe p n v
      onto i s t n e (Halts i' s' fine all) f = landed_walked t n u.heads (all t n f)
      onto i s t n e (Goes i' s' n' fine h all rest) f = elim (all t n f) [ inl l ↦ landed_walked t n u.heads l | inr q ↦ (n, subst (λ k. state_on_walk p m head states k ≡ Some n) (sym q.0) (walked_next u.heads i' s' n h e (Goes i' s' n' fine h all rest) (subst (λ k. Follows p m i' s' k n) q.0 f)), state_self p n) ]
