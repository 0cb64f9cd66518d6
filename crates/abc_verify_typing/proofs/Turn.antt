-- The work list's invariant, over lists alone.
use Rattle.std.proofs.Common.{◌≡◌, ◌≢◌, ℕ, zero, suc, ◌+◌, ◌<◌, List, [], ◌∷◌, Option, Some, None, length, set, refl, sym, ap, ◌∙◌, subst, arith, ◌⊎◌, inl, inr, length-set}
use Rattle.std.specs.Prelude.{Bool, true, replicate}
use Rattle.std.proofs.lemmas.Bool.{cases_eq}
use Rattle.std.proofs.lemmas.List.{length-replicate}
use Rattle.abc_link_names.specs.Linked.{LinkedFile}
use Rattle.abc_verify_typing.specs.Routines.{Routine}
use Rattle.abc_verify_typing.specs.declared.state.State.{State}
use Rattle.abc_verify_typing.specs.Typing.{StateLe, In, entry, Derivable, Entry}
use Rattle.abc_verify_typing.specs.Work.{at, Landed, RunsOn, Halts, Goes, weight, total_rank, Advances, AreDerived, AtHeads, IsUnderWay}
use Rattle.abc_verify_typing.proofs.Order.{state_self, state_trans}

pub at-set_same : (a : List (Option State)) (t : ℕ) (o : Option State) → t < length a → at (set a t o) t ≡ o
at-set_same (x ∷ a) zero o h = refl
at-set_same (x ∷ a) (suc t) o h = at-set_same a t o (omega arith)
at-set_same [] t o h = absurd (omega arith)

pub at-set_other : (a : List (Option State)) (t i : ℕ) (o : Option State) → i ≢ t → at (set a t o) i ≡ at a i
at-set_other (x ∷ a) zero zero o ne = absurd (ne refl)
at-set_other (x ∷ a) zero (suc i) o ne = refl
at-set_other (x ∷ a) (suc t) zero o ne = refl
at-set_other (x ∷ a) (suc t) (suc i) o ne = at-set_other a t i o (λ e. ne (ap suc e))
at-set_other [] t i o ne = refl

total-set : (rank : State → ℕ) (top : ℕ) (a : List (Option State)) (t : ℕ) (o : Option State) → t < length a → total_rank rank top (set a t o) + weight rank top (at a t) ≡ total_rank rank top a + weight rank top o
total-set rank top (x ∷ a) zero o h = omega arith
total-set rank top (x ∷ a) (suc t) o h = let e = total-set rank top a t o (omega arith) in omega arith
total-set rank top [] t o h = absurd (omega arith)

module _ (p : LinkedFile) (rank : State → ℕ) (top : ℕ) (head : ℕ → Bool) where
  pub advance_self : (a : List (Option State)) (v : List ℕ) → Advances p rank top head a v a v
  advance_self a v = record { long = refl; rises = λ i s e. (s, e, state_self p s); marks = λ i. inl refl; keeps = λ i h. h; falls = omega arith }

  pub advance_trans : (a b c : List (Option State)) (u v w : List ℕ) → Advances p rank top head a u b v → Advances p rank top head b v c w → Advances p rank top head a u c w
  advance_trans a b c u v w x y =
      record {
        long = y.long ∙ x.long;
        rises = λ i s e. let f = x.rises i s e in let g = y.rises i f.0 f.1 in (g.0, g.1, state_trans p s f.0 g.0 f.2 g.2);
        marks = λ i. elim (y.marks i) [ inr h ↦ inr h | inl e ↦ elim (x.marks i) [ inr h ↦ inr (y.keeps i h.0, h.1) | inl f ↦ inl (e ∙ f) ] ];
        keeps = λ i h. y.keeps i (x.keeps i h);
        falls = omega (arith, x.falls, y.falls);
      }

  pub raise_advances : (a : List (Option State)) (v : List ℕ) (t : ℕ) (s : State) → t < length a → head t ≡ true → ((old : State) → at a t ≡ Some old → StateLe p old s) → rank s < weight rank top (at a t) → Advances p rank top head a v (set a t (Some s)) (t ∷ v)
  raise_advances a v t s h on up down =
      record {
        long = length-set a t (Some s);
        rises = λ i old e. elim (cases_eq i t) [ inl q ↦ (s, ap (at (set a t (Some s))) q ∙ at-set_same a t (Some s) h, up old (ap (at a) (sym q) ∙ e)) | inr ne ↦ (old, at-set_other a t i (Some s) ne ∙ e, state_self p old) ];
        marks = λ i. elim (cases_eq i t) [ inl q ↦ inr (inl q, ap head q ∙ on) | inr ne ↦ inl (at-set_other a t i (Some s) ne) ];
        keeps = λ i k. inr k;
        falls = omega (arith, total-set rank top a t (Some s) h, down);
      }

  pub raise_lands : (a : List (Option State)) (t : ℕ) (s n : State) → t < length a → StateLe p n s → Landed p (set a t (Some s)) t n
  raise_lands a t s n h le = (s, at-set_same a t (Some s) h, le)

  pub lands_on : (a b : List (Option State)) (v w : List ℕ) → Advances p rank top head a v b w → (t : ℕ) (n : State) → Landed p a t n → Landed p b t n
  lands_on a b v w g t n l = let x = g.rises t l.0 l.1 in (x.0, x.1, state_trans p n l.0 x.0 l.2 x.2)

  pub heads_on : (a b : List (Option State)) (v w : List ℕ) → Advances p rank top head a v b w → AtHeads head a → AtHeads head b
  heads_on a b v w g only i off = elim (g.marks i) [ inl e ↦ e ∙ only i off | inr h ↦ absurd (let e = h.1 in cc) ]

pub raise_derives : (p : LinkedFile) (m : Routine) (a : List (Option State)) (t : ℕ) (s : State) → t < length a → AreDerived p m a → Derivable p m t s → AreDerived p m (set a t (Some s))
raise_derives p m a t s h d n i u e = elim (cases_eq i t) [ inl q ↦ (let r : s ≡ u = (let f : Some s ≡ Some u = sym (at-set_same a t (Some s) h) ∙ ap (at (set a t (Some s))) (sym q) ∙ e in cc) in subst (λ x. Derivable p m x u) (sym q) (subst (Derivable p m t) r n)) | inr ne ↦ d i u (sym (at-set_other a t i (Some s) ne) ∙ e) ]

pub runs_on : (p : LinkedFile) (m : Routine) (rank : State → ℕ) (top : ℕ) (head : ℕ → Bool) (a b : List (Option State)) (v w : List ℕ) → Advances p rank top head a v b w → (i : ℕ) (s : State) → RunsOn p m head a i s → RunsOn p m head b i s
runs_on p m rank top head a b v w g i s (Halts i' s' fine all) = Halts i' s' fine (λ t n f. lands_on p rank top head a b v w g t n (all t n f))
runs_on p m rank top head a b v w g i s (Goes i' s' n fine off all rest) = Goes i' s' n fine off (λ t u f. elim (all t u f) [ inl l ↦ inl (lands_on p rank top head a b v w g t u l) | inr q ↦ inr q ]) (runs_on p m rank top head a b v w g (suc i') n rest)

-- one place was taken from the work, and its state now runs on
pub turn : (p : LinkedFile) (m : Routine) (rank : State → ℕ) (top : ℕ) (head : ℕ → Bool) (a c : List (Option State)) (i : ℕ) (v w : List ℕ) → IsUnderWay p m head a (i ∷ v) → Advances p rank top head a v c w → ((s : State) → at a i ≡ Some s → RunsOn p m head c i s) → AreDerived p m c → IsUnderWay p m head c w
turn p m rank top head a c i v w u g f d =
    record {
      long = g.long ∙ u.long;
      start = lands_on p rank top head a c v w g 0 (entry m) u.start;
      settled = settled;
      derived = d;
      heads = heads_on p rank top head a c v w g u.heads;
    }
  where
    was : (j : ℕ) (s : State) → at a j ≡ Some s → In j (i ∷ v) ⊎ RunsOn p m head a j s → In j w ⊎ RunsOn p m head c j s
    was j s e (inr h) = inr (runs_on p m rank top head a c v w g j s h)
    was j s e (inl (inr h)) = inl (g.keeps j h)
    was j s e (inl (inl q)) = inr (subst (λ k. RunsOn p m head c k s) (sym q) (f s (ap (at a) (sym q) ∙ e)))

    settled : (j : ℕ) (s : State) → at c j ≡ Some s → In j w ⊎ RunsOn p m head c j s
    settled j s e = elim (g.marks j) [ inr h ↦ inl h.0 | inl q ↦ (let r : at a j ≡ Some s = sym q ∙ e in was j s r (u.settled j s r)) ]

at-blank : (n i : ℕ) → at (replicate n None) i ≡ None
at-blank zero i = refl
at-blank (suc n) zero = refl
at-blank (suc n) (suc i) = at-blank n i

pub begins : (p : LinkedFile) (m : Routine) (head : ℕ → Bool) → 0 < length m.code → head 0 ≡ true → IsUnderWay p m head (set (replicate (length m.code) None) 0 (Some (entry m))) (0 ∷ [])
begins p m head h on =
    let a : List (Option State) = replicate (length m.code) None in
    let s = entry m in
    let long : length a ≡ length m.code = length-replicate (length m.code) None in
    let within : 0 < length a = omega arith in
    let d : AreDerived p m a = λ i u q. absurd (let z = at-blank (length m.code) i in cc) in
    record {
      long = omega (arith, length-set a 0 (Some s));
      start = (s, at-set_same a 0 (Some s) within, state_self p s);
      settled = λ i u q. inl (only i u q);
      derived = raise_derives p m a 0 s within d Entry;
      heads = heads;
    }
  where
    only : (i : ℕ) (u : State) → at (set (replicate (length m.code) None) 0 (Some (entry m))) i ≡ Some u → In i (0 ∷ [])
    only zero u q = inl refl
    only (suc i) u q = absurd (let z : at (set (replicate (length m.code) None) 0 (Some (entry m))) (suc i) ≡ None = at-set_other (replicate (length m.code) None) 0 (suc i) (Some (entry m)) (λ e. cc) ∙ at-blank (length m.code) (suc i) in cc)

    heads : AtHeads head (set (replicate (length m.code) None) 0 (Some (entry m)))
    heads zero off = absurd cc
    heads (suc i) off = at-set_other (replicate (length m.code) None) 0 (suc i) (Some (entry m)) (λ e. cc) ∙ at-blank (length m.code) (suc i)
