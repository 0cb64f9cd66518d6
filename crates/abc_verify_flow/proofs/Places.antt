-- A state flows to a place, in the words of the code.
use Rattle.std.proofs.Common.{◌≡◌, ℕ, zero, suc, ◌+◌, ◌<◌, List, [], ◌∷◌, ◌++◌, Option, Some, None, length, set, take, get_or, refl, sym, ap, ◌∙◌, subst, arith, ◌⊎◌, inl, inr}
use Rattle.std.specs.Prelude.{Bool, true, false, cond, map, filter, slice_get}
use Rattle.std.proofs.lemmas.List.{append-nil, map-append}
use Rattle.abc_link_names.specs.Linked.{IsLinkedFile, LinkedFile}
use Rattle.abc_verify_typing.specs.Routines.{Routine}
use Rattle.abc_verify_typing.specs.Typing.{StateLe, HasOneShape, In, IsJoinState, Derivable, Refutes, Broken, Unmerged}
use Rattle.abc_verify_typing.specs.Rules.{broken_early}
use Rattle.abc_verify_typing.specs.declared.rule.VerifyRule.{VerifyRule}
use Rattle.abc_verify_typing.specs.declared.rule.VerifyRule.TheVariants.{Merge}
use Rattle.abc_verify_typing.specs.declared.state.State.{State}
use Rattle.abc_verify_typing.proofs.Good.{good}
use Rattle.abc_verify_typing.proofs.Member.{in_append, in_left, in_right, map_in}
use Rattle.abc_verify_typing.proofs.Sized.{derivable_sized}
use Rattle.abc_verify_typing.specs.Work.{at, flat_state, Landed}
use Rattle.abc_verify_typing.specs.Rank.{layouts, rank_of_state, top_rank}
use Rattle.abc_verify_typing.proofs.Visits as visits
use Rattle.abc_verify_typing.proofs.Visits.{Reaches}
use Rattle.abc_verify_typing.proofs.Merging.{rank_most}
use Rattle.abc_verify_typing.proofs.Decides.{early_broken}
use Rattle.abc_verify_typing.proofs.Turn.{advance_self, advance_trans, lands_on}
use Rattle.abc_verify_flow.specs.Kept.{Clashes, Meets}
use Rattle.abc_verify_flow.specs.declared.step.Met.TheVariants.{First, Joined, Same, Unequal}
use Rattle.abc_verify_flow.specs.Waits.{IsPlaceAdded}
use Rattle.abc_verify_flow.specs.Walking.{is_head, IsTableOpen, AllReach, AreEntriesReady, IsStateReady, MayGoOn, landing}

pub clash_broken : (p : LinkedFile) (m : Routine) (t : ℕ) (old : State) (r : VerifyRule) → Derivable p m t old → broken_early p m t old ≡ Some r → Refutes p m t r
clash_broken p m t old r d e = Broken old r d (early_broken p m t old r e)

pub clash_merge : (p : LinkedFile) (m : Routine) (t : ℕ) (old n : State) → Derivable p m t old → Derivable p m t n → (HasOneShape old n → ⊥) → broken_early p m t old ≡ None → Refutes p m t Merge
clash_merge p m t old n d dn ne e = Unmerged old n d dn ne e

pub is_derived : (p : LinkedFile) (m : Routine) (a : List (Option State)) (t : ℕ) (old : State) → IsTableOpen p m a → slice_get a t ≡ Some (Some old) → Derivable p m t old
is_derived p m a t old o e = o.derived t old (ap flat_state e)

pub is_derived_copy : (p : LinkedFile) (m : Routine) (a : List (Option State)) (t : ℕ) (old n : State) → IsTableOpen p m a → slice_get a t ≡ Some (Some old) → n ≡ old → Derivable p m t n
is_derived_copy p m a t old n o e same = subst (λ (x : State). Derivable p m t x) (sym same) (is_derived p m a t old o e)

reach_one : (p : LinkedFile) (m : Routine) (heads : List Bool) (t : ℕ) (n : State) (a c : List (Option State)) (v w : List ℕ) → IsTableOpen p m a → ((i : ℕ) → In i w → In i v ⊎ (i ≡ t)) → Reaches p m (rank_of_state (layouts p)) (top_rank (layouts p) m) (is_head heads) t n a v c w → AllReach p m heads ((t, n) ∷ []) a v c w
reach_one p m heads t n a c v w o only r = record { advances = r.advances; landed = landed; adds = λ i h. elim (only i h) [ inl k ↦ inl k | inr q ↦ inr (n, inl (ap (λ (k : ℕ). (k, n)) q)) ]; whole = record { long = r.advances.long ∙ o.long; derived = r.derived } }
  where
    landed : (k : ℕ) (u : State) → In {X = ℕ × State} (k, u) ((t, n) ∷ []) → Landed p c k u
    landed k u (inl q) = subst (λ (z : ℕ × State). Landed p c z.0 z.1) (sym q) r.landed
    landed k u (inr h) = absurd h

module _ (p : LinkedFile) (m : Routine) (heads : List Bool) (a : List (Option State)) (v : List ℕ) (t : ℕ) (n : State) where
  first_of : (ws : List ℕ) (i : ℕ) → In i (t ∷ ws) → In i ws ⊎ (i ≡ t)
  first_of ws i (inl q) = inr q
  first_of ws i (inr h) = inl h

  pub merge_same : (old : State) → slice_get a t ≡ Some (Some old) → IsTableOpen p m a → StateLe p n old → AllReach p m heads ((t, n) ∷ []) a v a v
  merge_same old e o le = reach_one p m heads t n a a v v o (λ i h. inl h) (visits.merge_same p m _ _ (is_head heads) a v t n old (ap flat_state e) o.derived le)

  pub merge_joined : (old joined : State) → slice_get a t ≡ Some (Some old) → IsTableOpen p m a → IsStateReady p m heads t n → IsJoinState p old n joined → rank_of_state (layouts p) joined < rank_of_state (layouts p) old → AllReach p m heads ((t, n) ∷ []) a v (set a t (Some joined)) (t ∷ v)
  merge_joined old joined e o r j lt = reach_one p m heads t n a (set a t (Some joined)) v (t ∷ v) o (λ i h. first_of v i h) (visits.merge_joined p m _ _ (is_head heads) a v t n old joined (let q = o.long in let b = r.inside in omega arith) r.head (ap flat_state e) o.derived r.derived j lt)

  pub merge_first : IsLinkedFile p → at a t ≡ None → IsTableOpen p m a → IsStateReady p m heads t n → AllReach p m heads ((t, n) ∷ []) a v (set a t (Some n)) (t ∷ v)
  merge_first g e o r = reach_one p m heads t n a (set a t (Some n)) v (t ∷ v) o (λ i h. first_of v i h) (visits.merge_first p m _ _ (is_head heads) a v t n (let q = o.long in let b = r.inside in omega arith) r.head e (rank_most p (good p g) (layouts p) (omega arith) (omega arith) m n (derivable_sized p m t n r.derived)) o.derived r.derived)

-- what waits, where a place was added to it
added_in : (t : ℕ) (v w : List ℕ) → IsPlaceAdded t v w → (i : ℕ) → In i (t ∷ v) → In i w
added_in t v w e i (inl q) = subst (λ (x : ℕ). In x w) (sym q) e.has
added_in t v w e i (inr h) = e.keeps i h

reach_added : (p : LinkedFile) (m : Routine) (heads : List Bool) (xs : List (ℕ × State)) (a c : List (Option State)) (v w : List ℕ) (t : ℕ) → IsPlaceAdded t v w → AllReach p m heads xs a v c (t ∷ v) → AllReach p m heads xs a v c w
reach_added p m heads xs a c v w t e r = record { advances = record { long = r.advances.long; rises = r.advances.rises; marks = marks; keeps = e.keeps; falls = let f = r.advances.falls in let k = e.most in omega arith }; landed = r.landed; adds = λ i h. r.adds i (e.only i h); whole = r.whole }
  where
    marks : (i : ℕ) → (at c i ≡ at a i) ⊎ (In i w × (is_head heads i ≡ true))
    marks i = elim (r.advances.marks i) [ inl same ↦ inl same | inr h ↦ inr (added_in t v w e i h.0, h.1) ]

module _ (p : LinkedFile) (m : Routine) (heads : List Bool) (a c : List (Option State)) (v w : List ℕ) (t : ℕ) (n : State) where
  pub met_first : IsLinkedFile p → Meets p a t n c First → IsPlaceAdded t v w → IsTableOpen p m a → IsStateReady p m heads t n → AllReach p m heads ((t, n) ∷ []) a v c w
  met_first g k e o r =
      subst (λ (x : List (Option State)). AllReach p m heads ((t, n) ∷ []) a v x w) (sym k.1)
      (reach_added p m heads ((t, n) ∷ []) a (set a t (Some n)) v w t e (merge_first p m heads a v t n g k.0 o r))

  pub met_joined : Meets p a t n c Joined → IsPlaceAdded t v w → IsTableOpen p m a → IsStateReady p m heads t n → AllReach p m heads ((t, n) ∷ []) a v c w
  met_joined k e o r =
      subst (λ (x : List (Option State)). AllReach p m heads ((t, n) ∷ []) a v x w) (sym k.is)
      (reach_added p m heads ((t, n) ∷ []) a (set a t (Some k.joined)) v w t e (merge_joined p m heads a v t n k.old k.joined k.known o r k.joins k.falls))

  pub met_same : Meets p a t n c Same → IsTableOpen p m a → AllReach p m heads ((t, n) ∷ []) a v c v
  met_same k o = subst (λ (x : List (Option State)). AllReach p m heads ((t, n) ∷ []) a v x v) (sym k.is) (merge_same p m heads a v t n k.old k.known o k.holds)

  pub met_unequal : Meets p a t n c Unequal → IsTableOpen p m a → Clashes p m c t n
  met_unequal k o = record { old = k.old; known = ap (λ (x : List (Option State)). slice_get x t) k.is ∙ k.known; derived = is_derived p m a t k.old o k.known; unequal = k.holds }

pub in_states : (p : LinkedFile) (m : Routine) (heads : List Bool) (a : List (Option State)) (t : ℕ) (n : State) → IsTableOpen p m a → IsStateReady p m heads t n → t < length a
in_states p m heads a t n o r = let e = o.long in let h = r.inside in omega arith

-- lists of states that land, one after the other
module _ (p : LinkedFile) (m : Routine) (heads : List Bool) where
  pub reach_none : (a : List (Option State)) (v : List ℕ) → IsTableOpen p m a → AllReach p m heads [] a v a v
  reach_none a v o = record { advances = advance_self p _ _ (is_head heads) a v; landed = λ t n h. absurd h; adds = λ i h. inl h; whole = o }

  pub reach_more : (xs ys : List (ℕ × State)) (a c e : List (Option State)) (v w u : List ℕ) → AllReach p m heads xs a v c w → AllReach p m heads ys c w e u → AllReach p m heads (xs ++ ys) a v e u
  reach_more xs ys a c e v w u r s = record {
    advances = advance_trans p _ _ (is_head heads) a c e v w u r.advances s.advances;
    landed = λ t n h. elim (in_append (t, n) xs ys h) [ inl k ↦ lands_on p _ _ (is_head heads) c e w u s.advances t n (r.landed t n k) | inr k ↦ s.landed t n k ];
    adds = λ i h. elim (s.adds i h) [
      | inr k ↦ inr (k.0, in_right (i, k.0) xs ys k.1)
      | inl k ↦ elim (r.adds i k) [ inl j ↦ inl j | inr j ↦ inr (j.0, in_left (i, j.0) xs ys j.1) ]
    ];
    whole = s.whole;
  }

-- a list is read one by one
pub take_next : {X : Type 0} (xs : List X) (k : ℕ) (d : X) → k < length xs → take (suc k) xs ≡ take k xs ++ get_or xs k d ∷ []
take_next [] k d h = absurd (omega arith)
take_next (x ∷ xs) zero d h = refl
take_next {X} (x ∷ xs) (suc k) d h = ap (λ (ys : List X). x ∷ ys) (take_next xs k d (omega arith))

pub in_at : {X : Type 0} (xs : List X) (k : ℕ) (d : X) → k < length xs → In (get_or xs k d) xs
in_at [] k d h = absurd (omega arith)
in_at (x ∷ xs) zero d h = inl refl
in_at (x ∷ xs) (suc k) d h = inr (in_at xs k d (omega arith))

filter-append : {X : Type 0} (f : X → Bool) (xs ys : List X) → filter f (xs ++ ys) ≡ filter f xs ++ filter f ys
filter-append f [] ys = refl
filter-append {X} f (x ∷ xs) ys = go (f x) (filter-append f xs ys)
  where
    go : (b : Bool) → filter f (xs ++ ys) ≡ filter f xs ++ filter f ys → cond b (x ∷ filter f (xs ++ ys)) (filter f (xs ++ ys)) ≡ cond b (x ∷ filter f xs) (filter f xs) ++ filter f ys
    go true e = ap (λ (zs : List X). x ∷ zs) e
    go false e = e

filter_next : {X : Type 0} (f : X → Bool) (xs : List X) (k : ℕ) (d : X) → k < length xs → filter f (take (k + 1) xs) ≡ filter f (take k xs) ++ filter f (get_or xs k d ∷ [])
filter_next {X} f xs k d h = let z : k + 1 ≡ suc k = omega arith in ap (λ (n : ℕ). filter f (take n xs)) z ∙ ap (filter f) (take_next xs k d h) ∙ filter-append f (take k xs) (get_or xs k d ∷ [])

pub filter_kept : {X : Type 0} (f : X → Bool) (xs : List X) (k : ℕ) (d : X) → k < length xs → f (get_or xs k d) ≡ true → filter f (take (k + 1) xs) ≡ filter f (take k xs) ++ get_or xs k d ∷ []
filter_kept {X} f xs k d h e = filter_next f xs k d h ∙ ap (λ (b : Bool). filter f (take k xs) ++ cond b (get_or xs k d ∷ []) []) e

pub filter_left : {X : Type 0} (f : X → Bool) (xs : List X) (k : ℕ) (d : X) → k < length xs → f (get_or xs k d) ≡ false → filter f (take (k + 1) xs) ≡ filter f (take k xs)
filter_left {X} f xs k d h e = filter_next f xs k d h ∙ ap (λ (b : Bool). filter f (take k xs) ++ cond b (get_or xs k d ∷ []) []) e ∙ append-nil (filter f (take k xs))

module _ (p : LinkedFile) (m : Routine) (heads : List Bool) {X : Type 0} (f : X → ℕ × State) where
  pub each_ready : (xs : List X) (k : ℕ) (d : X) → AreEntriesReady p m heads (map f xs) → k < length xs → IsStateReady p m heads (f (get_or xs k d)).0 (f (get_or xs k d)).1
  each_ready xs k d r h = r _ _ (map_in f (get_or xs k d) xs (in_at xs k d h))

  pub each_step : (xs : List X) (k : ℕ) (d : X) (a c e : List (Option State)) (v w u : List ℕ) → k < length xs → AllReach p m heads (map f (take k xs)) a v c w → AllReach p m heads (f (get_or xs k d) ∷ []) c w e u → AllReach p m heads (map f (take (k + 1) xs)) a v e u
  each_step xs k d a c e v w u h r q =
      let x = reach_more p m heads _ _ a c e v w u r q in
      let z : k + 1 ≡ suc k = omega arith in
      let y : map f (take (k + 1) xs) ≡ map f (take k xs) ++ f (get_or xs k d) ∷ [] = ap (λ (n : ℕ). map f (take n xs)) z ∙ ap (map f) (take_next xs k d h) ∙ map-append f (take k xs) (get_or xs k d ∷ []) in
      subst (λ (zs : List (ℕ × State)). AllReach p m heads zs a v e u) (sym y) x

module _ (p : LinkedFile) (m : Routine) (heads : List Bool) where
  -- a head that a step leads to
  pub head_ready : (i : ℕ) (n : State) → MayGoOn p m i n → is_head heads (i + 1) ≡ true → IsStateReady p m heads (i + 1) n
  head_ready i n h on = let e : suc i ≡ i + 1 = omega arith in record { derived = subst (λ k. Derivable p m k n) e h.derived; inside = subst (λ k. k < length m.code) e h.inside; head = on }

  pub arrived_head : (i : ℕ) (n : State) (next : Bool) (a c : List (Option State)) (v w : List ℕ) → next ≡ true → AllReach p m heads ((i + 1, n) ∷ []) a v c w → AllReach p m heads (map (landing n) (cond next (suc i ∷ []) [])) a v c w
  arrived_head i n next a c v w on r =
      let e : i + 1 ≡ suc i = omega arith in
      subst (λ (b : Bool). AllReach p m heads (map (landing n) (cond b (suc i ∷ []) [])) a v c w) (sym on) (subst (λ (k : ℕ). AllReach p m heads ((k, n) ∷ []) a v c w) e r)

  pub arrived_not : (i : ℕ) (n : State) (next : Bool) (a : List (Option State)) (v : List ℕ) → next ≡ false → IsTableOpen p m a → AllReach p m heads (map (landing n) (cond next (suc i ∷ []) [])) a v a v
  arrived_not i n next a v off o = subst (λ (b : Bool). AllReach p m heads (map (landing n) (cond b (suc i ∷ []) [])) a v a v) (sym off) (reach_none p m heads a v o)

  pub one_ready : (s : State) (t : ℕ) → AreEntriesReady p m heads (map (landing s) (t ∷ [])) → IsStateReady p m heads t s
  one_ready s t r = r t s (inl refl)

  pub first_ready : (s : State) (t : ℕ) (ts : List ℕ) → AreEntriesReady p m heads (map (landing s) (t ∷ ts)) → IsStateReady p m heads t s
  first_ready s t ts r = r t s (inl refl)

  pub rest_ready : (s : State) (t : ℕ) (ts us : List ℕ) → us ≡ ts → AreEntriesReady p m heads (map (landing s) (t ∷ ts)) → AreEntriesReady p m heads (map (landing s) us)
  rest_ready s t ts us e r = subst (λ (xs : List ℕ). AreEntriesReady p m heads (map (landing s) xs)) (sym e) (λ k u h. r k u (inr h))

  pub reach_rest : (s : State) (t : ℕ) (ts us : List ℕ) (a c e : List (Option State)) (v w x : List ℕ) → us ≡ ts → AllReach p m heads (map (landing s) (t ∷ [])) a v c w → AllReach p m heads (map (landing s) us) c w e x → AllReach p m heads (map (landing s) (t ∷ ts)) a v e x
  reach_rest s t ts us a c e v w x is r q = reach_more p m heads ((t, s) ∷ []) (map (landing s) ts) a c e v w x r (subst (λ (xs : List ℕ). AllReach p m heads (map (landing s) xs) c w e x) is q)

  pub reach_nowhere : (s : State) (ts : List ℕ) (a : List (Option State)) (v : List ℕ) → ts ≡ [] → IsTableOpen p m a → AllReach p m heads (map (landing s) ts) a v a v
  reach_nowhere s ts a v e o = subst (λ (xs : List ℕ). AllReach p m heads (map (landing s) xs) a v a v) (sym e) (reach_none p m heads a v o)
