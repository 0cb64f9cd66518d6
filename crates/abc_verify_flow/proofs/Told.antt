-- What handlers are told, node by node.
use Rattle.std.proofs.Common.{◌≡◌, ℕ, zero, suc, ◌*◌, ◌/◌, ◌≤◌, ◌<◌, List, [], ◌∷◌, ◌⊎◌, Option, Some, None, length, set, replicate, refl, sym, ap, ◌∙◌, subst, arith, inl, inr, length-set}
use Rattle.std.specs.Prelude.{Bool, map, slice_get}
use Rattle.std.proofs.lemmas.Bool.{cases_eq, cases_lt}
use Rattle.std.proofs.lemmas.List.{length-replicate}
use Rattle.abc_link_names.specs.Kinds.{IsAtMost}
use Rattle.abc_link_names.specs.Linked.{LinkedFile}
use Rattle.abc_link_names.specs.declared.types.Kind.{Kind}
use Rattle.abc_link_names.proofs.Order.{kind_self}
use Rattle.abc_base_trees.specs.Hanging.{Further, Hangs, Here, first_link, at_link}
use Rattle.abc_base_trees.specs.Hung.{AreHung, HangsAt, leaf, leaves, levels_above}
use Rattle.abc_base_trees.specs.declared.hang.Hang.{Hang}
use Rattle.abc_base_trees.specs.declared.stabs.Stabs.{Stabs}
use Rattle.abc_base_trees.proofs.Hanging.{hangs_none, hangs_split}
use Rattle.abc_base_trees.proofs.Levels.{up_low, up_past}
use Rattle.abc_base_trees.proofs.Pieces.{piece_few}
use Rattle.abc_verify_typing.specs.Effects.{covering}
use Rattle.abc_verify_typing.specs.Lists.{Each2}
use Rattle.abc_verify_typing.specs.Routines.{Routine}
use Rattle.abc_verify_typing.specs.Typing.{In, IsJoinState, Join}
use Rattle.abc_verify_typing.specs.declared.catch.Catch.{Catch}
use Rattle.abc_verify_typing.specs.declared.state.State.{State}
use Rattle.abc_verify_typing.proofs.Lists.{Each2-self}
use Rattle.abc_verify_typing.proofs.Member.{map_in}
use Rattle.abc_verify_typing.specs.Rank.{layouts, rank_of_state, top_rank}
use Rattle.abc_verify_typing.specs.Work.{at}
use Rattle.abc_verify_typing.proofs.Order.{state_trans}
use Rattle.abc_verify_typing.proofs.Turn.{advance_self, advance_trans, at-set_other, at-set_same, lands_on}
use Rattle.abc_verify_flow.specs.Telling.{AreHandlersTold, HandlerAt, HasCaught, HasCaughtOne, HasTold, HasToldAt, IsReadyFor, IsTold, Raises, range_of}
use Rattle.abc_verify_flow.specs.Walking.{AllReach, AreEntriesReady, IsTableOpen, MovesState, caught_with, is_head}
use Rattle.abc_verify_flow.proofs.Covered.{covers_hung, hung_covers}

-- less was told too
pub told_less : (p : LinkedFile) (states : List (Option State)) (less locals : List Kind) (h : Catch) → Each2 (IsAtMost p) less locals → IsTold p states locals h → IsTold p states less h
told_less p states less locals h le l = (l.0, l.1, state_trans p (caught_with less h).1 (caught_with locals h).1 l.0 (record { stack = (kind_self p h.kind, tt); scopes = tt; locals = le }) l.2)

module _ (p : LinkedFile) (m : Routine) (heads : List Bool) where
  pub told_on : (locals : List Kind) (h : Catch) (a c : List (Option State)) (v w : List ℕ) → MovesState p m heads a v c w → IsTold p a locals h → IsTold p c locals h
  told_on locals h a c v w g l = lands_on p (rank_of_state (layouts p)) (top_rank (layouts p) m) (is_head heads) a c v w g h.target (caught_with locals h).1 l

  pub kept_on : (t : Stabs) (told a c : List (Option State)) (v w : List ℕ) → MovesState p m heads a v c w → AreHandlersTold p m heads t told a → AreHandlersTold p m heads t told c
  kept_on t told a c v w g k = record { long = k.long; ready = k.ready; told = λ node s h e f. told_on s.locals h a c v w g (k.told node s h e f) }

  at_blank : (n i : ℕ) → at (replicate n None) i ≡ None
  at_blank zero i = refl
  at_blank (suc n) zero = refl
  at_blank (suc n) (suc i) = at_blank n i

  pub kept_first : (t : Stabs) (told states : List (Option State)) (n : ℕ) → n ≡ 2 * leaves t → told ≡ replicate n None → AreHandlersTold p m heads t told states
  kept_first t told states n long e = record {
    long = ap length e ∙ length-replicate n None ∙ long;
    ready = λ node s h f g. absurd (none node s f);
    told = λ node s h f g. absurd (none node s f);
  }
    where
      none : (node : ℕ) (s : State) → at told node ≡ Some s → ⊥
      none node s f = let z : None ≡ Some s = sym (at_blank n node) ∙ ap (λ (xs : List (Option State)). at xs node) (sym e) ∙ f in cc

  -- ---- the handlers of one node, one after the other

  pub record IsCatching (t : Stabs) (node : ℕ) (locals now : List Kind) (link : ℕ) (a : List (Option State)) (v : List ℕ) (c : List (Option State)) (w : List ℕ) : Type 0 where
    pub advances : MovesState p m heads a v c w
    pub adds : (i : ℕ) → In i w → In i v ⊎ ((h : Catch) × HandlerAt t m.handlers node h × (i ≡ h.target))
    pub whole : IsTableOpen p m c
    pub same : now ≡ locals
    pub of_node : (k : ℕ) → Hangs t.hangs k link → HangsAt t node k
    pub told : (h : Catch) (k : ℕ) → HangsAt t node k → slice_get m.handlers k ≡ Some h → Hangs t.hangs k link ⊎ IsTold p c locals h

  pub catching_first : (t : Stabs) (node : ℕ) (locals : List Kind) (link : ℕ) (a : List (Option State)) (v : List ℕ) → IsTableOpen p m a → link ≡ first_link t.firsts node → IsCatching t node locals locals link a v a v
  catching_first t node locals link a v o e = record {
    advances = advance_self p _ _ (is_head heads) a v;
    adds = λ i h. inl h;
    whole = o;
    same = refl;
    of_node = λ k g. subst (λ (l : ℕ). Hangs t.hangs k l) e g;
    told = λ h k g is. inl (subst (λ (l : ℕ). Hangs t.hangs k l) (sym e) g);
  }

  pub catching_more : (t : Stabs) (node : ℕ) (locals now after : List Kind) (link : ℕ) (h : Hang) (a c d : List (Option State)) (v w x : List ℕ) → at_link t.hangs link ≡ Some h → IsCatching t node locals now link a v c w → HasCaughtOne p m heads h.number now c w d x → after ≡ now → IsCatching t node locals after h.next a v d x
  catching_more t node locals now after link h a c d v w x e k one same = record {
    advances = advance_trans p _ _ (is_head heads) a c d v w x k.advances one.advances;
    adds = λ i f. elim (one.adds i f) [ inl j ↦ k.adds i j | inr j ↦ inr (j.0, record { number = h.number; hangs = k.of_node h.number (Here link h e refl); is = j.1 }, j.2) ];
    whole = one.whole;
    same = same ∙ k.same;
    of_node = λ n g. k.of_node n (Further link h e g);
    told = λ g n at is. elim (k.told g n at is) [
      | inr l ↦ inr (told_on locals g c d w x one.advances l)
      | inl f ↦ (
          let s = hangs_split t.hangs n link f in
          let q : s.0 ≡ h = (let z : Some s.0 ≡ Some h = sym s.1 ∙ e in cc) in
          elim s.2 [
            | inr r ↦ inl (subst (λ (y : Hang). Hangs t.hangs n y.next) q r)
            | inl z ↦ inr (
                let number : h.number ≡ n = ap (λ (y : Hang). y.number) (sym q) ∙ z in
                subst (λ (ls : List Kind). IsTold p d ls g) k.same (one.told g (ap (slice_get m.handlers) number ∙ is)))
          ])
    ];
  }

  pub catching_last : (t : Stabs) (node : ℕ) (locals now : List Kind) (link : ℕ) (a c : List (Option State)) (v w : List ℕ) → at_link t.hangs link ≡ None → IsCatching t node locals now link a v c w → HasCaught p m heads t node locals a v c w
  catching_last t node locals now link a c v w e k = record {
    advances = k.advances;
    adds = k.adds;
    whole = k.whole;
    told = λ h g. elim (k.told h g.number g.hangs g.is) [
      | inr l ↦ l
      | inl f ↦ absurd (let s = hangs_split t.hangs g.number link f in let z : Some s.0 ≡ None = sym s.1 ∙ e in cc)
    ];
  }

  -- what is at a link is ready
  pub catching_ready : (t : Stabs) (node : ℕ) (locals now : List Kind) (link : ℕ) (h : Hang) (g : Catch) (a c : List (Option State)) (v w : List ℕ) → at_link t.hangs link ≡ Some h → IsCatching t node locals now link a v c w → ((f : Catch) → HandlerAt t m.handlers node f → IsReadyFor p m heads locals f) → slice_get m.handlers h.number ≡ Some g → IsReadyFor p m heads now g
  catching_ready t node locals now link h g a c v w e k ready is =
      subst (λ (ls : List Kind). IsReadyFor p m heads ls g) (sym k.same) (ready g (record { number = h.number; hangs = k.of_node h.number (Here link h e refl); is = is }))

  pub caught_one : (number : ℕ) (h : Catch) (locals : List Kind) (a c : List (Option State)) (v w : List ℕ) → slice_get m.handlers number ≡ Some h → AllReach p m heads (caught_with locals h ∷ []) a v c w → HasCaughtOne p m heads number locals a v c w
  caught_one number h locals a c v w is r = record {
    advances = r.advances;
    adds = λ i f. elim (r.adds i f) [ inl j ↦ inl j | inr j ↦ inr (h, is, target_of i j.0 j.1) ];
    whole = r.whole;
    told = λ g e. let q : h ≡ g = (let z : Some h ≡ Some g = sym is ∙ e in cc) in subst (λ (y : Catch). IsTold p c locals y) q (r.landed h.target (caught_with locals h).1 (inl refl));
  }
    where
      target_of : (i : ℕ) (n : State) → In {X = ℕ × State} (i, n) (caught_with locals h ∷ []) → i ≡ h.target
      target_of i n (inl q) = ap (λ (y : ℕ × State). y.0) q
      target_of i n (inr f) = absurd f

  pub caught_none : (number : ℕ) (locals : List Kind) (a : List (Option State)) (v : List ℕ) → slice_get m.handlers number ≡ None → IsTableOpen p m a → HasCaughtOne p m heads number locals a v a v
  caught_none number locals a v none o = record {
    advances = advance_self p _ _ (is_head heads) a v;
    adds = λ i h. inl h;
    whole = o;
    told = λ g e. absurd (let z : None ≡ Some g = sym none ∙ e in cc);
  }

  -- ---- one node

  pub told_nobody : (t : Stabs) (node : ℕ) (seen : List Kind) (a : List (Option State)) (v : List ℕ) (told : List (Option State)) → first_link t.firsts node ≡ 0 → IsTableOpen p m a → AreHandlersTold p m heads t told a → HasToldAt p m heads t node seen a v told a v
  told_nobody t node seen a v told none o k = record {
    caught = record {
      advances = advance_self p _ _ (is_head heads) a v;
      adds = λ i h. inl h;
      whole = o;
      told = λ h g. absurd (hangs_none t.hangs g.number (subst (λ (l : ℕ). Hangs t.hangs g.number l) none g.hangs));
    };
    kept = k;
  }

  pub told_before : (t : Stabs) (node : ℕ) (seen s : State) (a : List (Option State)) (v : List ℕ) (told : List (Option State)) → at told node ≡ Some s → Each2 (IsAtMost p) seen.locals s.locals → IsTableOpen p m a → AreHandlersTold p m heads t told a → HasToldAt p m heads t node seen.locals a v told a v
  told_before t node seen s a v told e le o k = record {
    caught = record {
      advances = advance_self p _ _ (is_head heads) a v;
      adds = λ i h. inl h;
      whole = o;
      told = λ h g. told_less p a seen.locals s.locals h le (k.told node s h e g);
    };
    kept = k;
  }

  -- what is kept of a node is what its handlers were told last
  pub told_now : (t : Stabs) (node : ℕ) (s : State) (locals : List Kind) (a c : List (Option State)) (v w : List ℕ) (told : List (Option State)) → node < 2 * leaves t → s.locals ≡ locals → ((h : Catch) → HandlerAt t m.handlers node h → IsReadyFor p m heads locals h) → AreHandlersTold p m heads t told a → HasCaught p m heads t node locals a v c w → HasToldAt p m heads t node locals a v (set told node (Some s)) c w
  told_now t node s locals a c v w told lt same ready k r = record {
    caught = r;
    kept = record {
      long = length-set told node (Some s) ∙ k.long;
      ready = λ n u h e g. elim (cases_eq n node) [
        | inl q ↦ subst (λ (ls : List Kind). IsReadyFor p m heads ls h) (sym (locals_of n u q e)) (ready h (subst (λ (i : ℕ). HandlerAt t m.handlers i h) q g))
        | inr ne ↦ k.ready n u h (sym (at-set_other told node n (Some s) ne) ∙ e) g
      ];
      told = λ n u h e g. elim (cases_eq n node) [
        | inl q ↦ subst (λ (ls : List Kind). IsTold p c ls h) (sym (locals_of n u q e)) (r.told h (subst (λ (i : ℕ). HandlerAt t m.handlers i h) q g))
        | inr ne ↦ told_on u.locals h a c v w r.advances (k.told n u h (sym (at-set_other told node n (Some s) ne) ∙ e) g)
      ];
    };
  }
    where
      locals_of : (n : ℕ) (u : State) → n ≡ node → at (set told node (Some s)) n ≡ Some u → u.locals ≡ locals
      locals_of n u q e =
          let within : node < length told = let z = k.long in omega arith in
          let f : Some s ≡ Some u = sym (at-set_same told node (Some s) within) ∙ ap (at (set told node (Some s))) (sym q) ∙ e in
          let same_state : s ≡ u = cc in
          ap (λ (y : State). y.locals) (sym same_state) ∙ same

  -- what was seen is at most what was told
  pub raised_most : (o : Option State) (seen now : State) → Raises p o seen (Some now) → Each2 (IsAtMost p) seen.locals now.locals
  raised_most o seen now (inl e) = subst (λ (ls : List Kind). Each2 (IsAtMost p) seen.locals ls) (sym e) (Each2-self (IsAtMost p) (kind_self p) seen.locals)
  raised_most o seen now (inr j) = j.2.right.locals

  join_caught : (s u j : State) (h : Catch) → IsJoinState p s u j → IsJoinState p (caught_with s.locals h).1 (caught_with u.locals h).1 (caught_with j.locals h).1
  join_caught s u j h z = record {
    left = record { stack = (kind_self p h.kind, tt); scopes = tt; locals = z.left.locals };
    right = record { stack = (kind_self p h.kind, tt); scopes = tt; locals = z.right.locals };
    least = λ k a b. record { stack = a.stack; scopes = a.scopes; locals = (z.least (record { stack = j.stack; scopes = j.scopes; locals = k.locals }) (record { stack = z.left.stack; scopes = z.left.scopes; locals = a.locals }) (record { stack = z.right.stack; scopes = z.right.scopes; locals = b.locals })).locals };
  }

  -- what is told now is ready
  pub raised_ready : (t : Stabs) (node : ℕ) (told states : List (Option State)) (seen now : State) (h : Catch) → Raises p (at told node) seen (Some now) → AreHandlersTold p m heads t told states → HandlerAt t m.handlers node h → IsReadyFor p m heads seen.locals h → IsReadyFor p m heads now.locals h
  raised_ready t node told states seen now h (inl e) k g r = subst (λ (ls : List Kind). IsReadyFor p m heads ls h) (sym e) r
  raised_ready t node told states seen now h (inr j) k g r =
      let b = k.ready node j.0 h j.1 g in
      record { derived = Join h.target (caught_with j.0.locals h).1 (caught_with seen.locals h).1 (caught_with now.locals h).1 b.derived r.derived (join_caught j.0 seen now h j.2); inside = r.inside; head = r.head }

  pub told_seen : (t : Stabs) (node : ℕ) (seen locals : List Kind) (a c : List (Option State)) (v w : List ℕ) (told : List (Option State)) → Each2 (IsAtMost p) seen locals → HasToldAt p m heads t node locals a v told c w → HasToldAt p m heads t node seen a v told c w
  told_seen t node seen locals a c v w told le r = record { caught = record { advances = r.caught.advances; adds = r.caught.adds; whole = r.caught.whole; told = λ h g. told_less p c seen locals h le (r.caught.told h g) }; kept = r.kept }

  -- ---- the nodes above a place, from its leaf up

  pub record IsTelling (t : Stabs) (place node : ℕ) (seen : List Kind) (a : List (Option State)) (v : List ℕ) (told c : List (Option State)) (w : List ℕ) : Type 0 where
    pub level : ℕ
    pub here : node ≡ levels_above level (leaf t place)
    pub advances : MovesState p m heads a v c w
    pub adds : (i : ℕ) → In i w → In i v ⊎ ((h : Catch) × ((j : ℕ) × HandlerAt t m.handlers (levels_above j (leaf t place)) h) × (i ≡ h.target))
    pub whole : IsTableOpen p m c
    pub kept : AreHandlersTold p m heads t told c
    pub below : (j : ℕ) (h : Catch) → j < level → HandlerAt t m.handlers (levels_above j (leaf t place)) h → IsTold p c seen h

  pub telling_first : (t : Stabs) (place node : ℕ) (seen : List Kind) (a : List (Option State)) (v : List ℕ) (told : List (Option State)) → node ≡ leaf t place → IsTableOpen p m a → AreHandlersTold p m heads t told a → IsTelling t place node seen a v told a v
  telling_first t place node seen a v told e o k = record { level = 0; here = e; advances = advance_self p _ _ (is_head heads) a v; adds = λ i h. inl h; whole = o; kept = k; below = λ j h lt g. absurd (omega arith) }

  pub telling_more : (t : Stabs) (place node : ℕ) (seen : List Kind) (a c d : List (Option State)) (v w x : List ℕ) (old told : List (Option State)) → IsTelling t place node seen a v old c w → HasToldAt p m heads t node seen c w told d x → IsTelling t place (node / 2) seen a v told d x
  telling_more t place node seen a c d v w x old told k r = record {
    level = suc k.level;
    here = ap (λ (n : ℕ). n / 2) k.here;
    advances = advance_trans p _ _ (is_head heads) a c d v w x k.advances r.caught.advances;
    adds = λ i f. elim (r.caught.adds i f) [ inl j ↦ k.adds i j | inr j ↦ inr (j.0, (k.level, subst (λ (n : ℕ). HandlerAt t m.handlers n j.0) k.here j.1), j.2) ];
    whole = r.caught.whole;
    kept = r.kept;
    below = λ j h lt g. elim (cases_lt j k.level) [
      | inl lu ↦ told_on seen h c d w x r.caught.advances (k.below j h lu g)
      | inr le ↦ (let q : j ≡ k.level = omega arith in r.caught.told h (subst (λ (i : ℕ). HandlerAt t m.handlers i h) (ap (λ (i : ℕ). levels_above i (leaf t place)) q ∙ sym k.here) g))
    ];
  }

  pub telling_last : (t : Stabs) (place node : ℕ) (seen : List Kind) (a c : List (Option State)) (v w : List ℕ) (told : List (Option State)) → first_link t.firsts 0 ≡ 0 → AreHung (map range_of m.handlers) t → node ≤ 0 → IsTelling t place node seen a v told c w → HasTold p m heads t place seen a v told c w
  telling_last t place node seen a c v w told root hung le k = record {
    advances = k.advances;
    adds = λ i f. elim (k.adds i f) [ inl j ↦ inl j | inr j ↦ inr (j.0, hung_covers m.handlers t j.1.0 place j.0 hung j.1.1, j.2) ];
    whole = k.whole;
    kept = k.kept;
    told = λ h i. each h (covers_hung m.handlers t place h hung i);
  }
    where
      each : (h : Catch) → (j : ℕ) × HandlerAt t m.handlers (levels_above j (leaf t place)) h → IsTold p c seen h
      each h r = elim (cases_lt r.0 k.level) [
        | inl lt ↦ k.below r.0 h lt r.1
        | inr ge ↦ absurd (
            let z = k.here in
            let above : levels_above r.0 (leaf t place) ≡ 0 = up_past r.0 k.level (leaf t place) ge (omega arith) in
            let none : first_link t.firsts (levels_above r.0 (leaf t place)) ≡ 0 = ap (first_link t.firsts) above ∙ root in
            hangs_none t.hangs r.1.number (subst (λ (l : ℕ). Hangs t.hangs r.1.number l) none r.1.hangs))
      ]

  -- the handlers above a place are ready
  pub telling_ready : (t : Stabs) (place node : ℕ) (locals : List Kind) (a c : List (Option State)) (v w : List ℕ) (told : List (Option State)) (h : Catch) → AreHung (map range_of m.handlers) t → AreEntriesReady p m heads (map (caught_with locals) (covering m place)) → IsTelling t place node locals a v told c w → HandlerAt t m.handlers node h → IsReadyFor p m heads locals h
  telling_ready t place node locals a c v w told h hung ready k g =
      let i = hung_covers m.handlers t k.level place h hung (subst (λ (n : ℕ). HandlerAt t m.handlers n h) k.here g) in
      ready h.target (caught_with locals h).1 (map_in (caught_with locals) h (covering m place) i)

  pub telling_inside : (t : Stabs) (place node : ℕ) (seen : List Kind) (a c : List (Option State)) (v w : List ℕ) (told : List (Option State)) → IsTelling t place node seen a v told c w → node < 2 * leaves t
  telling_inside t place node seen a c v w told k = let low = up_low k.level (leaf t place) in let e = k.here in let few = piece_few t.bounds.items place in omega arith
