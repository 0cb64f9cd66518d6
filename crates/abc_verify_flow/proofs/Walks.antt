-- A walk over straight-line code, in the words of the code.
use Rattle.std.proofs.Common.{◌≡◌, ◌≢◌, ℕ, suc, ◌+◌, ◌<◌, ◌≤◌, List, [], ◌∷◌, ◌++◌, Option, Some, None, length, refl, sym, ap, ◌∙◌, subst, arith, ◌⊎◌, inl, inr}
use Rattle.std.specs.Prelude.{Bool, true, false, cond, map, filter, slice_get, leb, ltb, ◌&&◌}
use Rattle.std.proofs.lemmas.Bool.{cases_lt, le-leb, le-ltb, lt-leb, lt-ltb}
use Rattle.std.proofs.lemmas.Option.{slice_get_past}
use Rattle.abc_link_names.specs.Kinds.{IsAtMost}
use Rattle.abc_link_names.specs.Linked.{LinkedFile}
use Rattle.abc_link_names.specs.declared.types.Kind.{Kind}
use Rattle.abc_link_names.proofs.Order.{kind_self}
use Rattle.abc_verify_typing.specs.Effects.{covering, covers, caught_state}
use Rattle.abc_verify_typing.specs.Lists.{Each2}
use Rattle.abc_verify_typing.specs.Routines.{Routine}
use Rattle.abc_verify_typing.specs.Rules.{after_instr, at_instr, early_rules, late_rules}
use Rattle.abc_verify_typing.specs.Typing.{In, Follows, IsFine, Derivable, Entry, Next, Join, Refutes, Broken, entry}
use Rattle.abc_verify_typing.specs.declared.catch.Catch.{Catch}
use Rattle.abc_verify_typing.specs.declared.rule.VerifyRule.TheVariants.{OffEnd}
use Rattle.abc_verify_typing.specs.declared.state.State.{State}
use Rattle.abc_verify_typing.proofs.Lists.{Each2-self}
use Rattle.abc_verify_typing.proofs.Member.{in_append, in_left, in_right, in_map, map_in}
use Rattle.abc_verify_typing.proofs.Sized.{follows_inside}
use Rattle.abc_verify_typing.specs.Work.{at, Landed, RunsOn, Halts, Goes, IsUnderWay}
use Rattle.abc_verify_typing.specs.Rank.{layouts, rank_of_state, top_rank}
use Rattle.abc_verify_typing.proofs.Turn.{advance_self, advance_trans, lands_on, turn}
use Rattle.abc_verify_flow.specs.declared.step.Step.{Step}
use Rattle.abc_verify_flow.specs.declared.step.Written.{Written}
use Rattle.abc_verify_flow.specs.declared.step.Written.TheVariants as writes
use Rattle.abc_verify_flow.specs.declared.step.Onward.{Onward}
use Rattle.abc_verify_flow.specs.declared.step.Onward.TheVariants.{Stops, GoesOn}
use Rattle.abc_verify_flow.specs.Walking.{AddsBehind, AllReach, AreWalkHeads, AreEntriesReady, AreSeen, AreTold, ArrivesAt, First, HasPaced, HasTurned, HasWalked, IsTableOpen, IsPending, IsStateReady, IsSeen, IsSeenFirst, IsWalking, Later, MayGoOn, MovesState, NotesWritten, Passed, Steps, Wrote, caught_with, is_head, landing, leads_of, targets_at}
use Rattle.abc_verify_flow.proofs.Seen.{Joins, caught_join, joins_left, joins_right, noted_joins}
use Rattle.abc_verify_flow.proofs.Covered.{empty_not, in_filter}
use Rattle.abc_verify_flow.proofs.Told.{told_less}
use Rattle.abc_verify_flow.specs.Handled.{IsCover}
use Rattle.abc_verify_flow.specs.Telling.{AreHandlersTold, HasTold}
use Rattle.abc_verify_flow.specs.Waits.{IsPlaceAdded}
use Rattle.abc_verify_flow.specs.declared.handled.Cover.{Cover}
use Rattle.abc_base_trees.specs.declared.stabs.Stabs.{Stabs}

-- what handlers get is derived, and lies inside
caught_ready : (p : LinkedFile) (m : Routine) (heads : List Bool) (i : ℕ) (s : State) → AreWalkHeads m heads → Derivable p m i s → IsFine p m i s → AreEntriesReady p m heads (map (caught_state s) (covering m i))
caught_ready p m heads i s hs d fine t n h =
    let f : Follows p m i s t n = in_right (t, n) (after_instr p m i s (slice_get m.code i)) (map (caught_state s) (covering m i)) h in
    let inside = follows_inside p m i s t n fine f in
    let r = in_map (caught_state s) (t, n) (covering m i) h in
    let e : t ≡ r.0.target = ap (λ (z : ℕ × State). z.0) r.2 in
    record { derived = Next i s t n d fine f; inside = inside; head = subst (λ k. is_head heads k ≡ true) (sym e) (hs.handlers r.0 (in_filter (covers i) r.0 m.handlers r.1).0 (subst (λ k. k < length m.code) e inside)) }

-- ---- the handlers of the next place are those of this one, unless a head begins there

filter_same : (f g : Catch → Bool) (hs : List Catch) → ((h : Catch) → In h hs → f h ≡ g h) → filter f hs ≡ filter g hs
filter_same f g [] e = refl
filter_same f g (x ∷ hs) e = ap (λ (b : Bool). cond b (x ∷ filter f hs) (filter f hs)) (e x (inl refl)) ∙ ap (λ (ys : List Catch). cond (g x) (x ∷ ys) ys) (filter_same f g hs (λ h k. e h (inr k)))

same_leb : (a i : ℕ) → a ≢ suc i → leb a i ≡ leb a (suc i)
same_leb a i ne = elim (cases_lt i a) [ inl lt ↦ lt-leb a i lt ∙ sym (lt-leb a (suc i) (omega arith)) | inr le ↦ le-leb a i le ∙ sym (le-leb a (suc i) (omega arith)) ]

same_ltb : (a i : ℕ) → a ≢ suc i → ltb i a ≡ ltb (suc i) a
same_ltb a i ne = elim (cases_lt i a) [ inl lt ↦ lt-ltb i a lt ∙ sym (lt-ltb (suc i) a (omega arith)) | inr le ↦ le-ltb i a le ∙ sym (le-ltb (suc i) a (omega arith)) ]

covering_next : (m : Routine) (heads : List Bool) (i : ℕ) → AreWalkHeads m heads → suc i < length m.code → is_head heads (suc i) ≡ false → covering m i ≡ covering m (suc i)
covering_next m heads i hs inside off = filter_same (covers i) (covers (suc i)) m.handlers same
  where
    same : (h : Catch) → In h m.handlers → covers i h ≡ covers (suc i) h
    same h k =
        let from : h.from ≢ suc i = λ e. let z = hs.begins h k (subst (λ j. j < length m.code) (sym e) inside) in let y = ap (is_head heads) e in absurd cc in
        let to : h.to ≢ suc i = λ e. let z = hs.ends h k (subst (λ j. j < length m.code) (sym e) inside) in let y = ap (is_head heads) e in absurd cc in
        ap (λ (b : Bool). b && ltb i h.to) (same_leb h.from i from) ∙ ap (λ (b : Bool). leb h.from (suc i) && b) (same_ltb h.to i to)

-- ---- what was seen

told_down : (p : LinkedFile) (d : List (Option State)) (cover : List Catch) (a b : List Kind) → AreSeen p cover a b → AreTold p d cover b → AreTold p d cover a
told_down p d cover a b le told h k = told_less p d a b h (le h k) (told h k)

-- what handlers get has landed
caught_lands : (p : LinkedFile) (d : List (Option State)) (cover : List Catch) (s : State) (seen : List Kind) (t : ℕ) (u : State) → AreSeen p cover s.locals seen → AreTold p d cover seen → In (t, u) (map (caught_state s) cover) → Landed p d t u
caught_lands p d cover s seen t u most told k =
    let r = in_map (caught_state s) (t, u) cover k in
    let l = told_down p d cover s.locals seen most told r.0 r.1 in
    subst (λ (y : ℕ × State). Landed p d y.0 y.1) (sym r.2) l

-- where no handler covers a walk nothing is kept for one
pub seen_first : (handlers : List Catch) (end : ℕ) (c : Cover) (seen locals : List Kind) → IsCover handlers end c → (c.is_empty ≡ false → seen ≡ locals) → IsSeenFirst handlers seen locals
seen_first handlers end c seen locals is kept h k = kept (is.none ∙ empty_not handlers h k)

-- what is ready for each handler
each_handler : (p : LinkedFile) (m : Routine) (heads : List Bool) (cover : List Catch) (seen : List Kind) → ((h : Catch) → In h cover → IsStateReady p m heads h.target (caught_with seen h).1) → AreEntriesReady p m heads (map (caught_with seen) cover)
each_handler p m heads cover seen f t n k = let r = in_map (caught_with seen) (t, n) cover k in subst (λ (y : ℕ × State). IsStateReady p m heads y.0 y.1) (sym r.2) (f r.0 r.1)

pub record HasNoted (p : LinkedFile) (m : Routine) (heads : List Bool) (cover : List Catch) (old seen locals : List Kind) : Type 0 where
  pub seen_is : IsSeen p m heads cover seen locals
  pub rises : AreSeen p cover old seen

pub now_seen : (p : LinkedFile) (m : Routine) (heads : List Bool) (cover : List Catch) (i : ℕ) (s : State) (old seen : List Kind) (w : Written) → AreWalkHeads m heads → Derivable p m i s → IsFine p m i s → cover ≡ covering m i → IsPending p m heads cover old s.locals w → NotesWritten p w old s.locals seen → HasNoted p m heads cover old seen s.locals
now_seen p m heads cover i s old seen w hs d fine is (First same none) noted =
    let still : seen ≡ old = subst (λ (x : Written). NotesWritten p x old s.locals seen) none noted in
    let all : AreEntriesReady p m heads (map (caught_with s.locals) cover) = subst (λ (xs : List Catch). AreEntriesReady p m heads (map (caught_with s.locals) xs)) (sym is) (caught_ready p m heads i s hs d fine) in
    record {
      seen_is = record {
        ready = each_handler p m heads cover seen (λ h k. subst (λ (xs : List Kind). IsStateReady p m heads h.target (caught_with xs h).1) (sym (still ∙ same h k)) (all h.target (caught_with s.locals h).1 (map_in (caught_with s.locals) h cover k)));
        most = λ h k. subst (λ (xs : List Kind). Each2 (IsAtMost p) s.locals xs) (sym (still ∙ same h k)) (Each2-self (IsAtMost p) (kind_self p) s.locals);
      };
      rises = λ h k. subst (λ (xs : List Kind). Each2 (IsAtMost p) old xs) (sym still) (Each2-self (IsAtMost p) (kind_self p) old);
    }
now_seen p m heads cover i s old seen w hs d fine is (Later before ready most wrote) noted =
    record { seen_is = record { ready = each_handler p m heads cover seen one; most = λ h k. joins_right p old s.locals seen (joins h k) }; rises = λ h k. joins_left p old s.locals seen (joins h k) }
  where
    joins : (h : Catch) → In h cover → Joins p old s.locals seen
    joins h k = noted_joins p w before s.locals old seen wrote (most h k) noted

    now : AreEntriesReady p m heads (map (caught_with s.locals) cover)
    now = subst (λ (xs : List Catch). AreEntriesReady p m heads (map (caught_with s.locals) xs)) (sym is) (caught_ready p m heads i s hs d fine)

    one : (h : Catch) → In h cover → IsStateReady p m heads h.target (caught_with seen h).1
    one h k =
        let a = ready h.target (caught_with old h).1 (map_in (caught_with old) h cover k) in
        let b = now h.target (caught_with s.locals h).1 (map_in (caught_with s.locals) h cover k) in
        record { derived = Join h.target (caught_with old h).1 (caught_with s.locals h).1 (caught_with seen h).1 a.derived b.derived (caught_join p old s.locals seen h (joins h k)); inside = a.inside; head = a.head }

module _ (p : LinkedFile) (m : Routine) (heads : List Bool) where
  -- a step leads to what follows, and to nothing else but handlers
  lead_follows : (i : ℕ) (s n : State) (step : Step) (t : ℕ) → Steps p m i s n step → In t (leads_of m i step) → Follows p m i s t n
  lead_follows i s n step t z h = in_left (t, n) _ (map (caught_state s) (covering m i)) (subst (λ (xs : List (ℕ × State)). In (t, n) xs) (sym z.after) (map_in (landing n) t (leads_of m i step) h))

  follow_leads : (i : ℕ) (s n : State) (step : Step) (t : ℕ) (u : State) → Steps p m i s n step → Follows p m i s t u → (In t (leads_of m i step) × (u ≡ n)) ⊎ In (t, u) (map (caught_state s) (covering m i))
  follow_leads i s n step t u z f = elim (in_append (t, u) (after_instr p m i s (slice_get m.code i)) (map (caught_state s) (covering m i)) f) [
    | inr k ↦ inr k
    | inl k ↦ (let r = in_map (landing n) (t, u) (leads_of m i step) (subst (λ (xs : List (ℕ × State)). In (t, u) xs) z.after k) in inl (subst (λ x. In x (leads_of m i step)) (sym (ap (λ (y : ℕ × State). y.0) r.2)) r.1, ap (λ (y : ℕ × State). y.1) r.2))
  ]

  pub jumps_ready : (i : ℕ) (s n : State) (step : Step) → AreWalkHeads m heads → Derivable p m i s → IsFine p m i s → Steps p m i s n step → step.jumps ≡ true → AreEntriesReady p m heads (map (landing n) (targets_at m i))
  jumps_ready i s n step hs d fine z on t u h =
      let r = in_map (landing n) (t, u) (targets_at m i) h in
      let e : t ≡ r.0 = ap (λ (y : ℕ × State). y.0) r.2 in
      let q : u ≡ n = ap (λ (y : ℕ × State). y.1) r.2 in
      let k : In t (targets_at m i) = subst (λ x. In x (targets_at m i)) (sym e) r.1 in
      let f = lead_follows i s n step t z (in_right t (cond step.next (suc i ∷ []) []) (cond step.jumps (targets_at m i) []) (subst (λ (b : Bool). In t (cond b (targets_at m i) [])) (sym on) k)) in
      let inside = follows_inside p m i s t n fine f in
      record { derived = subst (λ x. Derivable p m t x) (sym q) (Next i s t n d fine f); inside = inside; head = hs.jumps i t k inside }

  pub next_ready : (i : ℕ) (s n : State) (step : Step) → Derivable p m i s → IsFine p m i s → Steps p m i s n step → step.next ≡ true → MayGoOn p m i n
  next_ready i s n step d fine z on =
      let f = lead_follows i s n step (suc i) z (in_left (suc i) (cond step.next (suc i ∷ []) []) (cond step.jumps (targets_at m i) []) (subst (λ (b : Bool). In (suc i) (cond b (suc i ∷ []) [])) (sym on) (inl refl))) in
      record { derived = Next i s (suc i) n d fine f; inside = follows_inside p m i s (suc i) n fine f }

  landed_lead : (i : ℕ) (n : State) (step : Step) (t : ℕ) (b c : List (Option State)) (w x : List ℕ) → MovesState p m heads b w c x → ((k : ℕ) (u : State) → In (k, u) (map (landing n) (cond step.jumps (targets_at m i) [])) → Landed p b k u) → In t (leads_of m i step) → Landed p c t n ⊎ In t (cond step.next (suc i ∷ []) [])
  landed_lead i n step t b c w x g l h = elim (in_append t (cond step.next (suc i ∷ []) []) (cond step.jumps (targets_at m i) []) h) [
    | inl k ↦ inr k
    | inr k ↦ inl (lands_on p _ _ (is_head heads) b c w x g t n (l t n (map_in (landing n) t (cond step.jumps (targets_at m i) []) k)))
  ]

  in_next : (b : Bool) (t i : ℕ) → In t (cond b (suc i ∷ []) []) → t ≡ suc i
  in_next true t i (inl q) = q
  in_next true t i (inr h) = absurd h
  in_next false t i h = absurd h

  -- ---- what waits anew
  behind_trans : (place : ℕ) (c d : List (Option State)) (v x y : List ℕ) → MovesState p m heads c x d y → AddsBehind m place v c x → AddsBehind m place x d y → AddsBehind m place v d y
  behind_trans place c d v x y g f h i k = elim (h i k) [
    | inr j ↦ inr j
    | inl j ↦ elim (f i j) [ inl l ↦ inl l | inr l ↦ inr (let r = g.rises i l.0 l.1 in (r.0, r.1, l.2)) ]
  ]

  behind_less : (less place : ℕ) (v : List ℕ) (c : List (Option State)) (w : List ℕ) → less ≤ place → AddsBehind m place v c w → AddsBehind m less v c w
  behind_less less place v c w le f i k = elim (f i k) [ inl j ↦ inl j | inr j ↦ inr (j.0, j.1, λ on. let z = j.2 on in omega (arith, le, z)) ]

  jump_adds : (i : ℕ) (n : State) (jumps : Bool) (a c : List (Option State)) (v x : List ℕ) → AllReach p m heads (map (landing n) (cond jumps (targets_at m i) [])) a v c x → AddsBehind m i v c x
  jump_adds i n jumps a c v x r k h = elim (r.adds k h) [
    | inl j ↦ inl j
    | inr j ↦ (
        let l = r.landed k j.0 j.1 in
        let z = in_map (landing n) (k, j.0) (cond jumps (targets_at m i) []) j.1 in
        let e : k ≡ z.0 = ap (λ (y : ℕ × State). y.0) z.2 in
        inr (l.0, l.1, λ on. on.jumps i k (subst (λ q. In q (targets_at m i)) (sym e) (of_jumps jumps z.0 z.1))))
  ]
    where
      of_jumps : (b : Bool) (q : ℕ) → In q (cond b (targets_at m i) []) → In q (targets_at m i)
      of_jumps true q f = f
      of_jumps false q f = absurd f

  next_adds : (i : ℕ) (n : State) (next : Bool) (a c : List (Option State)) (v x : List ℕ) → AllReach p m heads (map (landing n) (cond next (suc i ∷ []) [])) a v c x → AddsBehind m i v c x
  next_adds i n next a c v x r k h = elim (r.adds k h) [
    | inl j ↦ inl j
    | inr j ↦ (
        let l = r.landed k j.0 j.1 in
        let z = in_map (landing n) (k, j.0) (cond next (suc i ∷ []) []) j.1 in
        let e : k ≡ z.0 = ap (λ (y : ℕ × State). y.0) z.2 in
        let q : z.0 ≡ suc i = in_next next z.0 i z.1 in
        inr (l.0, l.1, λ on. omega (arith, e, q)))
  ]

  told_adds : (t : Stabs) (start : ℕ) (seen : List Kind) (a c : List (Option State)) (v w : List ℕ) (told : List (Option State)) → HasTold p m heads t start seen a v told c w → AddsBehind m start v c w
  told_adds t start seen a c v w told r k h = elim (r.adds k h) [
    | inl j ↦ inl j
    | inr j ↦ (
        let l = r.told j.0 j.1 in
        inr (l.0, ap (at c) j.2 ∙ l.1, λ on. let z = on.handlers start j.0 j.1 in let e = j.2 in omega (arith, e, z)))
  ]

  pub passed : (cover : List Catch) (i : ℕ) (s n : State) (step : Step) (old seen : List Kind) (a c d : List (Option State)) (v x y : List ℕ) (o : Onward) → HasNoted p m heads cover old seen s.locals → Derivable p m i s → IsFine p m i s → Steps p m i s n step → AllReach p m heads (map (landing n) (cond step.jumps (targets_at m i) [])) a v c x → ArrivesAt p m heads step i n c x d y o → Passed p m heads cover i s n old seen a v d y o
  passed cover i s n step old seen a c d v x y Stops noted dv fine z jumped arrived =
      record {
        advances = advance_trans p _ _ (is_head heads) a c d v x y jumped.advances arrived.advances;
        adds = behind_trans i c d v x y arrived.advances (jump_adds i n step.jumps a c v x jumped) (next_adds i n step.next c d x y arrived);
        whole = arrived.whole;
        seen_is = noted.seen_is;
        rises = noted.rises;
        passes = record { fine = fine; follows = all };
      }
    where
      all : (t : ℕ) (u : State) → Follows p m i s t u → Landed p d t u ⊎ In (t, u) (map (caught_state s) (covering m i))
      all t u f = elim (follow_leads i s n step t u z f) [
        | inr k ↦ inr k
        | inl k ↦ inl (subst (λ q. Landed p d t q) (sym k.1) (elim (landed_lead i n step t c d x y arrived.advances jumped.landed k.0) [ inl l ↦ l | inr l ↦ arrived.landed t n (map_in (landing n) t (cond step.next (suc i ∷ []) []) l) ]))
      ]
  passed cover i s n step old seen a c d v x y (GoesOn w) noted dv fine z jumped arrived =
      let go = next_ready i s n step dv fine z arrived.0 in
      let same : d ≡ c = arrived.3 in
      let left : y ≡ x = arrived.4 in
      let ad : MovesState p m heads a v d y = subst (λ (ws : List ℕ). MovesState p m heads a v d ws) (sym left) (subst (λ (ss : List (Option State)). MovesState p m heads a v ss x) (sym same) jumped.advances) in
      record {
        advances = ad;
        adds = subst (λ (ws : List ℕ). AddsBehind m i v d ws) (sym left) (subst (λ (ss : List (Option State)). AddsBehind m i v ss x) (sym same) (jump_adds i n step.jumps a c v x jumped));
        whole = subst (λ (ss : List (Option State)). IsTableOpen p m ss) (sym same) jumped.whole;
        seen_is = noted.seen_is;
        rises = noted.rises;
        passes = record { fine = fine; inner = arrived.1; inside = go.inside; follows = all; derived = go.derived; wrote = subst (λ (q : Written). Wrote q s.locals n.locals) (sym arrived.2) z.locals };
      }
    where
      all : (t : ℕ) (u : State) → Follows p m i s t u → Landed p d t u ⊎ (((t ≡ suc i) × (u ≡ n)) ⊎ In (t, u) (map (caught_state s) (covering m i)))
      all t u f = elim (follow_leads i s n step t u z f) [
        | inr k ↦ inr (inr k)
        | inl k ↦ elim (landed_lead i n step t c d x x (subst (λ (ss : List (Option State)). MovesState p m heads c x ss x) (sym arrived.3) (advance_self p _ _ (is_head heads) c x)) jumped.landed k.0) [ inl l ↦ inl (subst (λ q. Landed p d t q) (sym k.1) l) | inr l ↦ inr (inl (in_next step.next t i l, k.1)) ]
      ]

  -- walks
  pub walk_init : (cover : List Catch) (start : ℕ) (s : State) (seen : List Kind) (a : List (Option State)) (v : List ℕ) → IsTableOpen p m a → start < length m.code → Derivable p m start s → cover ≡ covering m start → IsSeenFirst cover seen s.locals → IsWalking p m heads cover start s start s seen writes.Nothing a v a v
  walk_init cover start s seen a v o inside d is same = record { advances = advance_self p _ _ (is_head heads) a v; adds = λ i h. inl h; whole = o; behind = omega arith; inside = inside; derived = d; covers = is; pending = First same refl; back = λ c x g told r. r }

  pub walk_step : (cover : List Catch) (start : ℕ) (s : State) (i : ℕ) (n u : State) (old seen : List Kind) (w next : Written) (a c d : List (Option State)) (v x y : List ℕ) → AreWalkHeads m heads → IsWalking p m heads cover start s i n old w a v c x → Passed p m heads cover i n u old seen c x d y (GoesOn next) → IsWalking p m heads cover start s (i + 1) u seen next a v d y
  walk_step cover start s i n u old seen w next a c d v x y hs k r =
      let e : suc i ≡ i + 1 = omega arith in
      let on = r.passes in
      let moved : IsWalking p m heads cover start s (suc i) u seen next a v d y =
      record {
        advances = advance_trans p _ _ (is_head heads) a c d v x y k.advances r.advances;
        adds = behind_trans start c d v x y r.advances k.adds (behind_less start i x d y k.behind r.adds);
        whole = r.whole;
        behind = let z = k.behind in omega (arith, z);
        inside = on.inside;
        derived = on.derived;
        covers = k.covers ∙ covering_next m heads i hs on.inside on.inner;
        pending = Later n.locals r.seen_is.ready r.seen_is.most on.wrote;
        back = λ b z g told runs. k.back b z (advance_trans p _ _ (is_head heads) c d b x y z r.advances g) (told_down p b cover old seen r.rises told) (Goes i n u on.fine on.inner (λ t q f. elim (on.follows t q f) [
          | inl l ↦ inl (lands_on p _ _ (is_head heads) d b y z g t q l)
          | inr h ↦ elim h [ inl j ↦ inr j | inr j ↦ inl (caught_lands p b cover n seen t q r.seen_is.most told (subst (λ (xs : List Catch). In (t, q) (map (caught_state n) xs)) (sym k.covers) j)) ]
        ]) runs);
      } in
      subst (λ j. IsWalking p m heads cover start s j u seen next a v d y) e moved

  pub walk_stop : (cover : List Catch) (start : ℕ) (s : State) (i : ℕ) (n u : State) (old seen : List Kind) (w : Written) (a c d : List (Option State)) (v x y : List ℕ) → IsWalking p m heads cover start s i n old w a v c x → Passed p m heads cover i n u old seen c x d y Stops → HasPaced p m heads cover start s seen a v d y
  walk_stop cover start s i n u old seen w a c d v x y k r =
      record {
        advances = advance_trans p _ _ (is_head heads) a c d v x y k.advances r.advances;
        adds = behind_trans start c d v x y r.advances k.adds (behind_less start i x d y k.behind r.adds);
        whole = r.whole;
        ready = r.seen_is.ready;
        runs = λ b z g told. k.back b z (advance_trans p _ _ (is_head heads) c d b x y z r.advances g) (told_down p b cover old seen r.rises told) (Halts i n r.passes.fine (λ t q f. elim (r.passes.follows t q f) [
          | inl l ↦ lands_on p _ _ (is_head heads) d b y z g t q l
          | inr j ↦ caught_lands p b cover n seen t q r.seen_is.most told (subst (λ (xs : List Catch). In (t, q) (map (caught_state n) xs)) (sym k.covers) j)
        ]));
      }

  pub walked_all : (t : Stabs) (start : ℕ) (s : State) (seen : List Kind) (a c d : List (Option State)) (v w x : List ℕ) (told : List (Option State)) → HasPaced p m heads (covering m start) start s seen a v c w → HasTold p m heads t start seen c w told d x → HasWalked p m heads start s a v d x × AreHandlersTold p m heads t told d
  walked_all t start s seen a c d v w x told paced now = (
    record {
      advances = advance_trans p _ _ (is_head heads) a c d v w x paced.advances now.advances;
      adds = behind_trans start c d v w x now.advances paced.adds (told_adds t start seen c d w x told now);
      whole = now.whole;
      runs = paced.runs d x now.advances now.told;
    },
    now.kept,
  )

  pub visit_none : (t : Stabs) (told a : List (Option State)) (i : ℕ) (v : List ℕ) → IsUnderWay p m (is_head heads) a (i ∷ v) → at a i ≡ None → AreHandlersTold p m heads t told a → HasTurned p m heads i a v a v × AreHandlersTold p m heads t told a
  visit_none t told a i v u e k = (record { under_way = turn p m (rank_of_state (layouts p)) (top_rank (layouts p) m) (is_head heads) a a i v v u (advance_self p _ _ (is_head heads) a v) (λ s q. absurd cc) u.derived; advances = advance_self p _ _ (is_head heads) a v; adds = λ j h. inl h; falls = omega arith }, k)

  pub visit_walked : (t : Stabs) (told a c : List (Option State)) (i : ℕ) (s n : State) (v w : List ℕ) → IsUnderWay p m (is_head heads) a (i ∷ v) → at a i ≡ Some s → n ≡ s → HasWalked p m heads i n a v c w × AreHandlersTold p m heads t told c → HasTurned p m heads i a v c w × AreHandlersTold p m heads t told c
  visit_walked t told a c i s n v w u e same r = (
    record {
      under_way = turn p m (rank_of_state (layouts p)) (top_rank (layouts p) m) (is_head heads) a c i v w u r.0.advances (λ q f. let z : n ≡ q = (let y : Some s ≡ Some q = sym e ∙ f in let x : s ≡ q = cc in same ∙ x) in subst (λ x. RunsOn p m (is_head heads) c i x) z r.0.runs) r.0.whole.derived;
      advances = r.0.advances;
      adds = r.0.adds;
      falls = r.0.advances.falls;
    },
    r.1,
  )

  pub is_whole : (a : List (Option State)) (v : List ℕ) → IsUnderWay p m (is_head heads) a v → IsTableOpen p m a
  is_whole a v u = record { long = u.long; derived = u.derived }

  pub state_inside : (a : List (Option State)) (i : ℕ) (s : State) → length a ≡ length m.code → slice_get a i ≡ Some (Some s) → i < length m.code
  state_inside a i s e h = elim (cases_lt i (length a)) [ inl lt ↦ omega arith | inr le ↦ absurd (let z = slice_get_past a i le in cc) ]

pub no_code : (p : LinkedFile) (m : Routine) → length m.code ≡ 0 → Refutes p m 0 OffEnd
no_code p m e = Broken (entry m) OffEnd Entry (ap (at_instr p m 0 (early_rules ++ late_rules) (entry m)) (slice_get_past m.code 0 (omega arith)))

-- what waits may stand in any order
pub waits_by : (p : LinkedFile) (m : Routine) (head : ℕ → Bool) (a : List (Option State)) (v w : List ℕ) → IsUnderWay p m head a v → ((i : ℕ) → In i v → In i w) → IsUnderWay p m head a w
waits_by p m head a v w u f = record { long = u.long; start = u.start; settled = λ i s e. elim (u.settled i s e) [ inl h ↦ inl (f i h) | inr h ↦ inr h ]; derived = u.derived; heads = u.heads }

pub waits_first : (p : LinkedFile) (m : Routine) (head : ℕ → Bool) (a : List (Option State)) (t : ℕ) (v w : List ℕ) → IsUnderWay p m head a (t ∷ []) → IsPlaceAdded t v w → IsUnderWay p m head a w
waits_first p m head a t v w u r = waits_by p m head a (t ∷ []) w u only
  where
    only : (i : ℕ) → In i (t ∷ []) → In i w
    only i (inl q) = subst (λ (x : ℕ). In x w) (sym q) r.has
    only i (inr h) = absurd h
