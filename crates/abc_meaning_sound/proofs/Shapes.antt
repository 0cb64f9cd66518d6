-- The shapes of acts: what an opcode has to show, by its row.
use Rattle.std.proofs.Common.{◌≡◌, inl, ℕ, ◌+◌, ◌≤◌, ◌<◌, List, [], ◌∷◌, ◌++◌, length, drop, refl, sym, ap, ◌∙◌, subst, arith, length-append, length-drop}
use Rattle.std.specs.Prelude.{Bool, true, false, cond, flat_map, map, Some}
use Rattle.std.specs.declared.option.Option.{Option}
use Rattle.std.proofs.lemmas.Bool.{leb-true}
use Rattle.std.proofs.lemmas.List.{length-map}
use Rattle.abc_heap_values.specs.declared.values.Value.{Value}
use Rattle.abc_objects.specs.Stands.{IsScope}
use Rattle.abc_objects.specs.Values.{Exists}
use Rattle.abc_objects.proofs.Grown.{scope_grown}
use Rattle.abc_link_names.specs.Kinds.{IsAtMost}
use Rattle.abc_link_names.specs.declared.types.Kind.{Kind}
use Rattle.abc_link_names.specs.declared.types.Kind.TheVariants.{Any}
use Rattle.abc_verify_typing.specs.Instructions.{operand}
use Rattle.abc_verify_typing.specs.Rows.{Shape}
use Rattle.abc_verify_typing.specs.declared.row.Leads.TheVariants.{Next}
use Rattle.abc_verify_typing.specs.declared.row.Need.{Need}
use Rattle.abc_verify_typing.specs.declared.row.Need.TheVariants as needed
use Rattle.abc_verify_typing.specs.declared.row.RowKind.TheVariants as rows
use Rattle.abc_verify_typing.specs.declared.row.Scoping.TheVariants.{Stays as SameScopes}
use Rattle.abc_verify_typing.specs.declared.row.Source.{Source}
use Rattle.abc_verify_typing.specs.declared.row.Source.TheVariants.{Fixed}
use Rattle.abc_file_types.specs.declared.code.Instr.{Instr}
use Rattle.abc_file_types.specs.declared.names.Multiname.{Multiname}
use Rattle.abc_verify_typing.specs.Effects.{Here, args, caught_state, covering, depth, goes_on_after, kind_of_source, leads, locals_after, multiname_at, needs, runtime, scopes_after, stack_below, parts_of_need, states_after as after_state, state_behind as next_state}
use Rattle.abc_verify_typing.specs.Lists.{Each, Each2}
use Rattle.abc_verify_typing.specs.Routines.{Routine}
use Rattle.abc_verify_typing.specs.Rules.{after_instr, after_row}
use Rattle.abc_verify_typing.specs.Standing.{IsWithinSizes, Stands as Standing, here_with}
use Rattle.abc_verify_typing.specs.Typing.{Follows, In, StateLe}
use Rattle.abc_verify_typing.specs.declared.rule.VerifyRule.TheVariants.{StackUnder}
use Rattle.abc_verify_typing.specs.declared.state.State.{State}
use Rattle.abc_verify_typing.proofs.Lists.{Each-reverse, Each2-append, Each2-drop, Each2-left, Each2-length, Each2-take}
use Rattle.abc_verify_typing.proofs.Member.{in_left, map_in}
use Rattle.abc_verify_typing.proofs.Sized.{next_sized}
use Rattle.abc_meaning.specs.Calling.{Came}
use Rattle.abc_frames.specs.Frame.{Frame}
use Rattle.abc_meaning.specs.Setting.{Setting}
use Rattle.abc_meaning.specs.World.{Run, World}
use Rattle.abc_frames.specs.declared.records.Wait.TheVariants as waits
use Rattle.abc_meaning.specs.At.{ActCase, drops_came, gives_pushed, gives_came, goes, jumps, next_frame, does_nothing, after_pushes, waiting_frame}
use Rattle.abc_meaning.specs.Sound.{AreTypings, FrameSound, IsCatching, IsOfKind, IsOfState, IsTypedPushed, ScopeHolds, FrameStands, Typings}
use Rattle.abc_meaning.specs.Tests.{at_frame}
use Rattle.abc_meaning.proofs.ValueKinds.{kinds_up}
use Rattle.abc_meaning_sound.specs.Given.{FileGiven}
use Rattle.abc_meaning_sound.specs.Keeping.{ActSound, CameSound, Fares, LeavesSound, Ready}
use Rattle.abc_meaning_sound.proofs.Faring.{done_fares, leaves_self, leaves_trans, then_fares}
use Rattle.abc_meaning_sound.proofs.Growing.{kinds_on, scopes_on, scopes_up, state_up}
use Rattle.abc_meaning_sound.proofs.Settled.{dropping_sound, pushing_sound}

-- no slot is taken: an instruction that is run is left
abbrev pub unslotted : List Need → Bool
unslotted [] = true
unslotted (needed.Slotted ∷ ns) = false
unslotted (need ∷ ns) = unslotted ns

pub unslotted_left : (ns : List Need) (ks : List Kind) → unslotted ns ≡ true → goes_on_after ns ks ≡ true
unslotted_left [] ks e = refl
unslotted_left (n ∷ ns) [] e = grind arith
unslotted_left (needed.Slotted ∷ ns) (k ∷ ks) e = absurd cc
unslotted_left (n ∷ ns) (k ∷ ks) e = unslotted_left ns ks e

unslotted_both : (xs ys : List Need) → unslotted xs ≡ true → unslotted ys ≡ true → unslotted (xs ++ ys) ≡ true
unslotted_both [] ys a b = b
unslotted_both (needed.Slotted ∷ xs) ys a b = absurd cc
unslotted_both (x ∷ xs) ys a b = unslotted_both xs ys a b

unslotted_parts : (o : Option Multiname) → unslotted (runtime o) ≡ true
unslotted_parts o = grind arith

pub unslotted_unfolded : (o : Option Multiname) (ns : List Need) → unslotted ns ≡ true → unslotted (flat_map (parts_of_need (runtime o)) ns) ≡ true
unslotted_unfolded o [] e = refl
unslotted_unfolded o (needed.Runtime ∷ ns) e = unslotted_both (runtime o) _ (unslotted_parts o) (unslotted_unfolded o ns e)
unslotted_unfolded o (needed.Slotted ∷ ns) e = absurd cc
unslotted_unfolded o (n ∷ ns) e = unslotted_unfolded o ns e

-- a frame of the same method that goes on at a place
pub record GoesAt (f : Frame) (t : ℕ) (g : Frame) : Type 0 where
  pub method : g.method ≡ f.method
  pub home : g.home ≡ f.home
  pub saved : g.saved ≡ f.saved
  pub place : g.place ≡ t
  pub wait : g.wait ≡ f.wait

module _ (p : Setting) (file : FileGiven p) (typings : Typings) (typed : AreTypings p typings) (w : World) (f : Frame) (r : Routine) (s : State) (instr : Instr) (row : Shape) (ready : Ready p typings w f r s instr row) where
  abbrev pub h : Here
  h = here_with p.linked r f.place instr row

  abbrev pub a : ActCase
  a = at_frame p h f

  abbrev standing : Standing p.linked r f.place s
  standing = record {
    instr = instr;
    row = row;
    at = ready.at;
    is = ready.row_is;
    kept = ready.kept;
    follows_is = ap (λ o. after_instr p.linked r f.place s o ++ map (caught_state s) (covering r f.place)) ready.at ∙ ap (λ o. after_row p.linked r f.place instr s o ++ map (caught_state s) (covering r f.place)) ready.row_is;
  }

  pub sized_next : IsWithinSizes r (next_state h s)
  sized_next = next_sized p.linked r f.place s standing ready.sized

  follows_it : (t : ℕ) → In t (leads h row.leads) → goes_on_after (needs h) (stack_below h s) ≡ true → Follows p.linked r f.place s t (next_state h s)
  follows_it t k e =
      let there : In {X = ℕ × State} (t, next_state h s) (after_state h s) = subst (λ b. In {X = ℕ × State} (t, next_state h s) (cond b (map (λ i. (i, next_state h s)) (leads h row.leads)) [])) (sym e) (map_in (λ i. (i, next_state h s)) t (leads h row.leads) k) in
      subst (In {X = ℕ × State} (t, next_state h s)) (sym standing.follows_is) (in_left (t, next_state h s) (after_state h s) (map (caught_state s) (covering r f.place)) there)

  pub stack_left : (n : World) → LeavesSound p w n → Each2 (IsOfKind p.linked n.heap) (drop (depth h) s.stack) (drop (depth h) f.stack)
  stack_left n l = Each2-drop (IsOfKind p.linked n.heap) (depth h) s.stack f.stack (kinds_on p w.heap n.heap l.grows s.stack f.stack ready.is.stack)

  pub scopes_left : (n : World) → LeavesSound p w n → Each2 (ScopeHolds p.linked n.heap) s.scopes f.scopes
  scopes_left n l = scopes_on p w.heap n.heap l.grows s.scopes f.scopes ready.is.scopes

  pub locals_left : (n : World) → LeavesSound p w n → Each2 (IsOfKind p.linked n.heap) s.locals f.locals
  locals_left n l = kinds_on p w.heap n.heap l.grows s.locals f.locals ready.is.locals

  pub saved_left : (n : World) → LeavesSound p w n → IsScope n.heap f.saved
  saved_left n l = scope_grown w.heap n.heap f.saved l.grows.grows ready.saved

  pub catching_left : (n : World) → LeavesSound p w n → IsCatching p typings n.heap a.rest
  catching_left n l = record { state = s; typed = ready.typed; locals = locals_left n l }

  -- the frame goes on at a place to which the row leads, with the kinds that the row gives
  pub moves_to : (n : World) → LeavesSound p w n → (g : Frame) (t : ℕ) → In t (leads h row.leads) → goes_on_after (needs h) (stack_below h s) ≡ true → GoesAt f t g → IsOfState p.linked n.heap (next_state h s) g → FrameSound p typings n.heap g
  moves_to n l g t k e same is =
      let u = (typed f.method r ready.body).follows f.place s t (next_state h s) ready.typed (follows_it t k e) in
      let z = sized_next in
      let deep = z.stack in
      let stack = Each2-length (IsOfKind p.linked n.heap) (next_state h s).stack g.stack is.stack in
      let high = z.scopes in
      let scopes = Each2-length (ScopeHolds p.linked n.heap) (next_state h s).scopes g.scopes is.scopes in
      let idle : g.wait ≡ waits.Not = same.wait ∙ ready.idle in
      record {
        stands = record {
          routine = r;
          body = ap (Rattle.abc_meaning.specs.Setting.routine_of p) same.method ∙ ready.body;
          home = subst (λ i. i < length p.linked.file.scripts) (sym same.home) ready.home;
          saved = subst (IsScope n.heap) (sym same.saved) (saved_left n l);
          locals = sym (Each2-length (IsOfKind p.linked n.heap) (next_state h s).locals g.locals is.locals) ∙ z.locals;
          stack = subst (λ x. length g.stack + Rattle.abc_meaning.specs.Sound.put_by_return x ≤ r.max_stack + Rattle.abc_meaning.specs.Sound.taken_by_return x) (sym idle) (omega (arith, deep, stack));
          scopes = omega (arith, high, scopes);
        };
        idle = idle;
        typed = record { state = u.0; typed = ap (λ m. typings m g.place) same.method ∙ ap (typings f.method) same.place ∙ u.1; is = state_up p.linked n.heap (next_state h s) u.0 g u.2 is };
      }

  -- what is taken
  pub enough : length (needs h) ≤ length (stack_below h s)
  enough = let e = leb-true _ _ (ready.kept StackUnder) in let d = length-drop (args h) s.stack in omega (arith, e, d)

  pub below_holds : Each2 (IsOfKind p.linked w.heap) (stack_below h s) (drop (args h) f.stack)
  below_holds = Each2-drop (IsOfKind p.linked w.heap) (args h) s.stack f.stack ready.is.stack

  pub args_exist : Each (Exists p.linked w.heap) a.args
  args_exist = Each-reverse (Exists p.linked w.heap) _ (Each2-left (IsOfKind p.linked w.heap) (Exists p.linked w.heap) (λ k v x. x.exists) _ _ (Each2-take (IsOfKind p.linked w.heap) (args h) s.stack f.stack ready.is.stack))

  -- nothing but the stack changes
  pub record KeepsRow : Type 0 where
    pub unslotted : unslotted row.takes ≡ true
    pub scoping : row.scoping ≡ SameScopes
    pub locals : (t : State) → locals_after h t row.locals ≡ t.locals

  pub left_so : KeepsRow → goes_on_after (needs h) (stack_below h s) ≡ true
  left_so k = unslotted_left (needs h) (stack_below h s) (unslotted_unfolded (multiname_at p.linked (operand instr)) row.takes k.unslotted)

  scopes_kept : KeepsRow → (n : World) → LeavesSound p w n → Each2 (ScopeHolds p.linked n.heap) (next_state h s).scopes f.scopes
  scopes_kept k n l = subst (λ x. Each2 (ScopeHolds p.linked n.heap) (scopes_after h s x) f.scopes) (sym k.scoping) (scopes_left n l)

  locals_kept : KeepsRow → (n : World) → LeavesSound p w n → Each2 (IsOfKind p.linked n.heap) (next_state h s).locals f.locals
  locals_kept k n l = subst (λ ks. Each2 (IsOfKind p.linked n.heap) ks f.locals) (sym (k.locals s)) (locals_left n l)

  -- values are pushed of the kinds that the row gives
  pub given_state : KeepsRow → (n : World) → LeavesSound p w n → (vs : List Value) → Each2 (IsOfKind p.linked n.heap) (map (kind_of_source h s) row.gives) vs → IsOfState p.linked n.heap (next_state h s) (after_pushes vs a.rest)
  given_state k n l vs e = record {
    stack = Each2-append (IsOfKind p.linked n.heap) (map (kind_of_source h s) row.gives) vs (drop (depth h) s.stack) (drop (depth h) f.stack) e (stack_left n l);
    scopes = scopes_kept k n l;
    locals = locals_kept k n l;
  }

  pub record IsPlainRow : Type 0 where
    pub keeps : KeepsRow
    pub leads : row.leads ≡ Next

  leads_on : IsPlainRow → In (f.place + 1) (leads h row.leads)
  leads_on k = subst (λ x. In (f.place + 1) (leads h x)) (sym k.leads) (inl refl)

  pub goes_plain : IsPlainRow → (n : World) → LeavesSound p w n → (vs : List Value) → Each2 (IsOfKind p.linked n.heap) (map (kind_of_source h s) row.gives) vs → FrameSound p typings n.heap (after_pushes vs a.rest)
  goes_plain k n l vs e = moves_to n l (after_pushes vs a.rest) (f.place + 1) (leads_on k) (left_so k.keeps) (record { method = refl; home = refl; saved = refl; place = refl; wait = refl }) (given_state k.keeps n l vs e)

  pub gives_sound : IsPlainRow → (source : Source) → row.gives ≡ source ∷ [] → (m : ActCase → Run Value) → Fares p w (m a w) (λ n v. IsOfKind p.linked n.heap (kind_of_source h s source) v) → Fares p w (gives_pushed m a w) (ActSound p typings f)
  gives_sound k source e m go = then_fares p w (m a w) _ _ _ go (λ n v l hv. done_fares p n _ _ l.sound (refl, goes_plain k n l (v ∷ []) (subst (λ x. Each2 (IsOfKind p.linked n.heap) (map (kind_of_source h s) x) (v ∷ [])) (sym e) (hv, tt))))

  pub nothing_sound : IsPlainRow → row.gives ≡ [] → Fares p w (does_nothing a w) (ActSound p typings f)
  nothing_sound k e = done_fares p w _ _ ready.world (refl, goes_plain k w (leaves_self p w ready.world) [] (subst (λ x. Each2 (IsOfKind p.linked w.heap) (map (kind_of_source h s) x) []) (sym e) tt))

  -- a place that is named, or the next
  pub goes_to : KeepsRow → row.gives ≡ [] → (t : ℕ) → In t (leads h row.leads) → (n : World) → LeavesSound p w n → Fares p n (goes (jumps t a.rest) n) (ActSound p typings f)
  goes_to k e t i n l = done_fares p n _ _ l.sound (
    refl,
    moves_to n l (jumps t a.rest) t i (left_so k) (record { method = refl; home = refl; saved = refl; place = refl; wait = refl })
        (record { stack = subst (λ x. Each2 (IsOfKind p.linked n.heap) (map (kind_of_source h s) x ++ drop (depth h) s.stack) (drop (depth h) f.stack)) (sym e) (stack_left n l); scopes = scopes_kept k n l; locals = locals_kept k n l }),
  )

  -- ---- what a read, a call or a new comes to

  -- room for what is pushed
  pub rest_stands : (source : Source) → row.gives ≡ source ∷ [] → KeepsRow → (n : World) → LeavesSound p w n → FrameStands p n.heap (waiting_frame waits.Push a.rest)
  rest_stands source e k n l =
      let z = sized_next in
      let deep = z.stack in
      let one : length row.gives ≡ 1 = ap length e in
      let given = length-map row.gives (kind_of_source h s) in
      let both = length-append (map (kind_of_source h s) row.gives) (drop (depth h) s.stack) in
      let stack = Each2-length (IsOfKind p.linked n.heap) (drop (depth h) s.stack) (drop (depth h) f.stack) (stack_left n l) in
      let high = z.scopes in
      let scopes = Each2-length (ScopeHolds p.linked n.heap) (next_state h s).scopes f.scopes (scopes_kept k n l) in
      record { routine = r; body = ready.body; home = ready.home; saved = saved_left n l; locals = sym (Each2-length (IsOfKind p.linked n.heap) (next_state h s).locals f.locals (locals_kept k n l)) ∙ z.locals; stack = omega (arith, deep, one, given, both, stack); scopes = omega (arith, high, scopes) }

  -- with any value pushed, the frame is of the kinds of the next place
  pub rest_pushed : IsPlainRow → row.gives ≡ Fixed rows.Any ∷ [] → (n : World) → LeavesSound p w n → IsTypedPushed p typings n.heap a.rest
  rest_pushed k e n l =
      let u = (typed f.method r ready.body).follows f.place s (f.place + 1) (next_state h s) ready.typed (follows_it (f.place + 1) (leads_on k) (left_so k.keeps)) in
      let given : (next_state h s).stack ≡ Any ∷ drop (depth h) s.stack = ap (λ x. map (kind_of_source h s) x ++ drop (depth h) s.stack) e in
      go u.0 u.1 u.2 u.0.stack refl (subst (λ ks. Each2 (IsAtMost p.linked) ks u.0.stack) given u.2.stack)
    where
      go : (u : State) → typings f.method (f.place + 1) ≡ Some u → StateLe p.linked (next_state h s) u → (ks : List Kind) → u.stack ≡ ks → Each2 (IsAtMost p.linked) (Any ∷ drop (depth h) s.stack) ks → IsTypedPushed p typings n.heap a.rest
      go u at le [] q z = absurd z
      go u at le (x ∷ xs) q z = record { state = u; typed = at; top = x; rest = xs; stack = q; any = z.0; is = record { stack = kinds_up p.linked n.heap (drop (depth h) s.stack) xs _ z.1 (stack_left n l); scopes = scopes_up p.linked n.heap _ _ _ le.scopes (scopes_kept k.keeps n l); locals = kinds_up p.linked n.heap _ _ _ le.locals (locals_kept k.keeps n l) } }

  pub came_sound : IsPlainRow → row.gives ≡ Fixed rows.Any ∷ [] → (m : ActCase → Run Came) → Fares p w (m a w) (CameSound p typings) → Fares p w (gives_came m a w) (ActSound p typings f)
  came_sound k e m go = then_fares p w (m a w) _ _ _ go (λ n x l hx. done_fares p n _ _ l.sound (pushing_sound p file typings typed n a.rest x ready.idle (rest_stands (Fixed rows.Any) e k.keeps n l) (catching_left n l) (rest_pushed k e n l) hx))

  -- the same in a later world
  pub came_at : IsPlainRow → row.gives ≡ Fixed rows.Any ∷ [] → (n : World) → LeavesSound p w n → (m : ActCase → Run Came) → Fares p n (m a n) (CameSound p typings) → Fares p n (gives_came m a n) (ActSound p typings f)
  came_at k e n l m go = then_fares p n (m a n) _ _ _ go (λ i x l' hx. let z = leaves_trans p w n i l l' in done_fares p i _ _ l'.sound (pushing_sound p file typings typed i a.rest x ready.idle (rest_stands (Fixed rows.Any) e k.keeps i z) (catching_left i z) (rest_pushed k e i z) hx))

  -- dropped, the frame is of the kinds of the next place
  rest_frame : IsPlainRow → row.gives ≡ [] → (n : World) → LeavesSound p w n → FrameSound p typings n.heap (next_frame a.rest)
  rest_frame k e n l = goes_plain k n l [] (subst (λ x. Each2 (IsOfKind p.linked n.heap) (map (kind_of_source h s) x) []) (sym e) tt)

  pub dropped_sound : IsPlainRow → row.gives ≡ [] → (m : ActCase → Run Came) → Fares p w (m a w) (CameSound p typings) → Fares p w (drops_came m a w) (ActSound p typings f)
  dropped_sound k e m go = then_fares p w (m a w) _ _ _ go (λ n x l hx.
      let g = rest_frame k e n l in
      let room = g.stands.stack in
      done_fares p n _ _ l.sound (dropping_sound p file typings typed n a.rest x ready.idle
      (record { routine = g.stands.routine; body = g.stands.body; home = g.stands.home; saved = g.stands.saved; locals = g.stands.locals; stack = room; scopes = g.stands.scopes })
      (record { routine = g.stands.routine; body = g.stands.body; home = g.stands.home; saved = g.stands.saved; locals = g.stands.locals; stack = subst (λ x. length (drop (depth h) f.stack) + Rattle.abc_meaning.specs.Sound.put_by_return x ≤ g.stands.routine.max_stack + Rattle.abc_meaning.specs.Sound.taken_by_return x) ready.idle room; scopes = g.stands.scopes })
      (catching_left n l) g.typed hx))
