-- What is sound stays so in a heap that grew.
use Rattle.std.proofs.Common.{◌≡◌, ℕ, List, [], ◌∷◌, refl, sym, ap, ◌∙◌}
use Rattle.std.specs.Prelude.{Some, None}
use Rattle.std.specs.declared.option.Option.{Option}
use Rattle.abc_heap_values.specs.declared.values.ObjId.{ObjId}
use Rattle.abc_heap_values.specs.declared.values.Value.{Value}
use Rattle.abc_heap_values.specs.declared.values.Value.TheVariants.{Obj}
use Rattle.abc_heap_store.specs.Heap.{Heap, Object}
use Rattle.abc_heap_store.specs.declared.records.ScopeEntry.{ScopeEntry}
use Rattle.abc_heap_store.specs.declared.records.What.{What}
use Rattle.abc_heap_store.specs.declared.records.What.TheVariants as whats
use Rattle.abc_objects.specs.Values.{Exists}
use Rattle.abc_objects.proofs.Grown.{exists_grown, grows_on, grows_self, holds_grown, scope_grown}
use Rattle.abc_link_names.specs.Linked.{LinkedFile, layout_of}
use Rattle.abc_link_names.specs.Numbering.{part_at}
use Rattle.abc_link_names.specs.declared.part.Part.{Part}
use Rattle.abc_link_names.specs.declared.part.Part.TheVariants as parts
use Rattle.abc_link_names.specs.declared.types.Kind.{Kind}
use Rattle.abc_link_names.specs.declared.types.Kind.TheVariants.{Any}
use Rattle.abc_link_names.specs.declared.types.SlotInfo.{SlotInfo}
use Rattle.abc_verify_typing.specs.Lists.{Each, Each2}
use Rattle.abc_verify_typing.specs.Typing.{ScopeLe, StateLe}
use Rattle.abc_verify_typing.specs.declared.state.Scope.{Scope}
use Rattle.abc_verify_typing.specs.declared.state.State.{State}
use Rattle.abc_verify_typing.proofs.Lists.{Each-map, Each2-map}
use Rattle.abc_frames.specs.Frame.{Frame}
use Rattle.abc_meaning.specs.Setting.{Setting}
use Rattle.abc_frames.specs.declared.records.Wait.{Wait}
use Rattle.abc_frames.specs.declared.records.Wait.TheVariants as waits
use Rattle.abc_meaning.specs.At.{next_frame, after_pushes}
use Rattle.abc_meaning.specs.Sound.{AreClassesMade, FrameSound, IsBound, IsCatching, IsFirstOf, HasClassMade, IsOfKind, IsOfState, IsFrameTyped, IsTypedPushed, ObjectSound, PartSound, ScopeHolds, SlotHolds, FrameStands, Typings, WaitSound, WaitingSound, WhatSound}
use Rattle.abc_meaning.proofs.ValueKinds.{kind_up, kinds_up}
use Rattle.abc_meaning_sound.specs.Keeping.{Evolves}

pub evolves_self : (h : Heap) → Evolves h h
evolves_self h = record { grows = grows_self h; classes = λ k o e. e; limits = refl }

pub evolves_on : (a b c : Heap) → Evolves a b → Evolves b c → Evolves a c
evolves_on a b c p q = record { grows = grows_on a b c p.grows q.grows; classes = λ k o e. q.classes k o (p.classes k o e); limits = q.limits ∙ p.limits }

module _ (p : Setting) (a b : Heap) (g : Evolves a b) where
  pub value_on : (v : Value) → Exists p.linked a v → Exists p.linked b v
  value_on v e = exists_grown p.linked a b v g.grows e

  pub kind_on : (k : Kind) (v : Value) → IsOfKind p.linked a k v → IsOfKind p.linked b k v
  kind_on k v h = record { exists = exists_grown p.linked a b v g.grows h.exists; kind = holds_grown p.linked a b k v g.grows h.kind }

  pub values_on : (vs : List Value) → Each (Exists p.linked a) vs → Each (Exists p.linked b) vs
  values_on vs h = Each-map (Exists p.linked a) (Exists p.linked b) value_on vs h

  pub kinds_on : (ks : List Kind) (vs : List Value) → Each2 (IsOfKind p.linked a) ks vs → Each2 (IsOfKind p.linked b) ks vs
  kinds_on ks vs h = Each2-map (IsOfKind p.linked a) (IsOfKind p.linked b) kind_on ks vs h

  pub scope_on : (s : Scope) (e : ScopeEntry) → ScopeHolds p.linked a s e → ScopeHolds p.linked b s e
  scope_on s e h = record { object = kind_on s.kind (Obj e.object) h.object; flag = h.flag }

  pub scopes_on : (ss : List Scope) (es : List ScopeEntry) → Each2 (ScopeHolds p.linked a) ss es → Each2 (ScopeHolds p.linked b) ss es
  scopes_on ss es h = Each2-map (ScopeHolds p.linked a) (ScopeHolds p.linked b) scope_on ss es h

  pub state_on : (s : State) (f : Frame) → IsOfState p.linked a s f → IsOfState p.linked b s f
  state_on s f h = record { stack = kinds_on s.stack f.stack h.stack; scopes = scopes_on s.scopes f.scopes h.scopes; locals = kinds_on s.locals f.locals h.locals }

  pub stands_on : (f : Frame) → FrameStands p a f → FrameStands p b f
  stands_on f s = record { routine = s.routine; body = s.body; home = s.home; saved = scope_grown a b f.saved g.grows s.saved; locals = s.locals; stack = s.stack; scopes = s.scopes }

  module _ (typings : Typings) where
    pub typed_on : (f : Frame) → IsFrameTyped p typings a f → IsFrameTyped p typings b f
    typed_on f t = record { state = t.state; typed = t.typed; is = state_on t.state f t.is }

    pub pushed_on : (f : Frame) → IsTypedPushed p typings a f → IsTypedPushed p typings b f
    pushed_on f t = record { state = t.state; typed = t.typed; top = t.top; rest = t.rest; stack = t.stack; any = t.any; is = state_on (record t.state { stack = t.rest }) f t.is }

    pub wait_on : (f : Frame) (x : Wait) → WaitSound p typings a f x → WaitSound p typings b f x
    wait_on f waits.Push h = pushed_on f h
    wait_on f waits.Drop h = typed_on (next_frame f) h
    wait_on f (waits.Keep v) h = typed_on (after_pushes (v ∷ []) f) h
    wait_on f waits.Again h = typed_on f h
    wait_on f (waits.New n) h = record { there = h.there; exist = values_on _ h.exist; typed = pushed_on _ h.typed }
    wait_on f waits.Not h = h

    pub frame_on : (f : Frame) → FrameSound p typings a f → FrameSound p typings b f
    frame_on f h = record { stands = stands_on f h.stands; idle = h.idle; typed = typed_on f h.typed }

    pub catching_on : (f : Frame) → IsCatching p typings a f → IsCatching p typings b f
    catching_on f c = record { state = c.state; typed = c.typed; locals = kinds_on c.state.locals f.locals c.locals }

    pub waiting_on : (f : Frame) → WaitingSound p typings a f → WaitingSound p typings b f
    waiting_on f h = record { stands = stands_on f h.stands; catches = catching_on f h.catches; waits = wait_on f f.wait h.waits }

    pub all_waiting_on : (fs : List Frame) → Each (WaitingSound p typings a) fs → Each (WaitingSound p typings b) fs
    all_waiting_on fs h = Each-map (WaitingSound p typings a) (WaitingSound p typings b) waiting_on fs h

  -- ---- objects

  made_on : (k : ℕ) → HasClassMade a k → HasClassMade b k
  made_on k h = (h.0, g.classes k h.0 h.1)

  pub all_made_on : (k : ℕ) → AreClassesMade p.linked a k → AreClassesMade p.linked b k
  all_made_on k h = record { own = made_on k h.own; bases = λ j way. made_on j (h.bases j way) }

  pub part_on : (x : Part) → PartSound p.linked a x → PartSound p.linked b x
  part_on (parts.Instance k) h = (h.0, all_made_on k h.1)
  part_on (parts.ClassObject k) h = all_made_on k h
  part_on (parts.Host c) h = tt
  part_on (parts.HostClassObject c) h = tt
  part_on (parts.Global s) h = tt
  part_on (parts.Activation i) h = tt
  part_on (parts.Catch i e) h = tt

  bound_on : (n : ℕ) (o : Option ObjId) → IsBound p.linked a n o → IsBound p.linked b n o
  bound_on n None h = h
  bound_on n (Some o) h = kind_on _ (Obj o) h

  pub what_on : (x : ℕ) (what : What) → WhatSound p a x what → WhatSound p b x what
  what_on x (whats.Closure n home scope bound) h = record { routine = h.routine; body = h.body; bound_to = bound_on n bound h.bound_to }
  what_on x (whats.ClassObject k home statics instances) h = h
  what_on x whats.Plain h = tt
  what_on x (whats.HostClass c) h = tt
  what_on x whats.Trace h = tt
  what_on x (whats.Formula n) h = tt
  what_on x whats.HostObject h = tt
  what_on x (whats.Global s) h = tt
  what_on x whats.Activation h = tt
  what_on x whats.Catch h = tt
  what_on x whats.Array h = tt

  slot_on : (s : SlotInfo) (v : Value) → SlotHolds p.linked a s v → SlotHolds p.linked b s v
  slot_on s v h = kind_on _ v h

  pub slots_on : (ss : List SlotInfo) (vs : List Value) → Each2 (SlotHolds p.linked a) ss vs → Each2 (SlotHolds p.linked b) ss vs
  slots_on ss vs h = Each2-map (SlotHolds p.linked a) (SlotHolds p.linked b) slot_on ss vs h

  pub object_on : (ob : Object) → ObjectSound p a ob → ObjectSound p b ob
  object_on ob h = record { slots = slots_on _ ob.slots h.slots; what = what_on ob.layout ob.what h.what; part = part_on _ h.part; first_of = h.first_of }

-- ---- layouts

pub first_is : (l : LinkedFile) (q : Part) → part_at l.parts (layout_of l q).0 ≡ q → IsFirstOf l (layout_of l q).0
first_is l q e = sym (ap (λ (r : Part). (layout_of l r).0) e)

-- ---- kinds rise

pub any_kind : (l : LinkedFile) (h : Heap) (v : Value) → Exists l h v → IsOfKind l h Any v
any_kind l h v e = record { exists = e; kind = tt }

pub scopes_up : (l : LinkedFile) (h : Heap) (ss ts : List Scope) (es : List ScopeEntry) → Each2 (ScopeLe l) ss ts → Each2 (ScopeHolds l h) ss es → Each2 (ScopeHolds l h) ts es
scopes_up l h [] [] es a b = b
scopes_up l h (s ∷ ss) (t ∷ ts) (e ∷ es) a b = (record { object = kind_up l h s.kind t.kind (Obj e.object) a.0.kind b.0.object; flag = sym a.0.flag ∙ b.0.flag }, scopes_up l h ss ts es a.1 b.1)
scopes_up l h [] (t ∷ ts) es a b = absurd a
scopes_up l h (s ∷ ss) [] es a b = absurd a
scopes_up l h (s ∷ ss) (t ∷ ts) [] a b = absurd b

pub state_up : (l : LinkedFile) (h : Heap) (s t : State) (f : Frame) → StateLe l s t → IsOfState l h s f → IsOfState l h t f
state_up l h s t f le b = record { stack = kinds_up l h s.stack t.stack f.stack le.stack b.stack; scopes = scopes_up l h s.scopes t.scopes f.scopes le.scopes b.scopes; locals = kinds_up l h s.locals t.locals f.locals le.locals b.locals }
