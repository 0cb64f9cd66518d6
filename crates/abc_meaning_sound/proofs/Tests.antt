-- No test fails where the kinds are as the rules ask.
use Rattle.std.proofs.Common.{◌≡◌, ℕ, zero, suc, ◌+◌, ◌-◌, ◌<◌, List, [], ◌∷◌, length, drop, refl, sym, ap, ◌∙◌, subst, arith}
use Rattle.std.specs.Prelude.{true, is_some, nat_le, nat_lt, slice_get, Some, None}
use Rattle.std.specs.declared.option.Option.{Option}
use Rattle.std.proofs.lemmas.Bool.{ltb-true}
use Rattle.abc_heap_values.specs.declared.values.ObjId.{ObjId}
use Rattle.abc_heap_values.specs.declared.values.Value.{Value}
use Rattle.abc_heap_values.specs.declared.values.Value.TheVariants.{Null, Num, Space, Obj}
use Rattle.abc_heap_store.specs.Heap.{object_at}
use Rattle.abc_objects.specs.Values.{IsValueOf, IsObject}
use Rattle.abc_link_names.specs.Linked.{IsLinkedFile, LinkedFile, above}
use Rattle.abc_link_names.specs.Slots.{slot_numbered, slots_of}
use Rattle.abc_link_names.specs.Tree.{IsBelow, up}
use Rattle.abc_link_names.specs.Types.{kind_of_type}
use Rattle.abc_link_names.specs.declared.part.LayoutId.{LayoutId}
use Rattle.abc_link_names.specs.declared.types.Kind.{Kind}
use Rattle.abc_link_names.specs.declared.types.Kind.TheVariants as kinds
use Rattle.abc_link_names.specs.declared.types.SlotInfo.{SlotInfo}
use Rattle.abc_link_names.proofs.Tree.{below_trans}
use Rattle.abc_verify_typing.specs.Instructions.{operand, second_local}
use Rattle.abc_verify_typing.specs.Rows.{Shape}
use Rattle.abc_verify_typing.specs.declared.row.Locals.{Locals}
use Rattle.abc_verify_typing.specs.declared.row.Locals.TheVariants.{Untouched, Reads, Sets, Walks}
use Rattle.abc_verify_typing.specs.declared.row.Need.{Need}
use Rattle.abc_verify_typing.specs.declared.row.Need.TheVariants as needed
use Rattle.abc_verify_typing.specs.declared.row.Operand.{Operand}
use Rattle.abc_verify_typing.specs.declared.row.Operand.TheVariants as operands
use Rattle.abc_file_types.specs.declared.code.Instr.{Instr}
use Rattle.abc_verify_typing.specs.Effects.{Here, args, depth, kind_at, kind_of_slot, needs, slot_kind_at, slot_kind_in, stack_below}
use Rattle.abc_verify_typing.specs.Lists.{Each2}
use Rattle.abc_verify_typing.specs.Routines.{Routine}
use Rattle.abc_verify_typing.specs.Rules.{all_suit, has_locals, has_slot, is_instance_of_layout, is_kind_number, is_walked, may_pop, may_push, names_scope, suits, super_layout}
use Rattle.abc_verify_typing.specs.Standing.{here_with}
use Rattle.abc_verify_typing.specs.declared.rule.VerifyRule.{VerifyRule}
use Rattle.abc_verify_typing.specs.declared.rule.VerifyRule.TheVariants.{PoolIndex, NameForm, StackUnder, StackOver, ScopeUnder, ScopeOver, LocalIndex, NotSpace, NotObject, SlotIndex, ScopeIndex, NotHere, NotIndex}
use Rattle.abc_verify_typing.specs.declared.state.State.{State}
use Rattle.abc_verify_typing.proofs.Good.{IsGood, good}
use Rattle.abc_verify_typing.proofs.Lists.{Each2-drop, Each2-length}
use Rattle.abc_verify_typing.proofs.Member.{and_both, and_left, and_right}
use Rattle.abc_verify_typing.proofs.Reaching.{below_reached, reached}
use Rattle.abc_frames.specs.Frame.{Frame}
use Rattle.abc_meaning.specs.Setting.{Setting}
use Rattle.abc_meaning.specs.World.{World, object_named}
use Rattle.abc_meaning.specs.Sound.{IsOfKind, ScopeHolds, Typings}
use Rattle.abc_meaning.specs.Tests.{all_meet, can_run, has_scope, is_below, is_receiver, meets, walks_number, has_slot_numbered as object_has_slot, is_some_number as value_is_number}
use Rattle.abc_meaning_sound.specs.Keeping.{Ready}
use Rattle.abc_meaning_sound.proofs.Lists.{there}

-- ---- slots by numbers

slot_below : (l : LinkedFile) → IsGood l → (k x y j : ℕ) (kind : Kind) → up l k x ≡ y → slot_kind_at l y j ≡ Some kind → slot_kind_at l x j ≡ Some kind
slot_below l g zero x y j kind e h = subst (λ z. slot_kind_at l z j ≡ Some kind) (sym e) h
slot_below l g (suc k) x y j kind e h = g.inherits x j kind (slot_below l g k (above l x) y j kind e h)

-- the slot of a number, where there is one
pub record IsSlot (l : LinkedFile) (x j : ℕ) (kind : Kind) : Type 0 where
  pub place : ℕ
  pub info : SlotInfo
  pub numbered : slot_numbered l x j ≡ Some place
  pub at : slice_get (slots_of l x) place ≡ Some info
  pub kind_is : kind_of_type l info.ty ≡ kind

slot_found : (l : LinkedFile) (x j : ℕ) (kind : Kind) → slot_kind_at l x j ≡ Some kind → IsSlot l x j kind
slot_found l x j kind e = go (slot_numbered l x j) refl e
  where
    at : (i : ℕ) → slot_numbered l x j ≡ Some i → (o : Option SlotInfo) → slice_get (slots_of l x) i ≡ o → kind_of_slot l o ≡ Some kind → IsSlot l x j kind
    at i n None q e = absurd cc
    at i n (Some info) q e = record { place = i; info = info; numbered = n; at = q; kind_is = cc }

    go : (o : Option ℕ) → slot_numbered l x j ≡ o → slot_kind_in l (slots_of l x) o ≡ Some kind → IsSlot l x j kind
    go None n e = absurd cc
    go (Some i) n e = at i n (slice_get (slots_of l x) i) refl e

-- an object of a kind with a slot has that slot
pub slotted : (l : LinkedFile) → IsLinkedFile l → (x y j : ℕ) → IsBelow l x y → is_some (slot_kind_at l y j) ≡ true → (kind : Kind) × (slot_kind_at l y j ≡ Some kind) × IsSlot l x j kind
slotted l linked x y j b e = go (slot_kind_at l y j) refl e
  where
    go : (o : Option Kind) → slot_kind_at l y j ≡ o → is_some o ≡ true → (kind : Kind) × (slot_kind_at l y j ≡ Some kind) × IsSlot l x j kind
    go None is e = absurd cc
    go (Some kind) is e = (kind, is, slot_found l x j kind (slot_below l (good l linked) b.steps x y j kind b.climb is))

-- ---- a local, and its kind

pub local_at : (p : Setting) (w : World) (ks : List Kind) (vs : List Value) (n : ℕ) → Each2 (IsOfKind p.linked w.heap) ks vs → n < length vs → (v : Value) × (slice_get vs n ≡ Some v) × IsOfKind p.linked w.heap (kind_at ks n) v
local_at p w (k ∷ ks) (v ∷ vs) zero e l = (v, refl, e.0)
local_at p w (k ∷ ks) (v ∷ vs) (suc n) e l = local_at p w ks vs n e.1 (omega (arith, l))
local_at p w [] [] n e l = absurd (omega (arith, l))
local_at p w [] (v ∷ vs) n e l = absurd e
local_at p w (k ∷ ks) [] n e l = absurd e

module _ (p : Setting) (linked : IsLinkedFile p.linked) (typings : Typings) (w : World) (f : Frame) (r : Routine) (s : State) (instr : Instr) (row : Shape) (ready : Ready p typings w f r s instr row) where
  abbrev at_here : Here
  at_here = here_with p.linked r f.place instr row

  object_found : (o : ObjId) → IsObject w.heap o → object_named o w ≡ Some (object_at w.heap.objects o.0)
  object_found o h = there w.heap.objects o.0 h

  slotted_meets : (x : LayoutId) (o : ObjId) → IsValueOf p.linked w.heap (kinds.Obj x) (Obj o) → has_slot p.linked (operand instr) (kinds.Obj x) ≡ true → object_has_slot p (operand instr) (object_named o w) ≡ true
  slotted_meets x o h e =
      let z = slotted p.linked linked (object_at w.heap.objects o.0).layout x.0 (operand instr) h.1 e in
      ap (object_has_slot p (operand instr)) (object_found o h.0) ∙ ap is_some z.2.numbered

  instance_meets : (o : Option LayoutId) (k : Kind) (v : Value) → IsOfKind p.linked w.heap k v → is_instance_of_layout p.linked o k ≡ true → is_receiver p w o v ≡ true
  instance_meets None k v h q = refl
  instance_meets (Some m) k Null h q = refl
  instance_meets (Some m) (kinds.Obj x) (Obj o) h q =
      let y = (object_at w.heap.objects o.0).layout in
      ap (is_below p m.0) (object_found o h.kind.0) ∙ reached p.linked linked y y m.0 (omega arith) (below_trans p.linked y x.0 m.0 h.kind.1 (below_reached p.linked x.0 x.0 m.0 q))
  instance_meets (Some m) kinds.Null v h q = absurd (let z = h.kind in grind (arith, z))
  instance_meets (Some m) (kinds.Obj x) v h q = absurd (let z = h.kind in grind (arith, z))
  instance_meets (Some m) k v h q = absurd cc

  value_meets : (n : Need) (k : Kind) (v : Value) → IsOfKind p.linked w.heap k v → ((rule : VerifyRule) → suits at_here rule n k ≡ true) → meets p at_here w n v ≡ true
  value_meets needed.Namespace k Null h q = refl
  value_meets needed.Namespace k (Space n) h q = refl
  value_meets needed.Namespace kinds.Null v h q = absurd (let z = h.kind in grind (arith, z))
  value_meets needed.Namespace kinds.Space v h q = absurd (let z = h.kind in grind (arith, z))
  value_meets needed.Namespace k v h q = absurd (let e = q NotSpace in cc)
  value_meets needed.Index k (Num n) h q = refl
  value_meets needed.Index kinds.Num v h q = absurd (let z = h.kind in grind (arith, z))
  value_meets needed.Index k v h q = absurd (let e = q NotIndex in cc)
  value_meets needed.Slotted k Null h q = refl
  value_meets needed.Slotted (kinds.Obj x) (Obj o) h q = slotted_meets x o h.kind (q SlotIndex)
  value_meets needed.Slotted kinds.Null v h q = absurd (let z = h.kind in grind (arith, z))
  value_meets needed.Slotted (kinds.Obj x) v h q = absurd (let z = h.kind in grind (arith, z))
  value_meets needed.Slotted k v h q = absurd (let e = q NotObject in cc)
  value_meets needed.Instance k v h q = instance_meets (super_layout row.site r.home) k v h (q NotObject)
  value_meets needed.Value k v h q = grind arith
  value_meets needed.Runtime k v h q = grind arith

  all_values_meet : (ns : List Need) (ks : List Kind) (vs : List Value) → Each2 (IsOfKind p.linked w.heap) ks vs → ((rule : VerifyRule) → all_suit at_here rule ns ks ≡ true) → all_meet p at_here w ns vs ≡ true
  all_values_meet [] ks vs e q = refl
  all_values_meet (n ∷ ns) [] [] e q = refl
  all_values_meet (n ∷ ns) (k ∷ ks) (v ∷ vs) e q = and_both _ _ (value_meets n k v e.0 (λ x. and_left _ _ (q x))) (all_values_meet ns ks vs e.1 (λ x. and_right (suits at_here x n k) _ (q x)))
  all_values_meet (n ∷ ns) [] (v ∷ vs) e q = absurd e
  all_values_meet (n ∷ ns) (k ∷ ks) [] e q = absurd e

  idle : (x : VerifyRule) → ((n : Need) (k : Kind) → suits at_here x n k ≡ true) → (ns : List Need) (ks : List Kind) → all_suit at_here x ns ks ≡ true
  idle x g [] ks = refl
  idle x g (n ∷ ns) [] = refl
  idle x g (n ∷ ns) (k ∷ ks) = and_both _ _ (g n k) (idle x g ns ks)

  suit : (x : VerifyRule) → all_suit at_here x (needs at_here) (stack_below at_here s) ≡ true
  suit NotSpace = ready.kept NotSpace
  suit NotObject = ready.kept NotObject
  suit SlotIndex = ready.kept SlotIndex
  suit NotIndex = and_left _ _ (ready.kept NotIndex)
  suit x = idle x (λ n k. grind arith) (needs at_here) (stack_below at_here s)

  number_is : (k : Kind) (v : Value) → IsValueOf p.linked w.heap k v → is_kind_number k ≡ true → value_is_number (Some v) ≡ true
  number_is k (Num n) h e = refl
  number_is kinds.Num v h e = absurd (grind (arith, h))
  number_is k v h e = absurd cc

  walks_meet : (x : Locals) → is_walked at_here s x ≡ true → has_locals x instr (length f.locals) ≡ true → walks_number x instr f.locals ≡ true
  walks_meet Walks e l =
      let n = ltb-true _ _ (and_left _ _ (and_right _ _ l)) in
      let v = local_at p w s.locals f.locals (second_local instr) ready.is.locals n in
      ap value_is_number v.1 ∙ number_is (kind_at s.locals (second_local instr)) v.0 v.2.kind e
  walks_meet Untouched e l = refl
  walks_meet Reads e l = refl
  walks_meet (Sets source) e l = refl

  scope_meets : (x : Operand) → names_scope at_here s x ≡ true → has_scope x instr f.scopes ≡ true
  scope_meets operands.ScopeAt e = ap (nat_lt (operand instr)) (sym (Each2-length (ScopeHolds p.linked w.heap) s.scopes f.scopes ready.is.scopes)) ∙ e
  scope_meets x e = grind arith

  -- the tests of a step
  pub runs_on : can_run p at_here f w ≡ true
  runs_on =
      let stack : length s.stack ≡ length f.stack = Each2-length (IsOfKind p.linked w.heap) s.stack f.stack ready.is.stack in
      let scopes : length s.scopes ≡ length f.scopes = Each2-length (ScopeHolds p.linked w.heap) s.scopes f.scopes ready.is.scopes in
      let count : length f.locals ≡ r.local_count = sym (Each2-length (IsOfKind p.linked w.heap) s.locals f.locals ready.is.locals) ∙ ready.sized.locals in
      let locals : has_locals row.locals instr (length f.locals) ≡ true = ap (has_locals row.locals instr) count ∙ ready.kept LocalIndex in
      let below : Each2 (IsOfKind p.linked w.heap) (stack_below at_here s) (drop (args at_here) f.stack) = Each2-drop (IsOfKind p.linked w.heap) (args at_here) s.stack f.stack ready.is.stack in
      and_both _ _ (and_both _ _ (and_both _ _ (and_both _ _ (and_both _ _ (and_both _ _ (and_both _ _ (and_both _ _ (and_both _ _ (and_both _ _
      (ready.kept PoolIndex) (ready.kept NameForm)) (subst (λ n. nat_le (depth at_here) n ≡ true) stack (ready.kept StackUnder))) (subst (λ n. nat_le (n - depth at_here + length row.gives) r.max_stack ≡ true) stack (and_left _ _ (ready.kept StackOver)))) (subst (λ n. may_pop row.scoping n ≡ true) scopes (ready.kept ScopeUnder))) (subst (λ n. may_push row.scoping n r.scope_size ≡ true) scopes (ready.kept ScopeOver))) locals) (walks_meet row.locals (and_right (all_suit at_here NotIndex (needs at_here) (stack_below at_here s)) _ (ready.kept NotIndex)) locals)) (scope_meets row.operand (ready.kept ScopeIndex))) (ready.kept NotHere))
      (all_values_meet (needs at_here) (stack_below at_here s) (drop (args at_here) f.stack) below suit)
