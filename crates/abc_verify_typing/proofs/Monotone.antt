-- The rules and what follows are monotone: one lemma for each need and each source of a kind.
use Rattle.std.proofs.Common.{◌≡◌, ℕ, zero, suc, ◌+◌, ◌-◌, ◌≤◌, List, [], ◌∷◌, ◌++◌, Option, Some, None, length, take, refl, sym, ap, ◌∙◌, subst, arith, inl, inr}
use Rattle.std.specs.Prelude.{Bool, true, false, is_some, cond, not, ◌&&◌, ◌||◌, leb, ltb, slice_get, map}
use Rattle.abc_verify_typing.specs.Lists.{Each2}
use Rattle.abc_verify_typing.proofs.Lists.{Each2-length, Each2-take, Each2-drop, Each2-append, Each2-set}
use Rattle.abc_link_names.specs.declared.types.Kind.{Kind}
use Rattle.abc_link_names.specs.declared.types.Kind.TheVariants.{Any, Undef, Null, Num, Bool as Truth, Text, Space, Obj}
use Rattle.abc_link_names.specs.Linked.{IsLinkedFile, LinkedFile, above}
use Rattle.abc_link_names.specs.Tree.{up, IsBelow}
use Rattle.abc_link_names.specs.declared.part.LayoutId.{LayoutId}
use Rattle.abc_link_names.specs.Kinds.{IsAtMost}
use Rattle.abc_link_names.proofs.Tree.{above_le, below_self, below_trans, below_up}
use Rattle.abc_verify_typing.proofs.Reaching.{below_reached, reached}
use Rattle.abc_link_names.proofs.Order.{kind_self, kind_any}
use Rattle.abc_base.specs.declared.names.HostClass.TheVariants as hosts
use Rattle.abc_link_names.specs.Places.{place_of_part}
use Rattle.abc_link_names.specs.declared.part.Part.TheVariants as parts
use Rattle.abc_verify_typing.specs.Instructions.{local, operand, second_local}
use Rattle.abc_verify_typing.specs.declared.row.RowKind.TheVariants as rows
use Rattle.abc_verify_typing.specs.Routines.{Routine, or_any}
use Rattle.abc_verify_typing.specs.declared.catch.Catch.{Catch}
use Rattle.abc_verify_typing.specs.declared.state.Scope.{Scope}
use Rattle.abc_verify_typing.specs.declared.state.State.{State}
use Rattle.abc_verify_typing.specs.declared.rule.VerifyRule.{VerifyRule}
use Rattle.abc_verify_typing.specs.declared.rule.VerifyRule.TheVariants.{NotRun, PoolIndex, NameForm, StackUnder, StackOver, ScopeUnder, ScopeOver, LocalIndex, OffEnd, Merge, NotSpace, NotObject, SlotIndex, ScopeIndex, NotHere, NotIndex, Parameters, Flags}
use Rattle.abc_verify_typing.specs.declared.row.Operand.{Operand}
use Rattle.abc_verify_typing.specs.declared.row.Operand.TheVariants.{ScopeAt}
use Rattle.abc_verify_typing.specs.declared.row.Need.{Need}
use Rattle.abc_verify_typing.specs.declared.row.Need.TheVariants.{Value, Namespace, Index, Slotted, Instance, Runtime}
use Rattle.abc_verify_typing.specs.declared.row.Source.{Source}
use Rattle.abc_verify_typing.specs.declared.row.Source.TheVariants.{Fixed, Taken, LocalKind, ScopeKind, SlotKind, SumKind, TypeKind, AsTypeKind, ActivationKind, ClassObjectKind, CatchObjectKind}
use Rattle.abc_verify_typing.specs.declared.row.Locals.{Locals}
use Rattle.abc_verify_typing.specs.declared.row.Locals.TheVariants.{Untouched, Reads, Sets, Walks}
use Rattle.abc_verify_typing.specs.declared.row.Scoping.{Scoping}
use Rattle.abc_verify_typing.specs.declared.row.Scoping.TheVariants.{Stays, Pushes, Pops}
use Rattle.abc_verify_typing.specs.Effects.{Here, kind_of_row, slot_kind_at, needs, args, depth, stack_below, kind_at, receiver_kind, is_null_kind, goes_on_after, slot_kind, sum_kind, scope_of, kind_of_source, scope_kind, scopes_after, locals_after, state_behind, caught_state, covering, leads, states_after}
use Rattle.abc_verify_typing.specs.Rules.{is_namespace, is_object, is_kind_number, is_instance_of_layout, has_slot, suits, suits_index, suits_object, suits_slot, suits_space, all_suit, is_walked, names_scope, super_layout, keeps, may_pop, may_push, is_without_catches, after_instr, after_row}
use Rattle.abc_verify_typing.specs.Typing.{ScopeLe, StateLe, IsFine, In, Follows}
use Rattle.std.proofs.lemmas.Bool.{cases_eq}
use Rattle.abc_verify_typing.proofs.Member.{in_left, in_right, map_in, and_left, and_right, and_both}
use Rattle.abc_verify_typing.proofs.Sized.{split}
use Rattle.abc_verify_typing.proofs.Good.{IsGood}
use Rattle.abc_verify_typing.specs.Standing.{here_with, Stands}
use Rattle.abc_verify_typing.proofs.Fine.{stands, fine_from}

kind_at_le : (p : LinkedFile) (n : ℕ) (xs ys : List Kind) → Each2 (IsAtMost p) xs ys → IsAtMost p (kind_at xs n) (kind_at ys n)
kind_at_le p n [] [] h = tt
kind_at_le p zero (x ∷ xs) (y ∷ ys) h = h.0
kind_at_le p (suc n) (x ∷ xs) (y ∷ ys) h = kind_at_le p n xs ys h.1
kind_at_le p n [] (y ∷ ys) h = absurd h
kind_at_le p n (x ∷ xs) [] h = absurd h

scope_at_le : (p : LinkedFile) (n : ℕ) (xs ys : List Scope) → Each2 (ScopeLe p) xs ys → IsAtMost p (scope_of (slice_get xs n)) (scope_of (slice_get ys n))
scope_at_le p n [] [] h = tt
scope_at_le p zero (x ∷ xs) (y ∷ ys) h = h.0.kind
scope_at_le p (suc n) (x ∷ xs) (y ∷ ys) h = scope_at_le p n xs ys h.1
scope_at_le p n [] (y ∷ ys) h = absurd h
scope_at_le p n (x ∷ xs) [] h = absurd h

receiver_le : (p : LinkedFile) (ns : List Need) (xs ys : List Kind) → Each2 (IsAtMost p) xs ys → IsAtMost p (receiver_kind ns xs) (receiver_kind ns ys)
receiver_le p [] xs ys h = tt
receiver_le p (n ∷ ns) [] [] h = grind arith
receiver_le p (Slotted ∷ ns) (x ∷ xs) (y ∷ ys) h = h.0
receiver_le p (n ∷ ns) (x ∷ xs) (y ∷ ys) h = receiver_le p ns xs ys h.1
receiver_le p (n ∷ ns) [] (y ∷ ys) h = absurd h
receiver_le p (n ∷ ns) (x ∷ xs) [] h = absurd h

-- slots are inherited all the way down
slot_below : (p : LinkedFile) → IsGood p → (k l m j : ℕ) (kind : Kind) → up p k l ≡ m → slot_kind_at p m j ≡ Some kind → slot_kind_at p l j ≡ Some kind
slot_below p g zero l m j kind e h = subst (λ n. slot_kind_at p n j ≡ Some kind) (sym e) h
slot_below p g (suc k) l m j kind e h = g.inherits l j kind (slot_below p g k (above p l) m j kind e h)

-- needs

namespace_down : (p : LinkedFile) (a b : Kind) → IsAtMost p a b → is_namespace b ≡ true → is_namespace a ≡ true
namespace_down p Null b h e = refl
namespace_down p Space b h e = refl
namespace_down p a Null h e = grind arith
namespace_down p a Space h e = grind arith
namespace_down p a b h e = absurd cc

number_down : (p : LinkedFile) (a b : Kind) → IsAtMost p a b → is_kind_number b ≡ true → is_kind_number a ≡ true
number_down p Num b h e = refl
number_down p a Num h e = grind arith
number_down p a b h e = absurd cc

object_down : (p : LinkedFile) (a b : Kind) → IsAtMost p a b → is_object b ≡ true → is_object a ≡ true
object_down p Null b h e = refl
object_down p (Obj l) b h e = refl
object_down p a Null h e = grind arith
object_down p a (Obj m) h e = grind arith
object_down p a b h e = absurd cc

instance_down : (p : LinkedFile) → IsLinkedFile p → (o : Option LayoutId) (a b : Kind) → IsAtMost p a b → is_instance_of_layout p o b ≡ true → is_instance_of_layout p o a ≡ true
instance_down p t None a b h e = refl
instance_down p t (Some m) Null b h e = refl
instance_down p t (Some m) (Obj l) (Obj k) h e = reached p t l.0 l.0 m.0 (omega arith) (below_trans p l.0 k.0 m.0 h (below_reached p k.0 k.0 m.0 e))
instance_down p t (Some m) a Null h e = grind arith
instance_down p t (Some m) a (Obj k) h e = grind arith
instance_down p t (Some m) a b h e = absurd cc

some_is : (o : Option Kind) → is_some o ≡ true → (k : Kind) × (o ≡ Some k)
some_is None e = absurd cc
some_is (Some k) e = (k, refl)

slot_down : (p : LinkedFile) → IsGood p → (j : ℕ) (a b : Kind) → IsAtMost p a b → is_object b ≡ true → has_slot p j b ≡ true → has_slot p j a ≡ true
slot_down p g j (Obj l) (Obj m) h o e = let s = some_is (slot_kind_at p m.0 j) e in ap is_some (slot_below p g h.steps l.0 m.0 j s.0 h.climb s.1)
slot_down p g j (Obj l) Null h o e = absurd h
slot_down p g j (Obj l) Any h o e = absurd cc
slot_down p g j (Obj l) b h o e = absurd h
slot_down p g j a b h o e = refl

module _ (h : Here) (g : IsGood h.file) where
  space_suits_down : (n : Need) (a b : Kind) → IsAtMost h.file a b → suits_space n b ≡ true → suits_space n a ≡ true
  space_suits_down Namespace a b le e = namespace_down h.file a b le e
  space_suits_down Value a b le e = refl
  space_suits_down Index a b le e = refl
  space_suits_down Slotted a b le e = refl
  space_suits_down Instance a b le e = refl
  space_suits_down Runtime a b le e = refl

  object_suits_down : (n : Need) (a b : Kind) → IsAtMost h.file a b → suits_object h n b ≡ true → suits_object h n a ≡ true
  object_suits_down Slotted a b le e = object_down h.file a b le e
  object_suits_down Instance a b le e = instance_down h.file g.linked (super_layout h.row.site h.method.home) a b le e
  object_suits_down Value a b le e = refl
  object_suits_down Namespace a b le e = refl
  object_suits_down Index a b le e = refl
  object_suits_down Runtime a b le e = refl

  slot_suits_down : (n : Need) (a b : Kind) → IsAtMost h.file a b → suits_object h n b ≡ true → suits_slot h n b ≡ true → suits_slot h n a ≡ true
  slot_suits_down Slotted a b le o e = slot_down h.file g (operand h.instr) a b le o e
  slot_suits_down Value a b le o e = refl
  slot_suits_down Namespace a b le o e = refl
  slot_suits_down Index a b le o e = refl
  slot_suits_down Instance a b le o e = refl
  slot_suits_down Runtime a b le o e = refl

  index_suits_down : (n : Need) (a b : Kind) → IsAtMost h.file a b → suits_index n b ≡ true → suits_index n a ≡ true
  index_suits_down Index a b le e = number_down h.file a b le e
  index_suits_down Value a b le e = refl
  index_suits_down Namespace a b le e = refl
  index_suits_down Slotted a b le e = refl
  index_suits_down Instance a b le e = refl
  index_suits_down Runtime a b le e = refl

  suits_down : (n : Need) (a b : Kind) → IsAtMost h.file a b → ((r : VerifyRule) → suits h r n b ≡ true) → (r : VerifyRule) → suits h r n a ≡ true
  suits_down n a b le f NotSpace = space_suits_down n a b le (f NotSpace)
  suits_down n a b le f NotObject = object_suits_down n a b le (f NotObject)
  suits_down n a b le f SlotIndex = slot_suits_down n a b le (f NotObject) (f SlotIndex)
  suits_down n a b le f NotIndex = index_suits_down n a b le (f NotIndex)
  suits_down n a b le f NotRun = refl
  suits_down n a b le f PoolIndex = refl
  suits_down n a b le f NameForm = refl
  suits_down n a b le f StackUnder = refl
  suits_down n a b le f StackOver = refl
  suits_down n a b le f ScopeUnder = refl
  suits_down n a b le f ScopeOver = refl
  suits_down n a b le f LocalIndex = refl
  suits_down n a b le f OffEnd = refl
  suits_down n a b le f Merge = refl
  suits_down n a b le f ScopeIndex = refl
  suits_down n a b le f NotHere = refl
  suits_down n a b le f Parameters = refl
  suits_down n a b le f Flags = refl

  all_suit_down : (ns : List Need) (xs ys : List Kind) → Each2 (IsAtMost h.file) xs ys → ((r : VerifyRule) → all_suit h r ns ys ≡ true) → (r : VerifyRule) → all_suit h r ns xs ≡ true
  all_suit_down [] xs ys e f r = refl
  all_suit_down (n ∷ ns) [] ys e f r = refl
  all_suit_down (n ∷ ns) (x ∷ xs) [] e f r = absurd e
  all_suit_down (n ∷ ns) (x ∷ xs) (y ∷ ys) e f r = and_both _ _ (suits_down n x y e.0 (λ q. and_left _ _ (f q)) r) (all_suit_down ns xs ys e.1 (λ q. and_right _ _ (f q)) r)

  idle : (r : VerifyRule) → ((n : Need) (k : Kind) → suits h r n k ≡ true) → (ns : List Need) (ks : List Kind) → all_suit h r ns ks ≡ true
  idle r f [] ks = refl
  idle r f (n ∷ ns) [] = refl
  idle r f (n ∷ ns) (k ∷ ks) = and_both _ _ (f n k) (idle r f ns ks)

  -- every rule of a state asks the same of what is taken, or nothing
  all : (s t : State) → StateLe h.file s t → ((r : VerifyRule) → keeps h t r ≡ true) → (r : VerifyRule) → all_suit h r (needs h) (stack_below h t) ≡ true
  all s t le f NotSpace = f NotSpace
  all s t le f NotObject = f NotObject
  all s t le f SlotIndex = f SlotIndex
  all s t le f NotIndex = and_left _ _ (f NotIndex)
  all s t le f NotRun = idle NotRun (λ n k. grind arith) (needs h) (stack_below h t)
  all s t le f Merge = idle Merge (λ n k. grind arith) (needs h) (stack_below h t)
  all s t le f PoolIndex = idle PoolIndex (λ n k. grind arith) (needs h) (stack_below h t)
  all s t le f NameForm = idle NameForm (λ n k. grind arith) (needs h) (stack_below h t)
  all s t le f StackUnder = idle StackUnder (λ n k. grind arith) (needs h) (stack_below h t)
  all s t le f StackOver = idle StackOver (λ n k. grind arith) (needs h) (stack_below h t)
  all s t le f ScopeUnder = idle ScopeUnder (λ n k. grind arith) (needs h) (stack_below h t)
  all s t le f ScopeOver = idle ScopeOver (λ n k. grind arith) (needs h) (stack_below h t)
  all s t le f LocalIndex = idle LocalIndex (λ n k. grind arith) (needs h) (stack_below h t)
  all s t le f OffEnd = idle OffEnd (λ n k. grind arith) (needs h) (stack_below h t)
  all s t le f ScopeIndex = idle ScopeIndex (λ n k. grind arith) (needs h) (stack_below h t)
  all s t le f NotHere = idle NotHere (λ n k. grind arith) (needs h) (stack_below h t)
  all s t le f Parameters = idle Parameters (λ n k. grind arith) (needs h) (stack_below h t)
  all s t le f Flags = idle Flags (λ n k. grind arith) (needs h) (stack_below h t)

  keeps_down : (s t : State) → StateLe h.file s t → ((r : VerifyRule) → keeps h t r ≡ true) → (r : VerifyRule) → keeps h s r ≡ true
  keeps_down s t le f NotRun = refl
  keeps_down s t le f Merge = refl
  keeps_down s t le f PoolIndex = f PoolIndex
  keeps_down s t le f NameForm = f NameForm
  keeps_down s t le f StackUnder = let e = Each2-length _ _ _ le.stack in subst (λ (n : ℕ). leb (depth h) n ≡ true) (sym e) (f StackUnder)
  keeps_down s t le f StackOver = let e = Each2-length _ _ _ le.stack in subst (λ (n : ℕ). (leb (n - depth h + length h.row.gives) h.method.max_stack && (ltb 0 h.method.max_stack || is_without_catches (covering h.method h.place))) ≡ true) (sym e) (f StackOver)
  keeps_down s t le f ScopeUnder = let e = Each2-length _ _ _ le.scopes in subst (λ (n : ℕ). may_pop h.row.scoping n ≡ true) (sym e) (f ScopeUnder)
  keeps_down s t le f ScopeOver = let e = Each2-length _ _ _ le.scopes in subst (λ (n : ℕ). may_push h.row.scoping n h.method.scope_size ≡ true) (sym e) (f ScopeOver)
  keeps_down s t le f LocalIndex = f LocalIndex
  keeps_down s t le f OffEnd = f OffEnd
  keeps_down s t le f NotSpace = all_suit_down (needs h) (stack_below h s) (stack_below h t) (Each2-drop _ (args h) _ _ le.stack) (all s t le f) NotSpace
  keeps_down s t le f NotObject = all_suit_down (needs h) (stack_below h s) (stack_below h t) (Each2-drop _ (args h) _ _ le.stack) (all s t le f) NotObject
  keeps_down s t le f SlotIndex = all_suit_down (needs h) (stack_below h s) (stack_below h t) (Each2-drop _ (args h) _ _ le.stack) (all s t le f) SlotIndex
  keeps_down s t le f ScopeIndex = let e = Each2-length _ _ _ le.scopes in names e h.row.operand (f ScopeIndex)
    where
      names : length s.scopes ≡ length t.scopes → (o : Operand) → names_scope h t o ≡ true → names_scope h s o ≡ true
      names e ScopeAt q = subst (λ (n : ℕ). ltb (operand h.instr) n ≡ true) (sym e) q
      names e o q = grind arith
  keeps_down s t le f NotHere = f NotHere
  keeps_down s t le f NotIndex = and_both _ _ (all_suit_down (needs h) (stack_below h s) (stack_below h t) (Each2-drop _ (args h) _ _ le.stack) (all s t le f) NotIndex) (walks h.row.locals (and_right _ _ (f NotIndex)))
    where
      walks : (l : Locals) → is_walked h t l ≡ true → is_walked h s l ≡ true
      walks Walks q = number_down h.file _ _ (kind_at_le h.file (second_local h.instr) _ _ le.locals) q
      walks l q = grind arith
  keeps_down s t le f Parameters = f Parameters
  keeps_down s t le f Flags = f Flags

-- sources

slot_kind_le : (p : LinkedFile) → IsGood p → (j : ℕ) (a b : Kind) → IsAtMost p a b → is_null_kind a ≡ false → IsAtMost p (slot_kind p j a) (slot_kind p j b)
slot_kind_le p g j (Obj l) (Obj m) h e = go (slot_kind_at p m.0 j) refl
  where
    go : (o : Option Kind) → slot_kind_at p m.0 j ≡ o → IsAtMost p (or_any (slot_kind_at p l.0 j)) (or_any (slot_kind_at p m.0 j))
    go None q = subst (λ (x : Option Kind). IsAtMost p (or_any (slot_kind_at p l.0 j)) (or_any x)) (sym q) (kind_any p (or_any (slot_kind_at p l.0 j)))
    go (Some k) q = subst (λ (x : Option Kind). IsAtMost p (or_any (slot_kind_at p l.0 j)) (or_any x)) (sym q) (subst (λ (x : Option Kind). IsAtMost p (or_any x) k) (sym (slot_below p g h.steps l.0 m.0 j k h.climb q)) (kind_self p k))
slot_kind_le p g j a Any h e = kind_any p (slot_kind p j a)
slot_kind_le p g j Null b h e = absurd cc
slot_kind_le p g j (Obj l) b h e = absurd h
slot_kind_le p g j Undef Undef h e = tt
slot_kind_le p g j Num Num h e = tt
slot_kind_le p g j Truth Truth h e = tt
slot_kind_le p g j Text Text h e = tt
slot_kind_le p g j Space Space h e = tt
slot_kind_le p g j a b h e = grind arith

sum_any : (p : LinkedFile) (a b c d : Kind) → sum_kind c d ≡ Any → IsAtMost p (sum_kind a b) (sum_kind c d)
sum_any p a b c d e = subst (λ (k : Kind). IsAtMost p (sum_kind a b) k) (sym e) (kind_any p (sum_kind a b))

sum_kind_le : (p : LinkedFile) (a b c d : Kind) → IsAtMost p a c → IsAtMost p b d → IsAtMost p (sum_kind a b) (sum_kind c d)
sum_kind_le p Num Num Num Num x y = tt
sum_kind_le p Num Truth Num Truth x y = tt
sum_kind_le p Truth Num Truth Num x y = tt
sum_kind_le p Truth Truth Truth Truth x y = tt
sum_kind_le p a b Num Num x y = grind arith
sum_kind_le p a b Num Truth x y = grind arith
sum_kind_le p a b Truth Num x y = grind arith
sum_kind_le p a b Truth Truth x y = grind arith
sum_kind_le p a b c d x y = sum_any p a b c d refl

scope_kind_le : (p : LinkedFile) → ((l : ℕ) → IsBelow p l (place_of_part p.parts (parts.Host hosts.Object))) → (a b : Kind) → IsAtMost p a b → IsAtMost p (scope_kind p a) (scope_kind p b)
scope_kind_le p z Null (Obj m) h = tt
scope_kind_le p z (Obj l) (Obj m) h = h
scope_kind_le p z Null Null h = tt
scope_kind_le p z Null b h = tt
scope_kind_le p z (Obj l) Any h = z l.0
scope_kind_le p z (Obj l) b h = absurd h
scope_kind_le p z a Any h = below_self p _
scope_kind_le p z Undef Undef h = below_self p _
scope_kind_le p z Num Num h = below_self p _
scope_kind_le p z Truth Truth h = below_self p _
scope_kind_le p z Text Text h = below_self p _
scope_kind_le p z Space Space h = below_self p _
scope_kind_le p z a b h = grind arith

-- the first layout is above all
root : (p : LinkedFile) → IsLinkedFile p → (fuel l : ℕ) → l ≤ fuel → IsBelow p l 0
root p t zero l h = let e : l ≡ 0 = omega arith in subst (λ k. IsBelow p k 0) (sym e) (below_self p 0)
root p t (suc fuel) l h = elim (cases_eq l 0) [ inl e ↦ subst (λ k. IsBelow p k 0) (sym e) (below_self p 0) | inr ne ↦ (let z = above_le p t l in below_up p l 0 (root p t fuel (above p l) (omega arith))) ]

object_above : (p : LinkedFile) → IsGood p → (l : ℕ) → IsBelow p l (place_of_part p.parts (parts.Host hosts.Object))
object_above p g l = subst (λ (x : ℕ). IsBelow p l x) (sym g.root) (root p g.linked l l (omega arith))

null_down : (p : LinkedFile) (a b : Kind) → IsAtMost p a b → is_null_kind a ≡ false → is_null_kind b ≡ false
null_down p a Null h e = grind arith
null_down p a b h e = refl

not_null : (b : Bool) → not b ≡ true → b ≡ false
not_null true e = absurd cc
not_null false e = refl

module _ (h : Here) (g : IsGood h.file) (s t : State) (le : StateLe h.file s t) (goes : goes_on_after (needs h) (stack_below h s) ≡ true) where
  taken_le : Each2 (IsAtMost h.file) (stack_below h s) (stack_below h t)
  taken_le = Each2-drop (IsAtMost h.file) (args h) s.stack t.stack le.stack

  kind_of_le : (x : Source) → IsAtMost h.file (kind_of_source h s x) (kind_of_source h t x)
  kind_of_le (Fixed k) = kind_self h.file (kind_of_row h.file k)
  kind_of_le (Taken n) = kind_at_le h.file n (stack_below h s) (stack_below h t) (Each2-drop (IsAtMost h.file) (args h) s.stack t.stack le.stack)
  kind_of_le LocalKind = kind_at_le h.file (local h.instr) s.locals t.locals le.locals
  kind_of_le ScopeKind = scope_at_le h.file (operand h.instr) s.scopes t.scopes le.scopes
  kind_of_le SlotKind = slot_kind_le h.file g (operand h.instr) (receiver_kind (needs h) (stack_below h s)) (receiver_kind (needs h) (stack_below h t)) (receiver_le h.file (needs h) (stack_below h s) (stack_below h t) (Each2-drop (IsAtMost h.file) (args h) s.stack t.stack le.stack)) (not_null _ goes)
  kind_of_le SumKind = sum_kind_le h.file _ _ _ _ (kind_at_le h.file 1 (stack_below h s) (stack_below h t) (Each2-drop (IsAtMost h.file) (args h) s.stack t.stack le.stack)) (kind_at_le h.file 0 (stack_below h s) (stack_below h t) (Each2-drop (IsAtMost h.file) (args h) s.stack t.stack le.stack))
  kind_of_le TypeKind = kind_self h.file (kind_of_source h s TypeKind)
  kind_of_le AsTypeKind = kind_self h.file (kind_of_source h s AsTypeKind)
  kind_of_le ActivationKind = kind_self h.file (kind_of_source h s ActivationKind)
  kind_of_le ClassObjectKind = kind_self h.file (kind_of_source h s ClassObjectKind)
  kind_of_le CatchObjectKind = kind_self h.file (kind_of_source h s CatchObjectKind)

  kinds_of_le : (xs : List Source) → Each2 (IsAtMost h.file) (map (kind_of_source h s) xs) (map (kind_of_source h t) xs)
  kinds_of_le [] = tt
  kinds_of_le (x ∷ xs) = (kind_of_le x, kinds_of_le xs)

  scopes_le : (c : Scoping) → Each2 (ScopeLe h.file) (scopes_after h s c) (scopes_after h t c)
  scopes_le Stays = le.scopes
  scopes_le (Pushes w) = Each2-append (ScopeLe h.file) s.scopes t.scopes _ _ le.scopes (record { kind = scope_kind_le h.file (object_above h.file g) _ _ (kind_at_le h.file 0 (stack_below h s) (stack_below h t) (Each2-drop (IsAtMost h.file) (args h) s.stack t.stack le.stack)); flag = refl }, tt)
  scopes_le Pops = let e = Each2-length _ _ _ le.scopes in subst (λ (n : ℕ). Each2 (ScopeLe h.file) (take (length s.scopes - 1) s.scopes) (take (n - 1) t.scopes)) e (Each2-take (ScopeLe h.file) (length s.scopes - 1) s.scopes t.scopes le.scopes)

  locals_le : (l : Locals) → Each2 (IsAtMost h.file) (locals_after h s l) (locals_after h t l)
  locals_le Untouched = le.locals
  locals_le Reads = le.locals
  locals_le (Sets x) = Each2-set (IsAtMost h.file) (local h.instr) s.locals t.locals _ _ le.locals (kind_of_le x)
  locals_le Walks = Each2-set (IsAtMost h.file) (second_local h.instr) _ _ _ _ (Each2-set (IsAtMost h.file) (local h.instr) s.locals t.locals _ _ le.locals (kind_self h.file (kind_of_row h.file rows.Object))) (kind_self h.file Num)

  next_le : StateLe h.file (state_behind h s) (state_behind h t)
  next_le = record { stack = Each2-append (IsAtMost h.file) _ _ _ _ (kinds_of_le h.row.gives) (Each2-drop (IsAtMost h.file) (depth h) s.stack t.stack le.stack); scopes = scopes_le h.row.scoping; locals = locals_le h.row.locals }

  goes_too : goes_on_after (needs h) (stack_below h t) ≡ true
  goes_too = let e = null_down h.file _ _ (receiver_le h.file (needs h) (stack_below h s) (stack_below h t) (Each2-drop (IsAtMost h.file) (args h) s.stack t.stack le.stack)) (not_null _ goes) in ap not e

stands_down : (p : LinkedFile) (m : Routine) (i : ℕ) (s t : State) → IsGood p → StateLe p s t → Stands p m i t → IsFine p m i s
stands_down p m i s t g le h = fine_from p m i s h.instr h.row h.at h.is (keeps_down (here_with p m i h.instr h.row) g s t le h.kept)

-- what breaks no rule breaks none below
pub fine_down : (p : LinkedFile) (m : Routine) (i : ℕ) (s t : State) → IsGood p → StateLe p s t → IsFine p m i t → IsFine p m i s
fine_down p m i s t g le f = stands_down p m i s t g le (stands p m i t f)

follow_from : (p : LinkedFile) (m : Routine) (i : ℕ) (t : State) (k : ℕ) (h : Stands p m i t) → In k (leads (here_with p m i h.instr h.row) h.row.leads) → goes_on_after (needs (here_with p m i h.instr h.row)) (stack_below (here_with p m i h.instr h.row) t) ≡ true → Follows p m i t k (state_behind (here_with p m i h.instr h.row) t)
follow_from p m i t k h lead goes =
    let at = here_with p m i h.instr h.row in
    subst (λ (xs : List (ℕ × State)). In (k, state_behind at t) xs) (sym h.follows_is) (in_left (k, state_behind at t) (states_after at t) (map (caught_state t) (covering m i)) (subst (λ (b : Bool). In {X = ℕ × State} (k, state_behind at t) (cond b (map (λ (j : ℕ). (j, state_behind at t)) (leads at h.row.leads)) [])) (sym goes) (map_in (λ (j : ℕ). (j, state_behind at t)) k (leads at h.row.leads) lead)))

caught_from : (p : LinkedFile) (m : Routine) (i : ℕ) (t : State) (x : Catch) → In x (covering m i) → Follows p m i t x.target (caught_state t x).1
caught_from p m i t x k = in_right (caught_state t x) (after_instr p m i t (slice_get m.code i)) (map (caught_state t) (covering m i)) (map_in (caught_state t) x (covering m i) k)

-- what follows a state is at most what follows a greater one
pub follows_le : (p : LinkedFile) (m : Routine) (i : ℕ) (s t : State) (k : ℕ) (n : State) → IsGood p → StateLe p s t → IsFine p m i t → Follows p m i s k n → (u : State) × Follows p m i t k u × StateLe p n u
follows_le p m i s t k n g le fine f =
    let h = stands p m i t fine in
    let at = here_with p m i h.instr h.row in
    let below : Stands p m i s = record { instr = h.instr; row = h.row; at = h.at; is = h.is; kept = keeps_down at g s t le h.kept; follows_is = ap (λ o. after_instr p m i s o ++ map (caught_state s) (covering m i)) h.at ∙ ap (λ o. after_row p m i h.instr s o ++ map (caught_state s) (covering m i)) h.is } in
    elim (split p m i s k n below f) [
      | inl r ↦ (state_behind at t, follow_from p m i t k h r.lead (goes_too at g s t le r.goes), subst (λ x. StateLe p x (state_behind at t)) (sym r.is) (next_le at g s t le r.goes))
      | inr r ↦ ((caught_state t r.handler).1, subst (λ (j : ℕ). Follows p m i t j (caught_state t r.handler).1) (sym r.target) (caught_from p m i t r.handler r.covers), subst (λ x. StateLe p x (caught_state t r.handler).1) (sym r.is) (record { stack = (kind_self p r.handler.kind, tt); scopes = tt; locals = le.locals }))
    ]
