-- Walking, from the words of abc_run_names to those of the meaning.
use Rattle.std.proofs.Common.{◌≡◌, ℕ, ◌-◌, List, [], ◌∷◌, length, Bool, true, false, refl, sym, ap, subst, ◌∙◌, arith, if◌then◌else◌}
use Rattle.std.proofs.lemmas.List.{length-set}
use Rattle.std.specs.Fmt.{decimal}
use Rattle.std.specs.Prelude.{Some, None, Ok, Err, is_some}
use Rattle.std.specs.declared.option.Option.{Option}
use Rattle.std.specs.declared.result.Result.{Result}
use Rattle.abc_heap_values.specs.declared.values.Span.{Span}
use Rattle.abc_heap_values.specs.declared.values.Value.{Value}
use Rattle.abc_heap_values.specs.declared.values.Value.TheVariants.{Undefined, Null, Num, Bool as Truth, Text, Space, Obj}
use Rattle.abc_base_graphs.specs.Ways.{way}
use Rattle.abc_heap_store.specs.Heap.{Heap, Object, object_at}
use Rattle.abc_heap_store.specs.Properties.{at_position, element_at, the_name, walked_next, walked_value}
use Rattle.abc_heap_store.specs.What.{is_array}
use Rattle.abc_frames.specs.Ready.{HasFrameRoom}
use Rattle.abc_objects.specs.Values.{Exists}
use Rattle.abc_ops.specs.Left.{followed_by, gives_left, text_made, text_value}
use Rattle.abc_ops.specs.declared.end.OpEnd.{OpEnd}
use Rattle.abc_link_names.specs.Linked.{LinkedFile}
use Rattle.abc_objects.specs.Objects.{delegate_at}
use Rattle.abc_frames.specs.Frame.{Frames, newest, with_local, with_newest}
use Rattle.abc_meaning.specs.At.{after_pushes}
use Rattle.abc_meaning.specs.Walking as acts
use Rattle.abc_run_state.specs.Operands.{local_at}
use Rattle.abc_run_state.specs.Outer.{at_heap}
use Rattle.abc_run_state.specs.Turns.{GoesOn, on_top, turn_of}
use Rattle.abc_run_names.specs.Walking.{CanWalk, IsWalkPlace, element_named, first_position, named_in, next_along_from, next_position, position_number, position_or_later, position_from, position_of, name_text_or_null, value_at_position, found_or_undefined, object_of_value}
use Rattle.abc_run_names.specs.declared.positions.Position.{Position as At}
use Rattle.abc_meaning.specs.Ops.{operates, outcome}
use Rattle.abc_meaning.specs.Setting.{Setting}
use Rattle.abc_meaning.specs.World.{World, and_then, pure}
use Rattle.abc_run_names.specs.Walked.{holder_in, position_in, positions_of, walked_to, walks_on}

pub walked_is : (v : Value) (w : World) → acts.object_of v w ≡ object_of_value w.heap v
walked_is Undefined w = refl
walked_is Null w = refl
walked_is (Num n) w = refl
walked_is (Truth b) w = refl
walked_is (Text t) w = refl
walked_is (Space n) w = refl
walked_is (Obj o) w = refl

pub position_is : (v : Value) → acts.position v ≡ position_of v
position_is Undefined = refl
position_is Null = refl
position_is (Num n) = refl
position_is (Truth b) = refl
position_is (Text t) = refl
position_is (Space n) = refl
position_is (Obj o) = refl

-- ---- names

made_value : (w : World) (h : Heap) (a : Result Span OpEnd) → and_then (outcome (at_heap h w) a) (λ t. pure (Text t)) ≡ outcome (at_heap (followed_by h a text_value).heap w) (followed_by h a text_value).answer
made_value w h (Ok t) = refl
made_value w h (Err e) = refl

element_is : (k : ℕ) (v : Option Value) (w : World) → acts.element_text k v w ≡ operates (λ h. element_named h k v) w
element_is k None w = refl
element_is k (Some v) w = made_value w (text_made w.heap (decimal (k - 1))).heap (text_made w.heap (decimal (k - 1))).answer

name_if : (ob : Object) (k : ℕ) (w : World) (b : Bool)
    → (if b then acts.element_text k (element_at ob.elements k) else pure (acts.text_or_null (the_name (at_position ob.properties k)))) w
    ≡ operates (λ h. if b then element_named h k (element_at ob.elements k) else gives_left h (name_text_or_null (the_name (at_position ob.properties k)))) w
name_if ob k w true = element_is k (element_at ob.elements k) w
name_if ob k w false = refl

pub name_is : (ob : Option Object) (k : ℕ) (w : World) → acts.walked_name ob k w ≡ operates (λ h. named_in h ob k) w
name_is None k w = refl
name_is (Some ob) k w = name_if ob k w (is_array ob.what)

-- ---- positions

next_same : (ob : Option Object) (k : ℕ) → acts.number_or_zero (acts.next_in ob k) ≡ position_number (next_position ob k)
next_same None k = refl
next_same (Some ob) k = go (walked_next ob k)
  where
    go : (n : Option ℕ) → acts.number_or_zero n ≡ position_number n
    go None = refl
    go (Some n) = refl

pub next_is : (v i : Value) (w : World) → acts.has_next v i w ≡ position_number (next_position (object_of_value w.heap v) (position_of i))
next_is v i w =
    ap (λ ob. acts.number_or_zero (acts.next_in ob (acts.position i))) (walked_is v w)
    ∙ ap (λ k. acts.number_or_zero (acts.next_in (object_of_value w.heap v) k)) (position_is i)
    ∙ next_same (object_of_value w.heap v) (position_of i)

value_same : (ob : Option Object) (k : ℕ) → acts.value_in ob k ≡ value_at_position ob k
value_same None k = refl
value_same (Some ob) k = go (walked_value ob k)
  where
    go : (v : Option Value) → acts.value_or_undefined v ≡ found_or_undefined v
    go None = refl
    go (Some v) = refl

pub value_is : (v i : Value) (w : World) → acts.value_in (acts.object_of v w) (acts.position i) ≡ value_at_position (object_of_value w.heap v) (position_of i)
value_is v i w =
    ap (λ ob. acts.value_in ob (acts.position i)) (walked_is v w)
    ∙ ap (λ k. acts.value_in (object_of_value w.heap v) k) (position_is i)
    ∙ value_same (object_of_value w.heap v) (position_of i)

pub name_at_is : (v i : Value) (w : World) → acts.walked_name (acts.object_of v w) (acts.position i) w ≡ operates (λ h. named_in h (object_of_value w.heap v) (position_of i)) w
name_at_is v i w =
    ap (λ ob. acts.walked_name ob (acts.position i) w) (walked_is v w)
    ∙ ap (λ k. acts.walked_name (object_of_value w.heap v) k w) (position_is i)
    ∙ name_is (object_of_value w.heap v) (position_of i) w

-- what is walked is there, and a number to go on from is in range
pub can_walk : (l : LinkedFile) (h : Heap) (v : Value) → Exists l h v → CanWalk h v
can_walk l h Undefined e = tt
can_walk l h Null e = tt
can_walk l h (Num n) e = tt
can_walk l h (Truth b) e = tt
can_walk l h (Text t) e = tt
can_walk l h (Space n) e = tt
can_walk l h (Obj o) e = e

pub is_place : (l : LinkedFile) (h : Heap) (v : Value) → Exists l h v → IsWalkPlace v
is_place l h Undefined e = tt
is_place l h Null e = tt
is_place l h (Num n) e = e
is_place l h (Truth b) e = tt
is_place l h (Text t) e = tt
is_place l h (Space n) e = tt
is_place l h (Obj o) e = tt

-- ---- along the delegates

at_same : (o : ℕ) (k : Option ℕ) → positions_of (position_from o k) ≡ acts.position_at o k
at_same o None = refl
at_same o (Some k) = refl

later_same : (a b : Option At) → positions_of (position_or_later a b) ≡ acts.or_later (positions_of a) (positions_of b)
later_same None b = refl
later_same (Some a) b = refl

joined_same : (o : ℕ) (k : Option ℕ) (b : Option At) (c : Option acts.Position) → positions_of b ≡ c → positions_of (position_or_later (position_from o k) b) ≡ acts.or_later (acts.position_at o k) c
joined_same o k b c e = later_same (position_from o k) b ∙ ap (λ a. acts.or_later a (positions_of b)) (at_same o k) ∙ ap (acts.or_later (acts.position_at o k)) e

first_same : (h : Heap) (os : List ℕ) → positions_of (first_position h os) ≡ acts.first_along h os
first_same h [] = refl
first_same h (o ∷ os) = joined_same o (walked_next (object_at h.objects o) 0) (first_position h os) (acts.first_along h os) (first_same h os)

pub along_is : (h : Heap) (o : ℕ) (i : Value) (found : Option At) → found ≡ next_along_from h o (position_of i) → positions_of found ≡ acts.next_along (Some o) (acts.position i) h
along_is h o i found e =
    ap positions_of e
    ∙ joined_same o (walked_next (object_at h.objects o) (position_of i)) (first_position h (way (delegate_at h) (delegate_at h o))) (acts.first_along h (way (delegate_at h) (delegate_at h o))) (first_same h (way (delegate_at h) (delegate_at h o)))
    ∙ ap (λ k. acts.next_along (Some o) k h) (sym (position_is i))

pub some_same : (e : Option At) → is_some (positions_of e) ≡ is_some e
some_same None = refl
some_same (Some a) = refl

-- ---- the frame that is left

abbrev walking : Frames → (x y : ℕ) → Value → Value → Bool → Frames
walking q x y v i b = with_newest (after_pushes (Truth b ∷ [])) (with_newest (with_local y i) (with_newest (with_local x v) q))

pub walked_on : (p : Setting) (q r : Frames) (x y : ℕ) (o k v i : Value) (b : Bool) (e : Option At) (w : World) → o ≡ local_at x (newest q) → k ≡ local_at y (newest q) → positions_of e ≡ acts.next_along (acts.object_number o) (acts.position k) w.heap
    → v ≡ holder_in (positions_of e) → i ≡ position_in (positions_of e) → b ≡ is_some e → r ≡ walking q x y v i b → turn_of p q (walks_on x y (newest q) w) ≡ GoesOn w r
walked_on p q r x y o k v i b e w eo ek is ev ei eb er =
    ap (λ s. GoesOn w (on_top (walked_to x y (newest q) (acts.next_along (acts.object_number s) (acts.position (local_at y (newest q))) w.heap)) q)) (sym eo)
    ∙ ap (λ s. GoesOn w (on_top (walked_to x y (newest q) (acts.next_along (acts.object_number o) (acts.position s) w.heap)) q)) (sym ek)
    ∙ ap (λ a. GoesOn w (on_top (walked_to x y (newest q) a) q)) (sym is)
    ∙ ap (λ s. GoesOn w (walking q x y s (position_in (positions_of e)) (is_some (positions_of e)))) (sym ev)
    ∙ ap (λ s. GoesOn w (walking q x y v s (is_some (positions_of e)))) (sym ei)
    ∙ ap (λ s. GoesOn w (walking q x y v i s)) (some_same e ∙ sym eb)
    ∙ ap (GoesOn w) (sym er)

pub ready_local : (q r : Frames) (n k x : ℕ) (v : Value) → HasFrameRoom n k q → r ≡ with_newest (with_local x v) q → HasFrameRoom n k r
ready_local q r n k x v a e = subst (HasFrameRoom n k) (sym e) (record { live = omega arith; operands = a.operands; room = a.room; place = a.place })

pub locals_long : (q r : Frames) (x : ℕ) (v : Value) → r ≡ with_newest (with_local x v) q → length (newest r).locals ≡ length (newest q).locals
locals_long q r x v e = ap (λ (s : Frames). length (newest s).locals) e ∙ length-set (newest q).locals x v
