-- The message of Object and of the errors, and the object that takes it.
use Rattle.std.proofs.Common.{◌≡◌, ℕ, ◌-◌, ◌<◌, ◌≤◌, List, [], ◌∷◌, Bool, true, nat_le, length, refl, sym, ap, ◌∙◌, arith, if◌then◌else◌}
use Rattle.std.specs.Prelude.{Ok, Err}
use Rattle.std.specs.declared.option.Option.{Option}
use Rattle.std.specs.declared.result.Result.{Result}
use Rattle.std.proofs.lemmas.Bool.Decides.{nat_tests}
use Rattle.abc_base.specs.declared.names.HostClass.{HostClass}
use Rattle.abc_base.specs.declared.names.HostClass.TheVariants as hosts
use Rattle.abc_heap_values.specs.declared.values.ObjId.{ObjId}
use Rattle.abc_heap_values.specs.declared.values.Span.{Span}
use Rattle.abc_heap_values.specs.declared.values.Value.{Value}
use Rattle.abc_heap_values.specs.declared.values.Value.TheVariants.{Text, Obj}
use Rattle.abc_heap_store.specs.Heap.{Heap}
use Rattle.abc_heap_store.specs.declared.records.What.TheVariants as whats
use Rattle.abc_objects.specs.Stands.{host_layout}
use Rattle.abc_ops.specs.Conversions.{spelling}
use Rattle.abc_ops.specs.Left.{followed_by, text_value}
use Rattle.abc_ops.specs.declared.end.OpEnd.{OpEnd}
use Rattle.abc_link_names.specs.Linked.{layout_of}
use Rattle.abc_link_names.specs.declared.part.LayoutId.{LayoutId}
use Rattle.abc_link_names.specs.declared.part.Part.TheVariants as parts
use Rattle.abc_frames.specs.Frame.{Frame, arguments}
use Rattle.abc_run_state.specs.Operands.{operand_at}
use Rattle.abc_run_state.specs.Settling.{settles_how}
use Rattle.abc_run_state.specs.declared.state.How.{How}
use Rattle.abc_meaning.specs.Calling.{Came, got}
use Rattle.abc_meaning.specs.Making.{host_arguments, message_of, most_arguments, new_plain, prototype_in, set_message}
use Rattle.abc_meaning.specs.Objects.{new_object}
use Rattle.abc_meaning.specs.Ops.{as_text, outcome, spells}
use Rattle.abc_meaning.specs.Setting.{Setting}
use Rattle.abc_meaning.specs.World.{Outcome, Run, Stop, Stopped, Went, World, and_then, pure, see, throws, ◌>>=◌, ◌>>◌}
use Rattle.abc_run_calls.proofs.Operands.{count_given, given_at}
use Rattle.abc_run_calls.specs.Calls.{makes_of_class, makes_plain, plain_object, settled_by}

-- ---- the text of the first argument

-- a text as a value
abbrev texted : Outcome Span → Outcome Value
texted (Went w t) = Went w (Text t)
texted (Stopped w why) = Stopped w why

text_is : (p : Setting) (v : Value) (w : World) → as_text p v w ≡ texted (spells p v w)
text_is p v w = go (spelling p.linked w.heap v).heap (spelling p.linked w.heap v).answer
  where
    go : (h : Heap) (r : Result Span OpEnd) → outcome (record w { heap = (followed_by h r text_value).heap }) (followed_by h r text_value).answer ≡ texted (outcome (record w { heap = h }) r)
    go h (Ok t) = refl
    go h (Err e) = refl

-- ---- the arguments

counted : (p : Setting) (c : HostClass) (vs : List Value) (w : World) (b : Bool) → nat_le (length vs) (most_arguments c) ≡ b → host_arguments p c vs w ≡ (if b then message_of p vs else throws hosts.ArgumentError) w
counted p c vs w b e = ap (λ (t : Bool). (if t then message_of p vs else throws hosts.ArgumentError) w) e

few : (p : Setting) (c : HostClass) (f : Frame) (count : ℕ) (w : World) → count ≤ length f.stack → count ≤ most_arguments c → host_arguments p c (arguments count f) w ≡ message_of p (arguments count f) w
few p c f count w le most = counted p c (arguments count f) w true (ap (λ n. nat_le n (most_arguments c)) (count_given f count le) ∙ within (most_arguments c) count most)
  where
    within : (a b : ℕ) → b ≤ a → nat_le b a ≡ true
    within a b h = grind (arith, nat_tests)

first_message : (p : Setting) (f : Frame) (count : ℕ) (w : World) → 0 < count → count ≤ length f.stack → message_of p (arguments count f) w ≡ and_then (texted (spells p (operand_at (count - 1) f) w)) (λ t. pure (t ∷ []))
first_message p f count w some le =
    let last : count - 1 - 0 ≡ count - 1 = omega arith in
    ap (λ (vs : List Value). message_of p vs w) (given_at f count 0 some le)
    ∙ ap (λ n. and_then (as_text p (operand_at n f) w) (λ t. pure (t ∷ []))) last
    ∙ ap (λ o. and_then o (λ t. pure (t ∷ []))) (text_is p (operand_at (count - 1) f) w)

pub message_made : (p : Setting) (c : HostClass) (f : Frame) (count : ℕ) (w after : World) (t : Span) → 0 < count → count ≤ length f.stack → count ≤ most_arguments c → spells p (operand_at (count - 1) f) w ≡ Went after t
    → host_arguments p c (arguments count f) w ≡ Went after (Text t ∷ [])
message_made p c f count w after t some le most e = few p c f count w le most ∙ first_message p f count w some le ∙ ap (λ o. and_then (texted o) (λ x. pure (x ∷ []))) e

pub message_stops : (p : Setting) (c : HostClass) (f : Frame) (count : ℕ) (w after : World) (why : Stop) → 0 < count → count ≤ length f.stack → count ≤ most_arguments c → spells p (operand_at (count - 1) f) w ≡ Stopped after why
    → host_arguments p c (arguments count f) w ≡ Stopped after why
message_stops p c f count w after why some le most e = few p c f count w le most ∙ first_message p f count w some le ∙ ap (λ o. and_then (texted o) (λ x. pure (x ∷ []))) e

-- ---- the object, and its message

abbrev telling : Setting → ObjId → List Value → Run ObjId
telling p made message = set_message p made message >> pure made

abbrev making : Setting → ObjId → HostClass → List Value → Run ObjId
making p o c message = see (prototype_in o) >>= λ d. new_object p (host_layout p.linked c) d whats.Plain >>= λ made. telling p made message

pub plain_made : (p : Setting) (o made : ObjId) (c : HostClass) (args message : List Value) (w told there after : World) (u : Unit {0}) → host_arguments p c args w ≡ Went told message → new_object p (host_layout p.linked c) (prototype_in o told) whats.Plain told ≡ Went there made
    → set_message p made message there ≡ Went after u → plain_object p o c args w ≡ Went after made
plain_made p o made c args message w told there after u a b e =
    ap (λ r. and_then r (making p o c)) a ∙ ap (λ r. and_then r (λ m. telling p m message)) b ∙ ap (λ r. and_then r (λ x. pure made)) e

pub plain_untold : (p : Setting) (o made : ObjId) (c : HostClass) (args message : List Value) (w told there after : World) (why : Stop) → host_arguments p c args w ≡ Went told message → new_object p (host_layout p.linked c) (prototype_in o told) whats.Plain told ≡ Went there made
    → set_message p made message there ≡ Stopped after why → plain_object p o c args w ≡ Stopped after why
plain_untold p o made c args message w told there after why a b e =
    ap (λ r. and_then r (making p o c)) a ∙ ap (λ r. and_then r (λ m. telling p m message)) b ∙ ap (λ r. and_then r (λ x. pure made)) e

pub plain_unmade : (p : Setting) (o : ObjId) (c : HostClass) (args message : List Value) (w told after : World) (why : Stop) → host_arguments p c args w ≡ Went told message → new_object p (host_layout p.linked c) (prototype_in o told) whats.Plain told ≡ Stopped after why
    → plain_object p o c args w ≡ Stopped after why
plain_unmade p o c args message w told after why a b =
    ap (λ r. and_then r (making p o c)) a ∙ ap (λ r. and_then r (λ m. telling p m message)) b

-- the object, by the layout and the delegate that are found
pub object_by : (p : Setting) (o : ObjId) (c : HostClass) (layout : LayoutId) (d : Option ObjId) (w : World) → layout ≡ layout_of p.linked (parts.Host c) → d ≡ prototype_in o w → new_object p (host_layout p.linked c) (prototype_in o w) whats.Plain w ≡ new_object p layout.0 d whats.Plain w
object_by p o c layout d w el ed =
    ap (λ (x : LayoutId). new_object p x.0 (prototype_in o w) whats.Plain w) (sym el) ∙ ap (λ (x : Option ObjId). new_object p layout.0 x whats.Plain w) (sym ed)

-- ---- Object, Error and its three

abbrev pub IsPlain : HostClass → Type 0
IsPlain hosts.Object = Unit {0}
IsPlain hosts.Error = Unit {0}
IsPlain hosts.TypeError = Unit {0}
IsPlain hosts.ReferenceError = Unit {0}
IsPlain hosts.ArgumentError = Unit {0}
IsPlain other = ⊥

abbrev came : ObjId → Run Came
came made = got (Obj made)

plain_new : (p : Setting) (o : ObjId) (c : HostClass) (args : List Value) (w : World) → new_plain p o c args w ≡ and_then (plain_object p o c args w) came
plain_new p o c args w = first (host_arguments p c args w)
  where
    third : (made : ObjId) (r : Outcome (Unit {0})) → and_then r (λ u. came made) ≡ and_then (and_then r (λ u. pure made)) came
    third made (Went n u) = refl
    third made (Stopped n why) = refl

    second : (message : List Value) (r : Outcome ObjId) → and_then r (λ made. set_message p made message >> came made) ≡ and_then (and_then r (λ made. telling p made message)) came
    second message (Went n made) = third made (set_message p made message n)
    second message (Stopped n why) = refl

    first : (r : Outcome (List Value)) → and_then r (λ message. see (prototype_in o) >>= λ d. new_object p (host_layout p.linked c) d whats.Plain >>= λ made. set_message p made message >> came made) ≡ and_then (and_then r (making p o c)) came
    first (Went n message) = second message (new_object p (host_layout p.linked c) (prototype_in o n) whats.Plain n)
    first (Stopped n why) = refl

settled : (p : Setting) (o : ObjId) (c : HostClass) (count : ℕ) (how : How) (f : Frame) (w : World) → settled_by how f (new_plain p o c (arguments count f)) w ≡ makes_plain p o c count how f w
settled p o c count how f w = ap (λ r. and_then r (settles_how how f)) (plain_new p o c (arguments count f) w)

pub made_plain : (p : Setting) (o : ObjId) (c : HostClass) (count : ℕ) (how : How) (f : Frame) (w : World) → IsPlain c → makes_of_class p o c count how f w ≡ makes_plain p o c count how f w
made_plain p o hosts.Object count how f w i = settled p o hosts.Object count how f w
made_plain p o hosts.Error count how f w i = settled p o hosts.Error count how f w
made_plain p o hosts.TypeError count how f w i = settled p o hosts.TypeError count how f w
made_plain p o hosts.ReferenceError count how f w i = settled p o hosts.ReferenceError count how f w
made_plain p o hosts.ArgumentError count how f w i = settled p o hosts.ArgumentError count how f w
made_plain p o hosts.Class count how f w i = absurd i
made_plain p o hosts.Function count how f w i = absurd i
made_plain p o hosts.Namespace count how f w i = absurd i
made_plain p o hosts.Str count how f w i = absurd i
made_plain p o hosts.Int count how f w i = absurd i
made_plain p o hosts.UInt count how f w i = absurd i
made_plain p o hosts.Number count how f w i = absurd i
made_plain p o hosts.Boolean count how f w i = absurd i
made_plain p o hosts.Array count how f w i = absurd i
