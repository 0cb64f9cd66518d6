-- What the acts of instructions do.
use Rattle.std.proofs.Common.{ℕ, ◌-◌, List, [], ◌∷◌}
use Rattle.std.specs.Prelude.{Bool, false, pos, negsuc, nat_eq, slice_get, Some, None}
use Rattle.std.specs.Fmt.{decimal}
use Rattle.std.specs.declared.option.Option.{Option}
use Rattle.abc_base.specs.declared.names.HostClass.TheVariants as hosts
use Rattle.abc_heap_values.specs.declared.values.ObjId.{ObjId}
use Rattle.abc_heap_values.specs.declared.values.Span.{Span}
use Rattle.abc_heap_values.specs.declared.values.Value.{Value}
use Rattle.abc_heap_values.specs.declared.values.Value.TheVariants as values
use Rattle.abc_heap_store.specs.Heap.{Object, obj_id}
use Rattle.abc_heap_store.specs.What.{is_array}
use Rattle.abc_heap_store.specs.declared.records.What.{What}
use Rattle.abc_heap_store.specs.declared.records.What.TheVariants as whats
use Rattle.abc_link_names.specs.Bases.{base_named}
use Rattle.abc_link_names.specs.PartsByNumber.{class_at}
use Rattle.abc_link_names.specs.Instances.{instance_at}
use Rattle.abc_link_names.specs.declared.named.Named.{Named}
use Rattle.abc_link_names.specs.declared.named.Named.TheVariants as named
use Rattle.abc_ops.specs.Left.{text_made}
use Rattle.abc_link_names.specs.Linked.{above}
use Rattle.abc_link_names.specs.Owners.{owner_of}
use Rattle.abc_link_names.specs.Slots.{slot_numbered}
use Rattle.abc_link_names.specs.declared.part.LayoutId.{LayoutId}
use Rattle.abc_objects.specs.Stands.{host_class_number}
use Rattle.abc_objects.specs.Searches.{declared_found}
use Rattle.abc_objects.specs.declared.found.ScopeFound.{ScopeFound}
use Rattle.abc_objects.specs.declared.found.ScopeFound.TheVariants.{Object as InObject, Start, Missing}
use Rattle.abc_objects.specs.declared.found.Found.{Found}
use Rattle.abc_objects.specs.declared.found.Want.{Want}
use Rattle.abc_objects.specs.declared.found.Want.TheVariants.{Read, Write}
use Rattle.abc_objects.specs.declared.name.Name.{Name}
use Rattle.abc_verify_typing.specs.Instructions.{local, second_local, targets}
use Rattle.abc_meaning.specs.Calling.{Came, Calls, Got, Makes}
use Rattle.abc_meaning.specs.Setting.{NameForm, NoPart, NoSpace, NoText, Setting, Whole, method_of}
use Rattle.abc_meaning.specs.World.{Errs, Outcome, Run, Sticks, World, and_then, pure, object_named}
use Rattle.abc_frames.specs.Frame.{Frame}
use Rattle.abc_file_types.specs.declared.methods.Method.{Method}
use Rattle.abc_verify_typing.specs.Rules.{super_layout}
use Rattle.abc_meaning.specs.Objects.{class_object}
use Rattle.abc_meaning.specs.At.{Act, ActCase, Goes, Returns, dropping, goes, makes_of_came, number_here, after_pushes, pushing, take_one, take_two}
use Rattle.abc_meaning.specs.Late.{coerces_to_operand, has_property_named, instance_test, late_type, on_slot, reads_slot, type_of_what, writes_slot}
use Rattle.abc_meaning.specs.Names.{name_of, space_of, type_of_operand, name_by_form as named_by}
use Rattle.abc_meaning.specs.Newing.{base_prototype, entries_of, is_none, is_same_object, makes_activation, makes_array, makes_catch, makes_class, makes_function, makes_object, new_scope_object, set_all, unmade}
use Rattle.abc_meaning.specs.Scopes.{find_in_scopes, finds_and_reads, finds_or_global, finds_strictly, found_in}
use Rattle.abc_meaning.specs.Simple.{counts, local_value, returns, scope_object, pushes_scope, switch_target, switches}
use Rattle.abc_meaning.specs.Supers.{base_of_maker, calls_super, constructs_super, on_receiver, on_super, reads_super, runs_base, strict, super_found, writes_super}
use Rattle.abc_meaning.specs.Walking.{Position, element_text, has_next2, walked_name, next_along, object_number, position, walks_to}
use Rattle.abc_meaning.proofs.Adding.{Once, Quiet, done_quiet, if_quiet, once, once_then, operates_quiet, some_quiet, stop_quiet, then_once, then_quiet}
use Rattle.abc_meaning.proofs.Entering.{coerces_quiet, coerces_to_quiet, new_array_quiet, new_class_quiet, new_function_quiet, new_object_quiet, new_of_host_quiet, one_quiet as computes_quiet, owned_quiet, set_property_quiet, spells_quiet, starts_once}
use Rattle.abc_meaning.proofs.Members.{call_once, holder_quiet, read_quiet, reads_quiet, write_quiet, write_slot_quiet}
use Rattle.abc_meaning.proofs.Values.{host_arguments_quiet, set_message_quiet}

-- ---- what is taken, and what is given

pub take_one_quiet : {X : Type 0} (w : World) (vs : List Value) (f : Value → Run X) → ((v : Value) → Quiet w (f v w)) → Quiet w (take_one vs f w)
take_one_quiet w [] f g = stop_quiet w Sticks
take_one_quiet w (v ∷ vs) f g = g v

pub take_two_quiet : {X : Type 0} (w : World) (vs : List Value) (f : Value → Value → Run X) → ((x y : Value) → Quiet w (f x y w)) → Quiet w (take_two vs f w)
take_two_quiet w [] f g = stop_quiet w Sticks
take_two_quiet w (y ∷ []) f g = stop_quiet w Sticks
take_two_quiet w (y ∷ x ∷ vs) f g = g x y

pub gives_quiet : (w : World) (a : ActCase) (o : Outcome Value) → Quiet w o → Quiet w (and_then o (λ v. goes (after_pushes (v ∷ []) a.rest)))
gives_quiet w a o h = then_quiet w _ _ h (λ n v. done_quiet n _)

pub came_quiet : (w : World) (a : ActCase) (o : Outcome Came) → Quiet w o → Quiet w (and_then o (λ c. pure (Goes (pushing a.rest c))))
came_quiet w a o h = then_quiet w _ _ h (λ n c. done_quiet n _)

pub drops_quiet : (w : World) (a : ActCase) (o : Outcome Came) → Quiet w o → Quiet w (and_then o (λ c. pure (Goes (dropping a.rest c))))
drops_quiet w a o h = then_quiet w _ _ h (λ n c. done_quiet n _)

-- the same, where something may be written or started

pub take_one_once : {X : Type 0} (w : World) (vs : List Value) (f : Value → Run X) → ((v : Value) → Once w (f v w)) → Once w (take_one vs f w)
take_one_once w [] f g = once w _ (stop_quiet w Sticks)
take_one_once w (v ∷ vs) f g = g v

pub take_two_once : {X : Type 0} (w : World) (vs : List Value) (f : Value → Value → Run X) → ((x y : Value) → Once w (f x y w)) → Once w (take_two vs f w)
take_two_once w [] f g = once w _ (stop_quiet w Sticks)
take_two_once w (y ∷ []) f g = once w _ (stop_quiet w Sticks)
take_two_once w (y ∷ x ∷ vs) f g = g x y

pub came_once : (w : World) (a : ActCase) (o : Outcome Came) → Once w o → Once w (and_then o (λ c. pure (Goes (pushing a.rest c))))
came_once w a o h = once_then w _ _ h (λ n c. done_quiet n _)

pub drops_once : (w : World) (a : ActCase) (o : Outcome Came) → Once w o → Once w (and_then o (λ c. pure (Goes (dropping a.rest c))))
drops_once w a o h = once_then w _ _ h (λ n c. done_quiet n _)

pub makes_of_quiet : (w : World) (a : ActCase) (f : Value → Run Came) → ((n : World) (v : Value) → Quiet n (f v n)) → (c : Came) → Quiet w (makes_of_came a f c w)
makes_of_quiet w a f g (Got v) = then_quiet w _ _ (g w v) (λ n c. done_quiet n _)
makes_of_quiet w a f g (Calls h) = done_quiet w _
makes_of_quiet w a f g (Makes h v) = stop_quiet w Sticks

pub flag_quiet : (w : World) (o : Outcome Bool) → Quiet w o → Quiet w (and_then o (λ b. pure (values.Bool b)))
flag_quiet w o h = then_quiet w _ _ h (λ n b. done_quiet n _)

-- ---- branches, returns, scopes and locals

switched_quiet : (w : World) (ts : List ℕ) (v : Value) → Quiet w (switch_target ts v w)
switched_quiet w [] v = stop_quiet w Sticks
switched_quiet w (d ∷ ts) (values.Num (pos n)) = done_quiet w _
switched_quiet w (d ∷ ts) (values.Num (negsuc n)) = done_quiet w d
switched_quiet w (d ∷ ts) values.Undefined = stop_quiet w Sticks
switched_quiet w (d ∷ ts) values.Null = stop_quiet w Sticks
switched_quiet w (d ∷ ts) (values.Bool b) = stop_quiet w Sticks
switched_quiet w (d ∷ ts) (values.Text t) = stop_quiet w Sticks
switched_quiet w (d ∷ ts) (values.Space n) = stop_quiet w Sticks
switched_quiet w (d ∷ ts) (values.Obj o) = stop_quiet w Sticks

pub switches_quiet : (w : World) (a : ActCase) → Quiet w (switches a w)
switches_quiet w a = take_one_quiet w a.values _ (λ v. then_quiet w _ _ (switched_quiet w (targets a.here.instr) v) (λ n t. done_quiet n _))

pub returns_quiet : (w : World) (p : Setting) (f : Frame) (v : Value) → Quiet w (returns p f v w)
returns_quiet w p f v = then_quiet w _ _ (some_quiet w (method_of p f.method)) (λ (n : World) (m : Method). then_quiet n _ _ (coerces_to_quiet p n m.ret v) (λ i r. done_quiet i (Returns r)))

pub scoped_quiet : (w : World) (is_with : Bool) (f : Frame) (v : Value) → Quiet w (pushes_scope is_with f v w)
scoped_quiet w is_with f (values.Obj o) = done_quiet w _
scoped_quiet w is_with f values.Undefined = stop_quiet w (Errs hosts.TypeError)
scoped_quiet w is_with f values.Null = stop_quiet w (Errs hosts.TypeError)
scoped_quiet w is_with f (values.Num n) = stop_quiet w (Errs hosts.TypeError)
scoped_quiet w is_with f (values.Bool b) = stop_quiet w (Errs hosts.TypeError)
scoped_quiet w is_with f (values.Text t) = stop_quiet w (Errs hosts.TypeError)
scoped_quiet w is_with f (values.Space n) = stop_quiet w (Errs hosts.TypeError)

pub scope_object_quiet : (w : World) (a : ActCase) → Quiet w (scope_object a w)
scope_object_quiet w a = then_quiet w _ _ (some_quiet w _) (λ n e. done_quiet n _)

pub local_quiet : (w : World) (a : ActCase) → Quiet w (local_value a w)
local_quiet w a = some_quiet w _

pub counts_quiet : (w : World) (operation : ℕ) (a : ActCase) → Quiet w (counts operation a w)
counts_quiet w operation a = then_quiet w _ _ (local_quiet w a) (λ n v. then_quiet n _ _ (computes_quiet a.setting n operation v) (λ i r. done_quiet i _))

-- ---- names

space_quiet : (w : World) (v : Value) → Quiet w (space_of v w)
space_quiet w (values.Space n) = done_quiet w _
space_quiet w values.Null = stop_quiet w (Errs hosts.TypeError)
space_quiet w values.Undefined = stop_quiet w Sticks
space_quiet w (values.Num n) = stop_quiet w Sticks
space_quiet w (values.Bool b) = stop_quiet w Sticks
space_quiet w (values.Text t) = stop_quiet w Sticks
space_quiet w (values.Obj o) = stop_quiet w Sticks

named_quiet : (w : World) (p : Setting) (form : Option NameForm) (vs : List Value) → Quiet w (named_by p form vs w)
named_quiet w p None vs = stop_quiet w Sticks
named_quiet w p (Some (Whole name)) vs = done_quiet w name
named_quiet w p (Some (NoSpace text)) [] = stop_quiet w Sticks
named_quiet w p (Some (NoSpace text)) (s ∷ vs) = then_quiet w _ _ (space_quiet w s) (λ n of. done_quiet n _)
named_quiet w p (Some (NoText of)) [] = stop_quiet w Sticks
named_quiet w p (Some (NoText of)) (t ∷ vs) = then_quiet w _ _ (spells_quiet p w t) (λ n text. done_quiet n _)
named_quiet w p (Some NoPart) [] = stop_quiet w Sticks
named_quiet w p (Some NoPart) (t ∷ []) = stop_quiet w Sticks
named_quiet w p (Some NoPart) (t ∷ s ∷ vs) = then_quiet w _ _ (spells_quiet p w t) (λ n text. then_quiet n _ _ (space_quiet n s) (λ i of. done_quiet i _))

pub name_quiet : (w : World) (a : ActCase) → Quiet w (name_of a w)
name_quiet w a = named_quiet w a.setting _ a.parts

pub type_quiet : (w : World) (a : ActCase) → Quiet w (type_of_operand a w)
type_quiet w a = some_quiet w _

-- ---- types of class objects, slots, membership

what_type_quiet : (w : World) (p : Setting) (what : What) → Quiet w (type_of_what p what w)
what_type_quiet w p (whats.ClassObject k home statics instances) = done_quiet w _
what_type_quiet w p (whats.HostClass c) = done_quiet w _
what_type_quiet w p (whats.Closure n home scope bound) = stop_quiet w (Errs hosts.TypeError)
what_type_quiet w p whats.Trace = stop_quiet w (Errs hosts.TypeError)
what_type_quiet w p (whats.Formula n) = stop_quiet w (Errs hosts.TypeError)
what_type_quiet w p whats.Plain = stop_quiet w (Errs hosts.TypeError)
what_type_quiet w p whats.HostObject = stop_quiet w (Errs hosts.TypeError)
what_type_quiet w p (whats.Global s) = stop_quiet w (Errs hosts.TypeError)
what_type_quiet w p whats.Activation = stop_quiet w (Errs hosts.TypeError)
what_type_quiet w p whats.Catch = stop_quiet w (Errs hosts.TypeError)
what_type_quiet w p whats.Array = stop_quiet w (Errs hosts.TypeError)

pub late_quiet : (w : World) (p : Setting) (v : Value) → Quiet w (late_type p v w)
late_quiet w p (values.Obj o) = then_quiet w _ _ (some_quiet w (object_named o w)) (λ (n : World) (ob : Object). what_type_quiet n p ob.what)
late_quiet w p values.Undefined = stop_quiet w (Errs hosts.TypeError)
late_quiet w p values.Null = stop_quiet w (Errs hosts.TypeError)
late_quiet w p (values.Num n) = stop_quiet w (Errs hosts.TypeError)
late_quiet w p (values.Bool b) = stop_quiet w (Errs hosts.TypeError)
late_quiet w p (values.Text t) = stop_quiet w (Errs hosts.TypeError)
late_quiet w p (values.Space n) = stop_quiet w (Errs hosts.TypeError)

pub coerces_operand_quiet : (w : World) (a : ActCase) → Quiet w (coerces_to_operand a w)
coerces_operand_quiet w a = take_one_quiet w a.values _ (λ v. then_quiet w _ _ (type_quiet w a) (λ n t. coerces_quiet a.setting n t v))

pub instance_quiet : (w : World) (a : ActCase) → Quiet w (instance_test a w)
instance_quiet w a = take_two_quiet w a.values _ (λ v c. then_quiet w _ _ (late_quiet w a.setting c) (λ n t. done_quiet n _))

pub has_name_quiet : (w : World) (a : ActCase) → Quiet w (has_property_named a w)
has_name_quiet w a = take_two_quiet w a.values _ (λ x o. then_quiet w _ _ (spells_quiet a.setting w x) (λ n t. holder_quiet n o _ (done_quiet n _)))

slot_quiet : {X : Type 0} (w : World) (a : ActCase) (v : Value) (f : ObjId → Object → ℕ → Run X) → ((n : World) (o : ObjId) (ob : Object) (k : ℕ) → Quiet n (f o ob k n)) → Quiet w (on_slot a v f w)
slot_quiet w a (values.Obj o) f g = then_quiet w _ _ (some_quiet w (object_named o w)) (λ (n : World) (ob : Object). then_quiet n _ _ (some_quiet n (slot_numbered a.setting.linked ob.layout (number_here a))) (λ i k. g i o ob k))
slot_quiet w a values.Null f g = stop_quiet w (Errs hosts.TypeError)
slot_quiet w a values.Undefined f g = stop_quiet w Sticks
slot_quiet w a (values.Num n) f g = stop_quiet w Sticks
slot_quiet w a (values.Bool b) f g = stop_quiet w Sticks
slot_quiet w a (values.Text t) f g = stop_quiet w Sticks
slot_quiet w a (values.Space n) f g = stop_quiet w Sticks

pub reads_slot_quiet : (w : World) (a : ActCase) → Quiet w (reads_slot a w)
reads_slot_quiet w a = take_one_quiet w a.values _ (λ r. slot_quiet w a r _ (λ (n : World) (o : ObjId) (ob : Object) (k : ℕ). some_quiet n (slice_get ob.slots k)))

pub writes_slot_quiet : (w : World) (a : ActCase) → Quiet w (writes_slot a w)
writes_slot_quiet w a = take_two_quiet w a.values _ (λ r v. then_quiet w _ _ (slot_quiet w a r _ (λ n o ob k. write_slot_quiet a.setting n o k v)) (λ n u. done_quiet n _))

-- ---- walking

element_text_quiet : (w : World) (k : ℕ) (v : Option Value) → Quiet w (element_text k v w)
element_text_quiet w k None = done_quiet w values.Null
element_text_quiet w k (Some v) = then_quiet w _ _ (operates_quiet (λ h. text_made h (decimal (k - 1))) w) (λ n t. done_quiet n _)

pub name_in_quiet : (w : World) (ob : Option Object) (k : ℕ) → Quiet w (walked_name ob k w)
name_in_quiet w None k = done_quiet w values.Null
name_in_quiet w (Some ob) k = if_quiet w (is_array ob.what) _ _ (element_text_quiet w k _) (done_quiet w _)

walks_quiet : (w : World) (a : ActCase) (e : Option Position) → Quiet w (walks_to a e w)
walks_quiet w a None = done_quiet w _
walks_quiet w a (Some e) = done_quiet w _

pub has_next2_quiet : (w : World) (a : ActCase) → Quiet w (has_next2 a w)
has_next2_quiet w a = then_quiet w _ _ (some_quiet w (slice_get a.frame.locals (local a.here.instr))) (λ n v. then_quiet n _ _ (some_quiet n (slice_get a.frame.locals (second_local a.here.instr))) (λ (i : World) (x : Value). walks_quiet i a (next_along (object_number v) (position x) i.heap)))

-- ---- what is made

pub function_quiet : (w : World) (a : ActCase) → Quiet w (makes_function a w)
function_quiet w a = then_quiet w _ _ (new_function_quiet a.setting w _ _ _ _) (λ n o. done_quiet n _)

pub array_quiet : (w : World) (a : ActCase) → Quiet w (makes_array a w)
array_quiet w a = then_quiet w _ _ (new_array_quiet a.setting w a.args) (λ n o. done_quiet n _)

entries_quiet : (w : World) (p : Setting) (vs : List Value) → Quiet w (entries_of p vs w)
entries_quiet w p [] = done_quiet w []
entries_quiet w p (n ∷ []) = done_quiet w []
entries_quiet w p (n ∷ v ∷ vs) = then_quiet w _ _ (spells_quiet p w n) (λ i t. then_quiet i _ _ (entries_quiet i p vs) (λ j es. done_quiet j _))

set_all_quiet : (w : World) (p : Setting) (o : ObjId) (es : List (Span × Value)) → Quiet w (set_all p o es w)
set_all_quiet w p o [] = done_quiet w tt
set_all_quiet w p o (e ∷ es) = then_quiet w _ _ (set_property_quiet p w o e.0 e.1) (λ n u. set_all_quiet n p o es)

pub object_quiet : (w : World) (a : ActCase) → Quiet w (makes_object a w)
object_quiet w a = then_quiet w _ _ (entries_quiet w a.setting a.args) (λ n es. then_quiet n _ _ (new_of_host_quiet a.setting n hosts.Object whats.Plain) (λ i o. then_quiet i _ _ (set_all_quiet i a.setting o es) (λ j u. done_quiet j _)))

scope_made_quiet : (w : World) (a : ActCase) (layout : LayoutId) (what : What) → Quiet w (new_scope_object a layout what w)
scope_made_quiet w a layout what = then_quiet w _ _ (new_object_quiet a.setting w layout.0 _ what) (λ n o. done_quiet n _)

pub activation_quiet : (w : World) (a : ActCase) → Quiet w (makes_activation a w)
activation_quiet w a = scope_made_quiet w a a.here.method.activation whats.Activation

pub catch_quiet : (w : World) (a : ActCase) → Quiet w (makes_catch a w)
catch_quiet w a = then_quiet w _ _ (some_quiet w _) (λ n h. scope_made_quiet n a h.layout whats.Catch)

that_quiet : (w : World) (o : Option ObjId) (v : Value) → Quiet w (is_same_object o v w)
that_quiet w None v = stop_quiet w (Errs hosts.TypeError)
that_quiet w (Some o) (values.Obj b) = if_quiet w (nat_eq o.0 b.0) _ _ (done_quiet w _) (stop_quiet w (Errs hosts.TypeError))
that_quiet w (Some o) values.Undefined = stop_quiet w (Errs hosts.TypeError)
that_quiet w (Some o) values.Null = stop_quiet w (Errs hosts.TypeError)
that_quiet w (Some o) (values.Num n) = stop_quiet w (Errs hosts.TypeError)
that_quiet w (Some o) (values.Bool b) = stop_quiet w (Errs hosts.TypeError)
that_quiet w (Some o) (values.Text t) = stop_quiet w (Errs hosts.TypeError)
that_quiet w (Some o) (values.Space n) = stop_quiet w (Errs hosts.TypeError)

none_quiet : (w : World) (v : Value) → Quiet w (is_none v w)
none_quiet w values.Null = done_quiet w None
none_quiet w values.Undefined = stop_quiet w (Errs hosts.TypeError)
none_quiet w (values.Num n) = stop_quiet w (Errs hosts.TypeError)
none_quiet w (values.Bool b) = stop_quiet w (Errs hosts.TypeError)
none_quiet w (values.Text t) = stop_quiet w (Errs hosts.TypeError)
none_quiet w (values.Space n) = stop_quiet w (Errs hosts.TypeError)
none_quiet w (values.Obj o) = stop_quiet w (Errs hosts.TypeError)

base_quiet : (w : World) (o : Option Named) (v : Value) → Quiet w (base_prototype o v w)
base_quiet w None v = none_quiet w v
base_quiet w (Some (named.Host c)) v = that_quiet w (Some (obj_id (host_class_number c))) v
base_quiet w (Some (named.Class j)) v = that_quiet w (class_object j w) v
base_quiet w (Some named.Any) v = stop_quiet w Sticks
base_quiet w (Some named.Void) v = stop_quiet w Sticks

unmade_quiet : (w : World) (o : Option ObjId) → Quiet w (unmade o w)
unmade_quiet w None = done_quiet w tt
unmade_quiet w (Some o) = stop_quiet w (Errs hosts.TypeError)

pub class_quiet : (w : World) (a : ActCase) → Quiet w (makes_class a w)
class_quiet w a =
    take_one_quiet w a.values _ (λ v.
    then_quiet w _ _ (unmade_quiet w _) (λ n u.
    then_quiet n _ _ (base_quiet n (base_named a.setting.linked.file (number_here a)) v) (λ i base.
    then_quiet i _ _ (new_class_quiet a.setting i _ _ base _ _) (λ j o.
    then_quiet j _ _ (owned_quiet a.setting j (class_at a.setting.linked.file (number_here a)).cinit (values.Obj o) []) (λ k g. done_quiet k _)))))

-- ---- searches in scopes

found_once : (w : World) (a : ActCase) (found : ScopeFound) (f : ObjId → Run Act) (otherwise : Run Act) → ((o : ObjId) → Quiet w (f o w)) → Quiet w (otherwise w) → Once w (found_in a found f otherwise w)
found_once w a (InObject o) f otherwise g h = once w _ (g o)
found_once w a (Start s) f otherwise g h = once_then w _ _ (starts_once a.setting w s) (λ n e. done_quiet n _)
found_once w a Missing f otherwise g h = once w _ h

pub strictly_once : (w : World) (a : ActCase) → Once w (finds_strictly a w)
strictly_once w a = then_once w _ _ (name_quiet w a) (λ n name. found_once n a (find_in_scopes a name n) _ _ (λ o. done_quiet n _) (stop_quiet n (Errs hosts.ReferenceError)))

pub or_global_once : (w : World) (a : ActCase) → Once w (finds_or_global a w)
or_global_once w a = then_once w _ _ (name_quiet w a) (λ n name. found_once n a (find_in_scopes a name n) _ _ (λ o. done_quiet n _) (done_quiet n _))

pub and_reads_once : (w : World) (a : ActCase) → Once w (finds_and_reads a w)
and_reads_once w a = then_once w _ _ (name_quiet w a) (λ n name. found_once n a (find_in_scopes a name n) _ _ (λ o. came_quiet n a _ (reads_quiet a.setting n (values.Obj o) name)) (stop_quiet n (Errs hosts.ReferenceError)))

-- ---- super operations

receiver_quiet : {X : Type 0} (w : World) (v : Value) (f : ObjId → Run X) → ((o : ObjId) → Quiet w (f o w)) → Quiet w (on_receiver v f w)
receiver_quiet w (values.Obj o) f g = g o
receiver_quiet w values.Null f g = stop_quiet w (Errs hosts.TypeError)
receiver_quiet w values.Undefined f g = stop_quiet w Sticks
receiver_quiet w (values.Num n) f g = stop_quiet w Sticks
receiver_quiet w (values.Bool b) f g = stop_quiet w Sticks
receiver_quiet w (values.Text t) f g = stop_quiet w Sticks
receiver_quiet w (values.Space n) f g = stop_quiet w Sticks

receiver_once : {X : Type 0} (w : World) (v : Value) (f : ObjId → Run X) → ((o : ObjId) → Once w (f o w)) → Once w (on_receiver v f w)
receiver_once w (values.Obj o) f g = g o
receiver_once w values.Null f g = once w _ (stop_quiet w (Errs hosts.TypeError))
receiver_once w values.Undefined f g = once w _ (stop_quiet w Sticks)
receiver_once w (values.Num n) f g = once w _ (stop_quiet w Sticks)
receiver_once w (values.Bool b) f g = once w _ (stop_quiet w Sticks)
receiver_once w (values.Text t) f g = once w _ (stop_quiet w Sticks)
receiver_once w (values.Space n) f g = once w _ (stop_quiet w Sticks)

super_found_quiet : (w : World) (a : ActCase) (o : ObjId) (name : Name) (want : Want) → Quiet w (super_found a o name want w)
super_found_quiet w a o name want =
    then_quiet w _ _ (some_quiet w (object_named o w)) (λ (n : World) (ob : Object).
    then_quiet n _ _ (some_quiet n (super_layout a.here.row.site a.here.method.home)) (λ (i : World) (layout : LayoutId).
    done_quiet i (strict (declared_found a.setting.linked i.heap ob.layout (above a.setting.linked layout.0) name want))))

super_quiet : (w : World) (a : ActCase) (v : Value) (want : Want) (f : ObjId → Name → Found → Run Came) → ((n : World) (o : ObjId) (name : Name) (found : Found) → Quiet n (f o name found n)) → Quiet w (on_super a v want f w)
super_quiet w a v want f g = then_quiet w _ _ (name_quiet w a) (λ n name. receiver_quiet n v _ (λ o. then_quiet n _ _ (super_found_quiet n a o name want) (λ i found. g i o name found)))

super_once : (w : World) (a : ActCase) (v : Value) (want : Want) (f : ObjId → Name → Found → Run Came) → ((n : World) (o : ObjId) (name : Name) (found : Found) → Once n (f o name found n)) → Once w (on_super a v want f w)
super_once w a v want f g = then_once w _ _ (name_quiet w a) (λ n name. receiver_once n v _ (λ o. then_once n _ _ (super_found_quiet n a o name want) (λ i found. g i o name found)))

pub reads_super_quiet : (w : World) (a : ActCase) → Quiet w (reads_super a w)
reads_super_quiet w a = take_one_quiet w a.values _ (λ v. super_quiet w a v Read _ (λ n o name found. read_quiet a.setting n found (values.Obj o)))

pub writes_super_quiet : (w : World) (a : ActCase) → Quiet w (writes_super a w)
writes_super_quiet w a = take_two_quiet w a.values _ (λ r v. super_quiet w a r Write _ (λ n o name found. write_quiet a.setting n o name v false found))

pub calls_super_once : (w : World) (a : ActCase) → Once w (calls_super a w)
calls_super_once w a = take_one_once w a.values _ (λ v. super_once w a v Read _ (λ n o name found. call_once a.setting n found (values.Obj o) (values.Obj o) a.args))

runs_base_quiet : (w : World) (a : ActCase) (o : ObjId) (b : Option Named) → Quiet w (runs_base a o b w)
runs_base_quiet w a o None = stop_quiet w Sticks
runs_base_quiet w a o (Some (named.Class b)) = then_quiet w _ _ (owned_quiet a.setting w (instance_at a.setting.linked.file b).iinit (values.Obj o) a.args) (λ n g. done_quiet n _)
runs_base_quiet w a o (Some (named.Host c)) = then_quiet w _ _ (host_arguments_quiet a.setting w c a.args) (λ n message. then_quiet n _ _ (set_message_quiet a.setting n o message) (λ i u. done_quiet i _))
runs_base_quiet w a o (Some named.Any) = stop_quiet w Sticks
runs_base_quiet w a o (Some named.Void) = stop_quiet w Sticks

pub constructs_quiet : (w : World) (a : ActCase) → Quiet w (constructs_super a w)
constructs_quiet w a = take_one_quiet w a.values _ (λ v. receiver_quiet w v _ (λ o. runs_base_quiet w a o (base_of_maker a (owner_of a.setting.linked.file a.frame.method))))
