-- Calls of values, and `new` on them.
use Rattle.std.proofs.Common.{ℕ, List, [], ◌∷◌, ◌++◌, length, refl, inl}
use Rattle.std.specs.Prelude.{ℤ, pos, negsuc, map, nat_eq, nat_le, replicate, slice_get, Some, None}
use Rattle.std.specs.declared.option.Option.{Option}
use Rattle.abc_base.specs.Hosts.{number_or_none, value_of}
use Rattle.abc_base.specs.declared.formula.Formula.{Formula}
use Rattle.abc_base.specs.declared.names.Fault.TheVariants as faults
use Rattle.abc_base.specs.declared.names.HostClass.{HostClass}
use Rattle.abc_base.specs.declared.names.HostClass.TheVariants as hosts
use Rattle.abc_heap_values.specs.declared.values.ObjId.{ObjId}
use Rattle.abc_heap_values.specs.declared.values.Value.{Value}
use Rattle.abc_heap_values.specs.declared.values.Value.TheVariants as values
use Rattle.abc_heap_values.specs.declared.numbers.Conversion.TheVariants.{ConvertS, ConvertI, ConvertU, ConvertD, ConvertB}
use Rattle.abc_heap_store.specs.Heap.{Object}
use Rattle.abc_heap_store.specs.declared.records.ScopeId.{ScopeId}
use Rattle.abc_heap_store.specs.declared.records.What.{What}
use Rattle.abc_heap_store.specs.declared.records.What.TheVariants as whats
use Rattle.abc_link_names.specs.Bases.{is_interface}
use Rattle.abc_objects.specs.Fixed.{fixed_span}
use Rattle.abc_objects.specs.declared.fixed.FixedText.TheVariants.{Message}
use Rattle.abc_link_names.specs.declared.types.Ty.{Ty}
use Rattle.abc_meaning.specs.Calling.{Came, Got, calls, calls_formula, calls_what, got, number_in_range, trace_line, number_of_argument, only_argument, this_of, trace}
use Rattle.abc_meaning.specs.Making.{host_arguments, message_of, most_arguments, new, new_elements, new_instance, new_of_class, new_plain, new_what, set_message}
use Rattle.abc_meaning.specs.Objects.{place}
use Rattle.abc_meaning.specs.Ops.{as_boolean, as_int, as_number, as_text, as_uint, coerces}
use Rattle.abc_meaning.specs.Setting.{Setting, type_of_class, type_of_host}
use Rattle.abc_meaning.specs.World.{Errs, Faults, Run, Went, World, and_then, object_named, throws}
use Rattle.abc_meaning.proofs.Adding.{Once, Quiet, done_quiet, each_quiet, if_quiet, once, some_quiet, stop_quiet, then_once, then_quiet}
use Rattle.abc_meaning.proofs.Entering.{arguments_quiet, coerces_quiet, converts_quiet, enters_quiet, framed_quiet, new_array_quiet, new_object_quiet, set_property_quiet}

wrote_once : {X : Type 0} (w : World) (bytes : List ℕ) (x : X) → Once w (Went (record w { wrote = w.wrote ++ bytes }) x)
wrote_once w bytes x = record { one = inl (record { more = bytes; is = refl; started = refl }) }

module _ (p : Setting) where
  only_quiet : (w : World) (args : List Value) (f : Value → Run Came) → ((v : Value) → Quiet w (f v w)) → Quiet w (only_argument args f w)
  only_quiet w [] f g = stop_quiet w (Errs hosts.ArgumentError)
  only_quiet w (v ∷ []) f g = g v
  only_quiet w (v ∷ u ∷ vs) f g = stop_quiet w (Errs hosts.ArgumentError)

  -- ---- calls

  trace_once : (w : World) (args : List Value) → Once w (trace p args w)
  trace_once w args = then_once w _ _ (each_quiet (as_text p) (λ n v. converts_quiet p n ConvertS v) w args) (λ n texts. wrote_once n (trace_line p texts n) (Got values.Undefined))

  range_quiet : (w : World) (n : Option ℤ) → Quiet w (number_in_range n w)
  range_quiet w None = stop_quiet w (Faults faults.Range)
  range_quiet w (Some n) = done_quiet w _

  formula_quiet : (w : World) (f : Formula) (args : List Value) → Quiet w (calls_formula p f args w)
  formula_quiet w f args = if_quiet w (nat_eq (length args) (length f.factors)) _ _ (then_quiet w _ _ (each_quiet (as_number p) (λ n v. converts_quiet p n ConvertD v) w args) (λ n vs. range_quiet n (number_or_none (value_of f (map number_of_argument vs))))) (stop_quiet w (Errs hosts.ArgumentError))

  coerced_quiet : (w : World) (t : Ty) (v : Value) → Quiet w (and_then (coerces p t v w) got)
  coerced_quiet w t v = then_quiet w _ _ (coerces_quiet p w t v) (λ n x. done_quiet n _)

  pub what_once : (w : World) (what : What) (receiver : Value) (args : List Value) → Once w (calls_what p what receiver args w)
  what_once w (whats.Closure n home scope bound) receiver args = once w _ (then_quiet w _ _ (enters_quiet p w n (this_of bound home receiver w) (place home scope) args) (λ m g. done_quiet m _))
  what_once w (whats.ClassObject k home statics instances) receiver args = once w _ (only_quiet w args _ (λ v. coerced_quiet w (type_of_class p k) v))
  what_once w (whats.HostClass c) receiver args = once w _ (only_quiet w args _ (λ v. coerced_quiet w (type_of_host p c) v))
  what_once w whats.Trace receiver args = trace_once w args
  what_once w (whats.Formula n) receiver args = once w _ (then_quiet w _ _ (some_quiet w (slice_get p.formulas n)) (λ m f. formula_quiet m f args))
  what_once w whats.Plain receiver args = once w _ (stop_quiet w (Errs hosts.TypeError))
  what_once w whats.HostObject receiver args = once w _ (stop_quiet w (Errs hosts.TypeError))
  what_once w (whats.Global s) receiver args = once w _ (stop_quiet w (Errs hosts.TypeError))
  what_once w whats.Activation receiver args = once w _ (stop_quiet w (Errs hosts.TypeError))
  what_once w whats.Catch receiver args = once w _ (stop_quiet w (Errs hosts.TypeError))
  what_once w whats.Array receiver args = once w _ (stop_quiet w (Errs hosts.TypeError))

  pub calls_once : (w : World) (f receiver : Value) (args : List Value) → Once w (calls p f receiver args w)
  calls_once w (values.Obj o) receiver args = then_once w _ _ (some_quiet w (object_named o w)) (λ (n : World) (ob : Object). what_once n ob.what receiver args)
  calls_once w values.Undefined receiver args = once w _ (stop_quiet w (Errs hosts.TypeError))
  calls_once w values.Null receiver args = once w _ (stop_quiet w (Errs hosts.TypeError))
  calls_once w (values.Num n) receiver args = once w _ (stop_quiet w (Errs hosts.TypeError))
  calls_once w (values.Bool b) receiver args = once w _ (stop_quiet w (Errs hosts.TypeError))
  calls_once w (values.Text t) receiver args = once w _ (stop_quiet w (Errs hosts.TypeError))
  calls_once w (values.Space n) receiver args = once w _ (stop_quiet w (Errs hosts.TypeError))

  -- ---- new

  message_quiet : (w : World) (args : List Value) → Quiet w (message_of p args w)
  message_quiet w [] = done_quiet w []
  message_quiet w (v ∷ vs) = then_quiet w _ _ (converts_quiet p w ConvertS v) (λ n t. done_quiet n _)

  pub set_message_quiet : (w : World) (o : ObjId) (vs : List Value) → Quiet w (set_message p o vs w)
  set_message_quiet w o [] = done_quiet w tt
  set_message_quiet w o (values.Text t ∷ vs) = set_property_quiet p w o (fixed_span Message) (values.Text t)
  set_message_quiet w o (values.Undefined ∷ vs) = done_quiet w tt
  set_message_quiet w o (values.Null ∷ vs) = done_quiet w tt
  set_message_quiet w o (values.Num n ∷ vs) = done_quiet w tt
  set_message_quiet w o (values.Bool b ∷ vs) = done_quiet w tt
  set_message_quiet w o (values.Space n ∷ vs) = done_quiet w tt
  set_message_quiet w o (values.Obj q ∷ vs) = done_quiet w tt

  pub host_arguments_quiet : (w : World) (c : HostClass) (args : List Value) → Quiet w (host_arguments p c args w)
  host_arguments_quiet w c args = if_quiet w (nat_le (length args) (most_arguments c)) (message_of p args) (throws hosts.ArgumentError) (message_quiet w args) (stop_quiet w (Errs hosts.ArgumentError))

  plain_quiet : (w : World) (o : ObjId) (c : HostClass) (args : List Value) → Quiet w (new_plain p o c args w)
  plain_quiet w o c args = then_quiet w _ _ (host_arguments_quiet w c args) (λ n message. then_quiet n _ _ (new_object_quiet p n _ _ _) (λ i made. then_quiet i _ _ (set_message_quiet i made message) (λ j u. done_quiet j _)))

  elements_quiet : (w : World) (args : List Value) → Quiet w (new_elements p args w)
  elements_quiet w [] = new_array_quiet p w []
  elements_quiet w (values.Num (pos n) ∷ []) = new_array_quiet p w (replicate n values.Undefined)
  elements_quiet w (values.Num (negsuc n) ∷ []) = stop_quiet w (Faults faults.ArrayIndex)
  elements_quiet w (values.Num (pos n) ∷ u ∷ vs) = new_array_quiet p w (values.Num (pos n) ∷ u ∷ vs)
  elements_quiet w (values.Num (negsuc n) ∷ u ∷ vs) = new_array_quiet p w (values.Num (negsuc n) ∷ u ∷ vs)
  elements_quiet w (values.Undefined ∷ vs) = new_array_quiet p w (values.Undefined ∷ vs)
  elements_quiet w (values.Null ∷ vs) = new_array_quiet p w (values.Null ∷ vs)
  elements_quiet w (values.Bool b ∷ vs) = new_array_quiet p w (values.Bool b ∷ vs)
  elements_quiet w (values.Text t ∷ vs) = new_array_quiet p w (values.Text t ∷ vs)
  elements_quiet w (values.Space n ∷ vs) = new_array_quiet p w (values.Space n ∷ vs)
  elements_quiet w (values.Obj o ∷ vs) = new_array_quiet p w (values.Obj o ∷ vs)

  one_quiet : (w : World) (m : Run Value) → Quiet w (m w) → Quiet w (and_then (m w) got)
  one_quiet w m a = then_quiet w _ _ a (λ n x. done_quiet n _)

  class_quiet : (w : World) (o : ObjId) (c : HostClass) (args : List Value) → Quiet w (new_of_class p o c args w)
  class_quiet w o hosts.Str args = only_quiet w args _ (λ v. one_quiet w (as_text p v) (converts_quiet p w ConvertS v))
  class_quiet w o hosts.Int args = only_quiet w args _ (λ v. one_quiet w (as_int p v) (converts_quiet p w ConvertI v))
  class_quiet w o hosts.UInt args = only_quiet w args _ (λ v. one_quiet w (as_uint p v) (converts_quiet p w ConvertU v))
  class_quiet w o hosts.Number args = only_quiet w args _ (λ v. one_quiet w (as_number p v) (converts_quiet p w ConvertD v))
  class_quiet w o hosts.Boolean args = only_quiet w args _ (λ v. one_quiet w (as_boolean p v) (converts_quiet p w ConvertB v))
  class_quiet w o hosts.Array args = then_quiet w _ _ (elements_quiet w args) (λ n made. done_quiet n _)
  class_quiet w o hosts.Class args = stop_quiet w (Errs hosts.TypeError)
  class_quiet w o hosts.Function args = stop_quiet w (Errs hosts.TypeError)
  class_quiet w o hosts.Namespace args = stop_quiet w (Errs hosts.TypeError)
  class_quiet w o hosts.Object args = plain_quiet w o hosts.Object args
  class_quiet w o hosts.Error args = plain_quiet w o hosts.Error args
  class_quiet w o hosts.TypeError args = plain_quiet w o hosts.TypeError args
  class_quiet w o hosts.ReferenceError args = plain_quiet w o hosts.ReferenceError args
  class_quiet w o hosts.ArgumentError args = plain_quiet w o hosts.ArgumentError args

  instance_quiet : (w : World) (o : ObjId) (k home : ℕ) (instances : ScopeId) (args : List Value) → Quiet w (new_instance p o k home instances args w)
  instance_quiet w o k home instances args =
      then_quiet w _ _ (some_quiet w _) (λ n m.
      then_quiet n _ _ (arguments_quiet p n m args) (λ i vs.
      then_quiet i _ _ (new_object_quiet p i _ _ _) (λ j made.
      then_quiet j _ _ (framed_quiet p j _ m _ _ args vs) (λ l f. done_quiet l _))))

  new_what_quiet : (w : World) (o : ObjId) (what : What) (args : List Value) → Quiet w (new_what p o what args w)
  new_what_quiet w o (whats.ClassObject k home statics instances) args = if_quiet w (is_interface p.linked.file k) (throws hosts.TypeError) (new_instance p o k home instances args) (stop_quiet w (Errs hosts.TypeError)) (instance_quiet w o k home instances args)
  new_what_quiet w o (whats.HostClass c) args = class_quiet w o c args
  new_what_quiet w o (whats.Closure n home scope bound) args = stop_quiet w (Faults faults.FunctionConstruct)
  new_what_quiet w o whats.Trace args = stop_quiet w (Faults faults.FunctionConstruct)
  new_what_quiet w o (whats.Formula n) args = stop_quiet w (Faults faults.FunctionConstruct)
  new_what_quiet w o whats.Plain args = stop_quiet w (Errs hosts.TypeError)
  new_what_quiet w o whats.HostObject args = stop_quiet w (Errs hosts.TypeError)
  new_what_quiet w o (whats.Global s) args = stop_quiet w (Errs hosts.TypeError)
  new_what_quiet w o whats.Activation args = stop_quiet w (Errs hosts.TypeError)
  new_what_quiet w o whats.Catch args = stop_quiet w (Errs hosts.TypeError)
  new_what_quiet w o whats.Array args = stop_quiet w (Errs hosts.TypeError)

  pub new_quiet : (w : World) (v : Value) (args : List Value) → Quiet w (new p v args w)
  new_quiet w (values.Obj o) args = then_quiet w _ _ (some_quiet w (object_named o w)) (λ (n : World) (ob : Object). new_what_quiet n o ob.what args)
  new_quiet w values.Undefined args = stop_quiet w (Errs hosts.TypeError)
  new_quiet w values.Null args = stop_quiet w (Errs hosts.TypeError)
  new_quiet w (values.Num n) args = stop_quiet w (Errs hosts.TypeError)
  new_quiet w (values.Bool b) args = stop_quiet w (Errs hosts.TypeError)
  new_quiet w (values.Text t) args = stop_quiet w (Errs hosts.TypeError)
  new_quiet w (values.Space n) args = stop_quiet w (Errs hosts.TypeError)
