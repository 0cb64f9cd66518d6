-- Objects, operations and methods that are entered.
use Rattle.std.proofs.Common.{ℕ, List, [], ◌∷◌, length, drop, refl, inr}
use Rattle.std.specs.Prelude.{Some, None, if◌then◌else◌}
use Rattle.std.specs.declared.option.Option.{Option}
use Rattle.abc_base.specs.declared.names.Fault.TheVariants as faults
use Rattle.abc_base.specs.declared.names.HostClass.{HostClass}
use Rattle.abc_base.specs.declared.names.HostClass.TheVariants as hosts
use Rattle.abc_heap_values.specs.declared.values.ObjId.{ObjId}
use Rattle.abc_heap_values.specs.declared.values.Span.{Span}
use Rattle.abc_heap_values.specs.declared.values.Value.{Value}
use Rattle.abc_heap_values.specs.declared.numbers.Conversion.{Conversion}
use Rattle.abc_heap_store.specs.Heap.{Object}
use Rattle.abc_heap_store.specs.declared.records.ScopeEntry.{ScopeEntry}
use Rattle.abc_heap_store.specs.declared.records.ScopeId.{ScopeId}
use Rattle.abc_heap_store.specs.declared.records.What.{What}
use Rattle.abc_link_names.specs.PartsByNumber.{script_at}
use Rattle.abc_objects.specs.Stands.{host_layout}
use Rattle.abc_ops.specs.Compares.{comparison_result}
use Rattle.abc_ops.specs.Conversions.{conversion_result, spelling}
use Rattle.abc_ops.specs.Operations.{computation, computed_single}
use Rattle.abc_link_names.specs.Owners.{owner_of}
use Rattle.abc_link_names.specs.Types.{type_of}
use Rattle.abc_link_names.specs.declared.types.Owner.{Owner}
use Rattle.abc_link_names.specs.declared.types.Owner.TheVariants as owners
use Rattle.abc_link_names.specs.declared.types.Ty.{Ty}
use Rattle.abc_file_types.specs.Methods.{has_flag}
use Rattle.abc_file_types.specs.declared.methods.Method.{Method}
use Rattle.abc_file_types.specs.declared.methods.OptionValue.{OptionValue}
use Rattle.abc_meaning.specs.Entering.{arguments_for, array_of, coerced_arguments, coerces_to, enters, enters_owned, extra, frame_for, gives_option, global, notes_start, or_double, starts_script}
use Rattle.abc_meaning.specs.Objects.{Place, class_object, instances_of, place_kept_by, new_array, new_class, new_function, new_object, new_of_host, place, place_of_owner, prototype_for, set_property, statics_of}
use Rattle.abc_meaning.specs.Ops.{coerce_to as coerced_to, coerces, compares, computes_one, computes_two, converts, spells}
use Rattle.abc_meaning.specs.Setting.{Setting, may_take_arguments, options_of, value_of_option}
use Rattle.abc_meaning.specs.World.{Errs, Faults, Sticks, World, pure, object_named, throws}
use Rattle.abc_meaning.proofs.Adding.{Once, Quiet, Starting, cells_quiet, done_quiet, heap_quiet, if_quiet, keeps_self, must_quiet, objects_quiet, operates_quiet, outcome_quiet, some_quiet, starting_then, stop_quiet, then_quiet}

module _ (p : Setting) where
  -- ---- objects

  pub new_object_quiet : (w : World) (x : ℕ) (d : Option ObjId) (what : What) → Quiet w (new_object p x d what w)
  new_object_quiet w x d what = then_quiet w _ _ (objects_quiet w 1) (λ n u. then_quiet n _ _ (cells_quiet n _) (λ m v. heap_quiet m _ _))

  pub new_of_host_quiet : (w : World) (c : HostClass) (what : What) → Quiet w (new_of_host p c what w)
  new_of_host_quiet w c what = new_object_quiet w (host_layout p.linked c) (prototype_for c w) what

  pub new_array_quiet : (w : World) (vs : List Value) → Quiet w (new_array p vs w)
  new_array_quiet w vs = then_quiet w _ _ (objects_quiet w 1) (λ n u. then_quiet n _ _ (cells_quiet n _) (λ m v. heap_quiet m _ _))

  pub new_function_quiet : (w : World) (method home : ℕ) (saved : Option ScopeId) (es : List ScopeEntry) → Quiet w (new_function p method home saved es w)
  new_function_quiet w method home saved es = then_quiet w _ _ (objects_quiet w 1) (λ n u. then_quiet n _ _ (cells_quiet n _) (λ m v. heap_quiet m _ _))

  pub set_property_quiet : (w : World) (o : ObjId) (name : Span) (v : Value) → Quiet w (set_property p o name v w)
  set_property_quiet w o name v = then_quiet w _ _ (cells_quiet w _) (λ n u. heap_quiet n _ _)

  pub new_class_quiet : (w : World) (k home : ℕ) (base : Option ObjId) (saved : Option ScopeId) (es : List ScopeEntry) → Quiet w (new_class p k home base saved es w)
  new_class_quiet w k home base saved es = then_quiet w _ _ (objects_quiet w 2) (λ n u. then_quiet n _ _ (cells_quiet n _) (λ m v. heap_quiet m _ _))

  kept_quiet : (w : World) (which : What → Option Place) (k : ℕ) → Quiet w (place_kept_by which k w)
  kept_quiet w which k = then_quiet w _ _ (some_quiet w (class_object k w)) (λ n o. then_quiet n _ _ (some_quiet n (object_named o n)) (λ (m : World) (ob : Object). some_quiet m (which ob.what)))

  pub place_quiet : (w : World) (o : Owner) → Quiet w (place_of_owner o w)
  place_quiet w owners.Free = stop_quiet w Sticks
  place_quiet w (owners.ScriptInit s) = done_quiet w _
  place_quiet w (owners.ScriptMethod s) = done_quiet w _
  place_quiet w (owners.ClassInit k) = kept_quiet w statics_of k
  place_quiet w (owners.Static k) = kept_quiet w statics_of k
  place_quiet w (owners.Iinit k) = kept_quiet w instances_of k
  place_quiet w (owners.Instance k) = kept_quiet w instances_of k

  -- ---- operations

  pub converts_quiet : (w : World) (to : Conversion) (v : Value) → Quiet w (converts p to v w)
  converts_quiet w to v = operates_quiet (λ h. conversion_result p.linked h to v) w

  pub spells_quiet : (w : World) (v : Value) → Quiet w (spells p v w)
  spells_quiet w v = operates_quiet (λ h. spelling p.linked h v) w

  pub coerces_quiet : (w : World) (t : Ty) (v : Value) → Quiet w (coerces p t v w)
  coerces_quiet w t v = operates_quiet (λ h. coerced_to p.linked h t v) w

  pub one_quiet : (w : World) (op : ℕ) (v : Value) → Quiet w (computes_one op v w)
  one_quiet w op v = operates_quiet (λ h. computed_single h op v) w

  pub two_quiet : (w : World) (op : ℕ) (x y : Value) → Quiet w (computes_two p op x y w)
  two_quiet w op x y = operates_quiet (λ h. computation p.linked h op x y) w

  pub compares_quiet : (w : World) (op : ℕ) (x y : Value) → Quiet w (compares p op x y w)
  compares_quiet w op x y = outcome_quiet w w (comparison_result p.linked w.heap op x y) (keeps_self w)

  -- ---- arguments

  pub coerces_to_quiet : (w : World) (t : ℕ) (v : Value) → Quiet w (coerces_to p t v w)
  coerces_to_quiet w t v = then_quiet w _ _ (some_quiet w (type_of p.linked t)) (λ n ty. coerces_quiet n ty v)

  or_double_quiet : (w : World) (v : Option Value) → Quiet w (or_double v w)
  or_double_quiet w None = stop_quiet w (Faults faults.Double)
  or_double_quiet w (Some v) = done_quiet w v

  option_quiet : (w : World) (o : Option OptionValue) → Quiet w (gives_option p o w)
  option_quiet w None = stop_quiet w Sticks
  option_quiet w (Some o) = or_double_quiet w (value_of_option p o)

  coerced_quiet : (w : World) (ts : List ℕ) (os : List (Option OptionValue)) (vs : List Value) → Quiet w (coerced_arguments p ts os vs w)
  coerced_quiet w [] os vs = done_quiet w []
  coerced_quiet w (t ∷ ts) [] vs = stop_quiet w Sticks
  coerced_quiet w (t ∷ ts) (o ∷ os) [] = then_quiet w _ _ (option_quiet w o) (λ n v. then_quiet n _ _ (coerces_to_quiet n t v) (λ m c. then_quiet m _ _ (coerced_quiet m ts os []) (λ i cs. done_quiet i (c ∷ cs))))
  coerced_quiet w (t ∷ ts) (o ∷ os) (v ∷ vs) = then_quiet w _ _ (coerces_to_quiet w t v) (λ m c. then_quiet m _ _ (coerced_quiet m ts os vs) (λ i cs. done_quiet i (c ∷ cs)))

  pub arguments_quiet : (w : World) (m : Method) (vs : List Value) → Quiet w (arguments_for p m vs w)
  arguments_quiet w m vs = if_quiet w (may_take_arguments m (length vs)) (coerced_arguments p m.params (options_of m) vs) (throws hosts.ArgumentError) (coerced_quiet w m.params (options_of m) vs) (stop_quiet w (Errs hosts.ArgumentError))

  array_of_quiet : (w : World) (vs : List Value) → Quiet w (array_of p vs w)
  array_of_quiet w vs = then_quiet w _ _ (new_array_quiet w vs) (λ n o. done_quiet n _)

  extra_quiet : (w : World) (m : Method) (vs : List Value) → Quiet w (extra p m vs w)
  extra_quiet w m vs =
      if_quiet w (has_flag m.flags 0x04) (array_of p (drop (length m.params) vs)) (if has_flag m.flags 0x01 then array_of p vs else pure [])
      (array_of_quiet w (drop (length m.params) vs))
      (if_quiet w (has_flag m.flags 0x01) (array_of p vs) (pure []) (array_of_quiet w vs) (done_quiet w []))

  -- ---- frames

  pub framed_quiet : (w : World) (n : ℕ) (m : Method) (this : Value) (at : Place) (given vs : List Value) → Quiet w (frame_for p n m this at given vs w)
  framed_quiet w n m this at given vs = then_quiet w _ _ (some_quiet w _) (λ i r. then_quiet i _ _ (extra_quiet i m given) (λ j array. then_quiet j _ _ (must_quiet j _) (λ k u. done_quiet k _)))

  pub enters_quiet : (w : World) (n : ℕ) (this : Value) (at : Place) (given : List Value) → Quiet w (enters p n this at given w)
  enters_quiet w n this at given = then_quiet w _ _ (some_quiet w _) (λ i m. then_quiet i _ _ (arguments_quiet i m given) (λ j vs. framed_quiet j n m this at given vs))

  pub owned_quiet : (w : World) (n : ℕ) (this : Value) (given : List Value) → Quiet w (enters_owned p n this given w)
  owned_quiet w n this given = then_quiet w _ _ (place_quiet w (owner_of p.linked.file n)) (λ i at. enters_quiet i n this at given)

  notes_starting : (w : World) (s : ℕ) → Starting w (notes_start s w)
  notes_starting w s = record { starts = record { script = s; is = refl; wrote = refl } }

  pub starts_starting : (w : World) (s : ℕ) → Starting w (starts_script p s w)
  starts_starting w s = starting_then w _ _ (notes_starting w s) (λ n u. enters_quiet n (script_at p.linked.file s).init (global s n) (place s None) [])

  pub starts_once : (w : World) (s : ℕ) → Once w (starts_script p s w)
  starts_once w s = record { one = inr (starts_starting w s).starts }
