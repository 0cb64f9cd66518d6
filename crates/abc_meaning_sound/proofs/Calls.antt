-- Calls, and new, of whatever value.
use Rattle.std.proofs.Common.{◌≡◌, ℕ, zero, suc, ◌<◌, List, [], ◌∷◌, ◌++◌, length, refl, sym, ap, ◌∙◌, subst, arith, rules}
use Rattle.std.specs.Prelude.{Bool, true, false, ◌&&◌, ℤ, pos, negsuc, ◌≤ℤ◌, int_le, map, nat_eq, nat_le, replicate, slice_get, Some, None, if◌then◌else◌}
use Rattle.std.specs.declared.option.Option.{Option}
use Rattle.std.proofs.lemmas.List.{length-map}
use Rattle.abc_base.specs.Hosts.{number_or_none, value_of}
use Rattle.abc_base.specs.Ranges.{IsNumber}
use Rattle.abc_base.specs.declared.formula.Formula.{Formula}
use Rattle.abc_base.specs.declared.names.Fault.TheVariants as faults
use Rattle.abc_base.specs.declared.names.HostClass.{HostClass}
use Rattle.abc_base.specs.declared.names.HostClass.TheVariants as hosts
use Rattle.abc_heap_values.specs.declared.values.ObjId.{ObjId}
use Rattle.abc_heap_values.specs.declared.values.Value.{Value}
use Rattle.abc_heap_values.specs.declared.values.Value.TheVariants.{Undefined, Null, Num, Bool as Truth, Text, Space, Obj}
use Rattle.abc_heap_values.specs.declared.numbers.Conversion.{Conversion}
use Rattle.abc_heap_values.specs.declared.numbers.Conversion.TheVariants.{ConvertS, ConvertI, ConvertU, ConvertD, ConvertB}
use Rattle.abc_heap_store.specs.Heap.{Heap, object_at}
use Rattle.abc_heap_store.specs.declared.records.ScopeId.{ScopeId}
use Rattle.abc_heap_store.specs.declared.records.What.{What}
use Rattle.abc_heap_store.specs.declared.records.What.TheVariants as whats
use Rattle.abc_link_names.specs.Instances.{instance_at}
use Rattle.abc_objects.specs.Fixed.{fixed_span}
use Rattle.abc_objects.specs.Stands.{IsScope, NamesParts, host_layout}
use Rattle.abc_objects.specs.Values.{Exists, IsObject}
use Rattle.abc_objects.specs.declared.fixed.FixedText.TheVariants.{Message}
use Rattle.abc_objects.proofs.Made.{fixed_long, host_found, part_found, prototype_is}
use Rattle.abc_link_names.specs.Linked.{layout_of}
use Rattle.abc_link_names.specs.Numbering.{part_at}
use Rattle.abc_link_names.specs.Owners.{owner_of}
use Rattle.abc_link_names.specs.Tree.{IsBelow}
use Rattle.abc_link_names.specs.declared.part.Part.{Part}
use Rattle.abc_link_names.specs.declared.part.Part.TheVariants as parts
use Rattle.abc_link_names.specs.declared.types.Ty.{Ty}
use Rattle.abc_link_names.proofs.Tree.{below_self}
use Rattle.abc_link_names.specs.Bases.{is_interface}
use Rattle.abc_verify_typing.specs.Lists.{Each}
use Rattle.abc_verify_typing.specs.Routines.{this_kind}
use Rattle.abc_meaning.specs.Calling.{Came, calls, calls_formula, calls_what, got, number_in_range, trace_line, number_of_argument, only_argument, this_of, trace}
use Rattle.abc_meaning.specs.Making.{host_arguments, message_of, most_arguments, new, new_elements, new_instance, new_of_class, new_plain, new_what, prototype_in, set_message}
use Rattle.abc_meaning.specs.Objects.{new_array, place}
use Rattle.abc_meaning.specs.Ops.{coerces, converts}
use Rattle.abc_meaning.specs.Setting.{Setting, method_of, type_of_class, type_of_host}
use Rattle.abc_meaning.specs.World.{Errs, Faults, Run, World, and_then, each_of, object_named, throws}
use Rattle.abc_meaning.specs.Sound.{AreClassesMade, AreTypings, FunctionSound, IsBound, IsOfKind, ObjectSound, PartSound, Typings, WhatSound, WorldSound}
use Rattle.abc_meaning_sound.specs.Given.{FileGiven, HasBody, OpsGiven}
use Rattle.abc_meaning_sound.specs.Keeping.{CameSound, Fares, LeavesSound}
use Rattle.abc_meaning_sound.proofs.Changed.{set_property_fares}
use Rattle.abc_meaning_sound.proofs.Entered.{arguments_fares, enters_fares, framed_fares, global_kind}
use Rattle.abc_meaning_sound.proofs.Faring.{done_fares, if_fares, some_then, stop_fares, then_fares, weaker, went_fares}
use Rattle.abc_meaning_sound.proofs.Growing.{all_made_on, any_kind, evolves_self, first_is, kinds_on, value_on, values_on}
use Rattle.abc_meaning_sound.proofs.Lists.{there}
use Rattle.abc_meaning_sound.proofs.Made.{IsFresh, host_fresh, new_array_fares, new_object_fares}

-- ---- numbers

int_at_most : (a b : ℤ) → int_le a b ≡ true → a ≤ℤ b
int_at_most a b e = search rules

test_left : (a b : Bool) → (a && b) ≡ true → a ≡ true
test_left true b e = refl
test_left false b e = e

test_right : (a b : Bool) → (a && b) ≡ true → b ≡ true
test_right true b e = e
test_right false b e = absurd cc

pub number_there : (z n : ℤ) → number_or_none z ≡ Some n → IsNumber n
number_there z n e = go (int_le (negsuc 2147483647) z && int_le z (pos 4294967295)) refl e
  where
    go : (b : Bool) → (int_le (negsuc 2147483647) z && int_le z (pos 4294967295)) ≡ b → (if b then Some z else None) ≡ Some n → IsNumber n
    go true is e = let same : z ≡ n = cc in subst IsNumber same (int_at_most _ _ (test_left _ _ is), int_at_most _ _ (test_right (int_le (negsuc 2147483647) z) _ is))
    go false is e = absurd cc

module _ (p : Setting) (file : FileGiven p) (ops : OpsGiven p) (typings : Typings) (typed : AreTypings p typings) where
  abbrev pub Comes : World → Came → Type 0
  Comes n c = CameSound p typings n c

  each_fares : (w : World) (to : Conversion) (vs : List Value) → WorldSound p w → Each (Exists p.linked w.heap) vs → Fares p w (each_of (converts p to) vs w) (λ n xs. Unit {0})
  each_fares w to [] z e = done_fares p w [] _ z tt
  each_fares w to (v ∷ vs) z e =
      then_fares p w _ _ _ _ (ops.convert w to v z e.0) (λ n x l hx.
      then_fares p n _ _ _ _ (each_fares n to vs l.sound (values_on p w.heap n.heap l.grows vs e.1)) (λ i xs l' u. done_fares p i (x ∷ xs) _ l'.sound tt))

  written_leaves : (w : World) (bytes : List ℕ) → WorldSound p w → LeavesSound p w (record w { wrote = w.wrote ++ bytes })
  written_leaves w bytes z = record { sound = record { stands = z.stands; objects = z.objects; formulas = z.formulas; scripts = z.scripts; within = z.within }; grows = evolves_self w.heap }

  trace_fares : (w : World) (args : List Value) → WorldSound p w → Each (Exists p.linked w.heap) args → Fares p w (trace p args w) Comes
  trace_fares w args z e = then_fares p w _ _ _ _ (each_fares w ConvertS args z e) (λ n texts l u. went_fares p n _ _ _ (written_leaves n (trace_line p texts n) l.sound) tt)

  formula_fares : (w : World) (f : Formula) (args : List Value) → WorldSound p w → Each (Exists p.linked w.heap) args → Fares p w (calls_formula p f args w) Comes
  formula_fares w f args z e =
      if_fares p w (nat_eq (length args) (length f.factors)) _ _ _ (λ q. then_fares p w _ _ _ _ (each_fares w ConvertD args z e) (λ n vs l u. go n (number_or_none (value_of f (map number_of_argument vs))) (λ x h. number_there (value_of f (map number_of_argument vs)) x h) l.sound)) (λ q. stop_fares p w (Errs hosts.ArgumentError) _ z tt)
    where
      go : (n : World) (o : Option ℤ) → ((x : ℤ) → o ≡ Some x → IsNumber x) → WorldSound p n → Fares p n (number_in_range o n) Comes
      go n None h z = stop_fares p n (Faults faults.Range) _ z tt
      go n (Some x) h z = done_fares p n _ _ z (h x refl)

  coerced : (w : World) (t : Ty) (v : Value) → WorldSound p w → Exists p.linked w.heap v → Fares p w (and_then (coerces p t v w) got) Comes
  coerced w t v z e = then_fares p w _ _ _ _ (ops.coerce w t v z e) (λ n x l h. done_fares p n _ _ l.sound h.exists)

  pub only_fares : (w : World) (args : List Value) (m : Value → Run Came) → WorldSound p w → Each (Exists p.linked w.heap) args → ((v : Value) → Exists p.linked w.heap v → Fares p w (m v w) Comes) → Fares p w (only_argument args m w) Comes
  only_fares w [] m z e g = stop_fares p w (Errs hosts.ArgumentError) _ z tt
  only_fares w (v ∷ []) m z e g = g v e.0
  only_fares w (v ∷ u ∷ vs) m z e g = stop_fares p w (Errs hosts.ArgumentError) _ z tt

  -- `this` of a function that is called
  this_holds : (w : World) (n home : ℕ) (bound : Option ObjId) (receiver : Value) → WorldSound p w → home < length p.linked.file.scripts → IsBound p.linked w.heap n bound → Exists p.linked w.heap receiver → IsOfKind p.linked w.heap (this_kind p.linked (owner_of p.linked.file n)) (this_of bound home receiver w)
  this_holds w n home (Some o) receiver z le b e = b
  this_holds w n home None receiver z le b e = subst (λ o. IsOfKind p.linked w.heap (this_kind p.linked o) (this_of None home receiver w)) (sym b) (any_kind p.linked w.heap _ (present receiver e))
    where
      present : (v : Value) → Exists p.linked w.heap v → Exists p.linked w.heap (this_of None home v w)
      present Undefined e = (global_kind p file ops typings typed w home z le).exists
      present Null e = (global_kind p file ops typings typed w home z le).exists
      present (Num n) e = e
      present (Truth n) e = e
      present (Text n) e = e
      present (Space n) e = e
      present (Obj n) e = e

  body_of_function : (h : Heap) (n : ℕ) (bound : Option ObjId) → FunctionSound p h n bound → HasBody p n
  body_of_function h n bound f = record { routine = f.routine; body = f.body }

  what_fares : (w : World) (x : ℕ) (receiver : Value) (args : List Value) → WorldSound p w → (what : What) → WhatSound p w.heap x what → NamesParts p.linked w.heap what → Exists p.linked w.heap receiver → Each (Exists p.linked w.heap) args → Fares p w (calls_what p what receiver args w) Comes
  what_fares w x receiver args z (whats.Closure n home scope bound) h names e es =
      then_fares p w _ _ _ _ (enters_fares p file ops typings typed w n (this_of bound home receiver w) (place home scope) args z (body_of_function w.heap n bound h) (this_holds w n home bound receiver z names.1 h.bound_to e) names.1 names.2 es) (λ m g l k. done_fares p m _ _ l.sound k)
  what_fares w x receiver args z (whats.ClassObject k home statics instances) h names e es = only_fares w args _ z es (λ v ev. coerced w (type_of_class p k) v z ev)
  what_fares w x receiver args z (whats.HostClass c) h names e es = only_fares w args _ z es (λ v ev. coerced w (type_of_host p c) v z ev)
  what_fares w x receiver args z whats.Trace h names e es = trace_fares w args z es
  what_fares w x receiver args z (whats.Formula n) h names e es =
      let count : length w.heap.formulas ≡ length p.formulas = ap length z.formulas ∙ length-map p.formulas (λ (f : Formula). f.name) in
      let f = Rattle.abc_verify_typing.proofs.Lists.slice_get-some p.formulas n (omega (arith, names, count)) in
      some_then p w (slice_get p.formulas n) f.0 _ _ f.1 (formula_fares w f.0 args z es)
  what_fares w x receiver args z whats.Plain h names e es = stop_fares p w (Errs hosts.TypeError) _ z tt
  what_fares w x receiver args z whats.HostObject h names e es = stop_fares p w (Errs hosts.TypeError) _ z tt
  what_fares w x receiver args z (whats.Global s) h names e es = stop_fares p w (Errs hosts.TypeError) _ z tt
  what_fares w x receiver args z whats.Activation h names e es = stop_fares p w (Errs hosts.TypeError) _ z tt
  what_fares w x receiver args z whats.Catch h names e es = stop_fares p w (Errs hosts.TypeError) _ z tt
  what_fares w x receiver args z whats.Array h names e es = stop_fares p w (Errs hosts.TypeError) _ z tt

  -- what stands over a file, and is sound
  pub object_sound : (w : World) (o : ObjId) → WorldSound p w → IsObject w.heap o → ObjectSound p w.heap (object_at w.heap.objects o.0)
  object_sound w o z h = z.objects o.0 (object_at w.heap.objects o.0) (there w.heap.objects o.0 h)

  pub names_parts : (w : World) (o : ObjId) → WorldSound p w → IsObject w.heap o → NamesParts p.linked w.heap (object_at w.heap.objects o.0).what
  names_parts w o z h = (z.stands.objects o.0 (object_at w.heap.objects o.0) (there w.heap.objects o.0 h)).what

  -- whatever is called
  pub calls_fares : (w : World) (f receiver : Value) (args : List Value) → WorldSound p w → Exists p.linked w.heap f → Exists p.linked w.heap receiver → Each (Exists p.linked w.heap) args → Fares p w (calls p f receiver args w) Comes
  calls_fares w (Obj o) receiver args z h e es = some_then p w (object_named o w) (object_at w.heap.objects o.0) _ _ (there w.heap.objects o.0 h) (what_fares w (object_at w.heap.objects o.0).layout receiver args z (object_at w.heap.objects o.0).what (object_sound w o z h).what (names_parts w o z h) e es)
  calls_fares w Undefined receiver args z h e es = stop_fares p w (Errs hosts.TypeError) _ z tt
  calls_fares w Null receiver args z h e es = stop_fares p w (Errs hosts.TypeError) _ z tt
  calls_fares w (Num n) receiver args z h e es = stop_fares p w (Errs hosts.TypeError) _ z tt
  calls_fares w (Truth n) receiver args z h e es = stop_fares p w (Errs hosts.TypeError) _ z tt
  calls_fares w (Text n) receiver args z h e es = stop_fares p w (Errs hosts.TypeError) _ z tt
  calls_fares w (Space n) receiver args z h e es = stop_fares p w (Errs hosts.TypeError) _ z tt

  -- ---- new

  message_fares : (w : World) (args : List Value) → WorldSound p w → Each (Exists p.linked w.heap) args → Fares p w (message_of p args w) (λ n xs. Each (Exists p.linked n.heap) xs)
  message_fares w [] z e = done_fares p w [] _ z tt
  message_fares w (v ∷ vs) z e = then_fares p w _ _ _ _ (ops.convert w ConvertS v z e.0) (λ n x l h. done_fares p n (x ∷ []) _ l.sound (h.exists, tt))

  pub host_arguments_fares : (w : World) (c : HostClass) (args : List Value) → WorldSound p w → Each (Exists p.linked w.heap) args → Fares p w (host_arguments p c args w) (λ n xs. Each (Exists p.linked n.heap) xs)
  host_arguments_fares w c args z e = if_fares p w (nat_le (length args) (most_arguments c)) (message_of p args) (throws hosts.ArgumentError) _ (λ q. message_fares w args z e) (λ q. stop_fares p w (Errs hosts.ArgumentError) _ z tt)

  pub set_message_fares : (w : World) (o : ObjId) (xs : List Value) → WorldSound p w → Each (Exists p.linked w.heap) xs → Fares p w (set_message p o xs w) (λ n u. Unit {0})
  set_message_fares w o [] z e = done_fares p w tt _ z tt
  set_message_fares w o (Text t ∷ xs) z e = set_property_fares p w o (fixed_span Message) (Text t) z (let long = fixed_long p.linked w.heap z.stands in omega (arith, long)) e.0
  set_message_fares w o (Undefined ∷ xs) z e = done_fares p w tt _ z tt
  set_message_fares w o (Null ∷ xs) z e = done_fares p w tt _ z tt
  set_message_fares w o (Num n ∷ xs) z e = done_fares p w tt _ z tt
  set_message_fares w o (Truth n ∷ xs) z e = done_fares p w tt _ z tt
  set_message_fares w o (Space n ∷ xs) z e = done_fares p w tt _ z tt
  set_message_fares w o (Obj n ∷ xs) z e = done_fares p w tt _ z tt

  plain_fares : (w : World) (o : ObjId) (c : HostClass) (args : List Value) → (◌≡◌ {A = Part} (parts.Host c) (parts.Host hosts.Array) → ⊥) → WorldSound p w → Each (Exists p.linked w.heap) args → Fares p w (new_plain p o c args w) Comes
  plain_fares w o c args ne z e =
      then_fares p w _ _ _ _ (host_arguments_fares w c args z e) (λ n xs l hx.
      then_fares p n _ _ _ _ (new_object_fares p file n (host_layout p.linked c) (prototype_in o n) whats.Plain l.sound (host_fresh p file n.heap c (prototype_in o n) whats.Plain l.sound.stands ne (prototype_is p.linked n.heap o.0 l.sound.stands) tt tt tt)) (λ i made l' k.
      then_fares p i _ _ _ _ (set_message_fares i made xs l'.sound (values_on p n.heap i.heap l'.grows xs hx)) (λ m u l'' t. done_fares p m _ _ l''.sound (value_on p i.heap m.heap l''.grows (Obj made) k.0))))

  all_undefined : (h : Heap) (n : ℕ) → Each (Exists p.linked h) (replicate n Undefined)
  all_undefined h zero = tt
  all_undefined h (suc n) = (tt, all_undefined h n)

  array_fares : (w : World) (vs : List Value) → WorldSound p w → Each (Exists p.linked w.heap) vs → Fares p w (new_array p vs w) (λ n o. IsObject n.heap o)
  array_fares w vs z e = weaker p w (new_array p vs w) _ (λ n o. IsObject n.heap o) (λ n o l h. h.exists) (new_array_fares p file w vs z e)

  elements_fares : (w : World) (args : List Value) → WorldSound p w → Each (Exists p.linked w.heap) args → Fares p w (new_elements p args w) (λ n o. IsObject n.heap o)
  elements_fares w [] z e = array_fares w [] z e
  elements_fares w (Num (pos n) ∷ []) z e = array_fares w (replicate n Undefined) z (all_undefined w.heap n)
  elements_fares w (Num (negsuc n) ∷ []) z e = stop_fares p w (Faults faults.ArrayIndex) _ z tt
  elements_fares w (Undefined ∷ []) z e = array_fares w (Undefined ∷ []) z e
  elements_fares w (Null ∷ []) z e = array_fares w (Null ∷ []) z e
  elements_fares w (Truth b ∷ []) z e = array_fares w (Truth b ∷ []) z e
  elements_fares w (Text t ∷ []) z e = array_fares w (Text t ∷ []) z e
  elements_fares w (Space n ∷ []) z e = array_fares w (Space n ∷ []) z e
  elements_fares w (Obj o ∷ []) z e = array_fares w (Obj o ∷ []) z e
  elements_fares w (Num (pos n) ∷ v ∷ vs) z e = array_fares w (Num (pos n) ∷ v ∷ vs) z e
  elements_fares w (Num (negsuc n) ∷ v ∷ vs) z e = array_fares w (Num (negsuc n) ∷ v ∷ vs) z e
  elements_fares w (u ∷ v ∷ vs) z e = array_fares w (u ∷ v ∷ vs) z e

  converted : (w : World) (args : List Value) (to : Conversion) → WorldSound p w → Each (Exists p.linked w.heap) args → Fares p w (only_argument args (λ v w'. and_then (converts p to v w') got) w) Comes
  converted w args to z e = only_fares w args _ z e (λ v ev. then_fares p w _ _ _ _ (ops.convert w to v z ev) (λ n x l h. done_fares p n _ _ l.sound h.exists))

  of_class_fares : (w : World) (o : ObjId) (c : HostClass) (args : List Value) → WorldSound p w → Each (Exists p.linked w.heap) args → Fares p w (new_of_class p o c args w) Comes
  of_class_fares w o hosts.Str args z e = converted w args ConvertS z e
  of_class_fares w o hosts.Int args z e = converted w args ConvertI z e
  of_class_fares w o hosts.UInt args z e = converted w args ConvertU z e
  of_class_fares w o hosts.Number args z e = converted w args ConvertD z e
  of_class_fares w o hosts.Boolean args z e = converted w args ConvertB z e
  of_class_fares w o hosts.Array args z e = then_fares p w _ _ _ _ (elements_fares w args z e) (λ n x l h. done_fares p n _ _ l.sound h)
  of_class_fares w o hosts.Class args z e = stop_fares p w (Errs hosts.TypeError) _ z tt
  of_class_fares w o hosts.Function args z e = stop_fares p w (Errs hosts.TypeError) _ z tt
  of_class_fares w o hosts.Namespace args z e = stop_fares p w (Errs hosts.TypeError) _ z tt
  of_class_fares w o hosts.Object args z e = plain_fares w o hosts.Object args (λ q. cc) z e
  of_class_fares w o hosts.Error args z e = plain_fares w o hosts.Error args (λ q. cc) z e
  of_class_fares w o hosts.TypeError args z e = plain_fares w o hosts.TypeError args (λ q. cc) z e
  of_class_fares w o hosts.ReferenceError args z e = plain_fares w o hosts.ReferenceError args (λ q. cc) z e
  of_class_fares w o hosts.ArgumentError args z e = plain_fares w o hosts.ArgumentError args (λ q. cc) z e

  -- instances of a class that was made
  instance_fresh : (h : Heap) (k : ℕ) (d : Option ObjId) → k < length p.linked.file.instances → is_interface p.linked.file k ≡ false → AreClassesMade p.linked h k → Rattle.abc_objects.specs.Stands.IsObjectOrNone h d → IsFresh p file h (layout_of p.linked (parts.Instance k)).0 d whats.Plain
  instance_fresh h k d b ni made hd =
      let found = part_found p.linked file.linked (parts.Instance k) b in
      record {
        layout = found.0;
        no_array = λ q. (let w : ◌≡◌ {A = Part} (parts.Instance k) (parts.Host hosts.Array) = sym found.1 ∙ ap (part_at p.linked.parts) q ∙ (host_found p.linked file.linked hosts.Array).1 in absurd cc);
        delegate_is = hd;
        alone = tt;
        names = tt;
        what_is = tt;
        part = subst (PartSound p.linked h) (sym found.1) (ni, made);
        first_of = first_is p.linked (parts.Instance k) found.1;
      }

  pub new_instance_fares : (w : World) (o : ObjId) (k home : ℕ) (instances : ScopeId) (args : List Value) → WorldSound p w → k < length p.linked.file.instances → is_interface p.linked.file k ≡ false → AreClassesMade p.linked w.heap k → home < length p.linked.file.scripts → IsScope w.heap (Some instances) → Each (Exists p.linked w.heap) args → Fares p w (new_instance p o k home instances args w) Comes
  new_instance_fares w o k home instances args z b ni made hh hs es =
      let n = (instance_at p.linked.file k).iinit in
      let maker = file.iinits k b ni in
      let r = maker.body.routine in
      let i = file.methods n r maker.body.body in
      some_then p w (method_of p n) i.method _ _ i.at
      (then_fares p w _ _ _ _ (arguments_fares p file ops w n r i args z es) (λ m vs l hv.
      then_fares p m _ _ _ _ (new_object_fares p file m (layout_of p.linked (parts.Instance k)).0 (prototype_in o m) whats.Plain l.sound (instance_fresh m.heap k (prototype_in o m) b ni (all_made_on p w.heap m.heap l.grows k made) (prototype_is p.linked m.heap o.0 l.sound.stands))) (λ j x l' k'.
      let this : IsOfKind p.linked j.heap (this_kind p.linked (owner_of p.linked.file n)) (Obj x) = subst (λ q. IsOfKind p.linked j.heap (this_kind p.linked q) (Obj x)) (sym maker.owner_is) (record { exists = k'.0; kind = (k'.0, subst (λ y. IsBelow p.linked y (layout_of p.linked (parts.Instance k)).0) (sym k'.1) (below_self p.linked (layout_of p.linked (parts.Instance k)).0)) }) in
      let grows = Rattle.abc_meaning_sound.proofs.Growing.evolves_on w.heap m.heap j.heap l.grows l'.grows in
      then_fares p j _ _ _ _ (framed_fares p file ops typings typed j n r i (Obj x) (place home (Some instances)) args vs l'.sound maker.body.body this hh (Rattle.abc_objects.proofs.Grown.scope_grown w.heap j.heap (Some instances) grows.grows hs) (values_on p w.heap j.heap grows args es) (kinds_on p m.heap j.heap l'.grows _ _ hv))
      (λ q f l'' hf. done_fares p q _ _ l''.sound (hf, value_on p j.heap q.heap l''.grows (Obj x) k'.0)))))

  what_new : (w : World) (o : ObjId) (args : List Value) → WorldSound p w → IsObject w.heap o → (what : What) → (object_at w.heap.objects o.0).what ≡ what → Each (Exists p.linked w.heap) args → Fares p w (new_what p o what args w) Comes
  what_new w o args z h (whats.ClassObject k home statics instances) is es =
      let sound = object_sound w o z h in
      let layout : (object_at w.heap.objects o.0).layout ≡ (layout_of p.linked (parts.ClassObject k)).0 = subst (WhatSound p w.heap (object_at w.heap.objects o.0).layout) is sound.what in
      let names = subst (NamesParts p.linked w.heap) is (names_parts w o z h) in
      let found = part_found p.linked file.linked (parts.ClassObject k) names.0 in
      let part : part_at p.linked.parts (object_at w.heap.objects o.0).layout ≡ parts.ClassObject k = ap (part_at p.linked.parts) layout ∙ found.1 in
      if_fares p w (is_interface p.linked.file k) _ _ _ (λ q. stop_fares p w (Errs hosts.TypeError) _ z tt)
      (λ q. new_instance_fares w o k home instances args z names.0 q (subst (PartSound p.linked w.heap) part sound.part) names.1 names.3 es)
  what_new w o args z h (whats.HostClass c) is es = of_class_fares w o c args z es
  what_new w o args z h (whats.Closure m home scope bound) is es = stop_fares p w (Faults faults.FunctionConstruct) _ z tt
  what_new w o args z h whats.Trace is es = stop_fares p w (Faults faults.FunctionConstruct) _ z tt
  what_new w o args z h (whats.Formula n) is es = stop_fares p w (Faults faults.FunctionConstruct) _ z tt
  what_new w o args z h whats.Plain is es = stop_fares p w (Errs hosts.TypeError) _ z tt
  what_new w o args z h whats.HostObject is es = stop_fares p w (Errs hosts.TypeError) _ z tt
  what_new w o args z h (whats.Global s) is es = stop_fares p w (Errs hosts.TypeError) _ z tt
  what_new w o args z h whats.Activation is es = stop_fares p w (Errs hosts.TypeError) _ z tt
  what_new w o args z h whats.Catch is es = stop_fares p w (Errs hosts.TypeError) _ z tt
  what_new w o args z h whats.Array is es = stop_fares p w (Errs hosts.TypeError) _ z tt

  pub new_fares : (w : World) (v : Value) (args : List Value) → WorldSound p w → Exists p.linked w.heap v → Each (Exists p.linked w.heap) args → Fares p w (new p v args w) Comes
  new_fares w (Obj o) args z h es = some_then p w (object_named o w) (object_at w.heap.objects o.0) _ _ (there w.heap.objects o.0 h) (what_new w o args z h (object_at w.heap.objects o.0).what refl es)
  new_fares w Undefined args z h es = stop_fares p w (Errs hosts.TypeError) _ z tt
  new_fares w Null args z h es = stop_fares p w (Errs hosts.TypeError) _ z tt
  new_fares w (Num n) args z h es = stop_fares p w (Errs hosts.TypeError) _ z tt
  new_fares w (Truth n) args z h es = stop_fares p w (Errs hosts.TypeError) _ z tt
  new_fares w (Text n) args z h es = stop_fares p w (Errs hosts.TypeError) _ z tt
  new_fares w (Space n) args z h es = stop_fares p w (Errs hosts.TypeError) _ z tt
