-- Conversions, types at run time, arithmetic and comparisons.
use Rattle.std.proofs.Common.{◌≡◌, ℕ, List, [], ◌∷◌, refl, sym, ap, ◌∙◌, subst}
use Rattle.std.specs.Prelude.{Bool, true, false, is_some, slice_get, Some, None, if◌then◌else◌}
use Rattle.std.specs.declared.option.Option.{Option}
use Rattle.abc_base.specs.declared.names.HostClass.TheVariants as hosts
use Rattle.abc_heap_values.specs.declared.values.Value.{Value}
use Rattle.abc_heap_values.specs.declared.values.Value.TheVariants.{Undefined, Null, Num, Bool as Truth, Text, Space, Obj}
use Rattle.abc_heap_values.specs.declared.numbers.Conversion.{Conversion}
use Rattle.abc_heap_values.specs.declared.numbers.Conversion.TheVariants.{ConvertS, ConvertI, ConvertU, ConvertD, ConvertB, ConvertO, CoerceS}
use Rattle.abc_heap_store.specs.Heap.{object_at}
use Rattle.abc_heap_store.specs.declared.records.What.{What}
use Rattle.abc_heap_store.specs.declared.records.What.TheVariants as whats
use Rattle.abc_objects.specs.Values.{Exists}
use Rattle.abc_link_names.specs.Types.{kind_of_type, type_of}
use Rattle.abc_link_names.specs.declared.types.Kind.{Kind}
use Rattle.abc_link_names.specs.declared.types.Kind.TheVariants as kinds
use Rattle.abc_link_names.specs.declared.types.Ty.{Ty}
use Rattle.abc_verify_typing.specs.Instructions.{local, opcode, operand}
use Rattle.abc_verify_typing.specs.Rows.{Shape, makes, naming_shape, on_locals, shape_with, row_at, table_of_rows, two_values, value}
use Rattle.abc_verify_typing.specs.declared.row.Locals.TheVariants.{Sets}
use Rattle.abc_verify_typing.specs.declared.row.Operand.TheVariants.{TypeAt, TypeOrAny}
use Rattle.abc_verify_typing.specs.declared.row.RowKind.{RowKind}
use Rattle.abc_verify_typing.specs.declared.row.RowKind.TheVariants as rows
use Rattle.abc_verify_typing.specs.declared.row.Source.TheVariants.{Fixed, Taken, SumKind, TypeKind, AsTypeKind}
use Rattle.abc_verify_typing.specs.Effects.{kind_of_row, kind_at, nullable, sum_kind, stack_below}
use Rattle.abc_verify_typing.specs.Lists.{Each}
use Rattle.abc_verify_typing.specs.Routines.{kind_if, or_any, type_at}
use Rattle.abc_verify_typing.specs.declared.rule.VerifyRule.TheVariants.{LocalIndex, NameForm}
use Rattle.abc_meaning.specs.Members.{with_holder}
use Rattle.abc_meaning.specs.Ops.{coerces, compares, computes_one, computes_two, converts}
use Rattle.abc_meaning.specs.Setting.{Setting}
use Rattle.abc_meaning.specs.World.{Errs, World, pure, object_named, see, ◌>>=◌}
use Rattle.abc_meaning.specs.At.{Doing, gives_pushed, one, opcode_at, two}
use Rattle.abc_meaning.specs.Late.{coerces_to_operand, has_property_named, instance_test, is_instance, is_it, kept_as, late_type, or_null, tested_as, type_of_what}
use Rattle.abc_meaning.specs.Names.{type_of_operand}
use Rattle.abc_meaning.specs.Simple.{converting, counts, flag}
use Rattle.abc_meaning.specs.Table.{operation_acts}
use Rattle.abc_meaning.specs.Sound.{AreTypings, IsOfKind, Typings, WorldSound}
use Rattle.abc_meaning.specs.Tests.{parts_count}
use Rattle.abc_meaning.proofs.ValueKinds.{type_holds}
use Rattle.abc_meaning_sound.specs.Given.{FileGiven, OpsGiven, single_kind}
use Rattle.abc_meaning_sound.specs.Keeping.{EntrySound, Fares}
use Rattle.abc_meaning_sound.proofs.Cases.{Case, OfSource, Sound, at_of, by_case, gives_one, here_of, one_gives, sets, taking_two, two_give, entry}
use Rattle.abc_meaning_sound.proofs.Faring.{done_fares, some_then, stop_fares, then_fares, weaker}
use Rattle.abc_meaning_sound.proofs.Growing.{any_kind, kind_on, value_on}
use Rattle.abc_meaning_sound.proofs.Lists.{there}
use Rattle.abc_meaning_sound.proofs.Plainly.{local_there}
use Rattle.abc_meaning_sound.proofs.Taking.{first_kind, two_kinds}

module _ (p : Setting) (file : FileGiven p) (ops : OpsGiven p) (typings : Typings) (typed : AreTypings p typings) where
  abbrev E : ℕ × Doing → Type 0
  E = EntrySound p typings

  truth : (w : World) (b : Bool) → IsOfKind p.linked w.heap kinds.Bool (Truth b)
  truth w b = record { exists = tt; kind = tt }

  -- ---- conversions

  converts_so : (o : ℕ) (k : RowKind) (to : Conversion) → Rattle.abc_meaning_sound.specs.Given.conversion_kind to ≡ kind_of_row p.linked k → row_at o ≡ Some (makes value k) → E (o, converting to)
  converts_so o k to same e = entry p typings o (makes value k) (converting to) e (one_gives p file ops typings typed o (makes value k) (Fixed k) (λ a. converts a.setting to) (record { unslotted_is = refl; scoping = refl; locals = λ h t. refl; leads_is = refl }) refl refl
      (λ c i v q hv. subst (λ x. Fares p c.world (converts p to v c.world) (λ n z. IsOfKind p.linked n.heap x z)) same (ops.convert c.world to v c.ready.world hv.exists)))

  abbrev same_row : Shape
  same_row = shape_with value (Taken 0 ∷ [])

  convert_o : Sound p file ops typings typed 0x77 (shape_with value (Taken 0 ∷ [])) (converting ConvertO)
  convert_o = one_gives p file ops typings typed 0x77 same_row (Taken 0) (λ a. converts a.setting ConvertO) (record { unslotted_is = refl; scoping = refl; locals = λ h t. refl; leads_is = refl }) refl refl
      (λ c i v q hv. weaker p c.world _ _ _ (λ n x l same. subst (λ z. IsOfKind p.linked n.heap (kind_at (stack_below (here_of c) c.state) 0) z) (sym same) (kind_on p c.world.heap n.heap l.grows _ v (subst (λ j. IsOfKind p.linked c.world.heap j v) (sym (first_kind (parts_count (here_of c)) (stack_below (here_of c) c.state) i q)) hv))) (ops.objects c.world v c.ready.world hv.exists))

  coerce_a : Sound p file ops typings typed 0x82 (makes value rows.Any) (gives_pushed (λ a. one a pure))
  coerce_a = one_gives p file ops typings typed 0x82 (makes value rows.Any) (Fixed rows.Any) (λ a. pure) (record { unslotted_is = refl; scoping = refl; locals = λ h t. refl; leads_is = refl }) refl refl (λ c i v q hv. done_fares p c.world v _ c.ready.world (any_kind p.linked c.world.heap v hv.exists))

  -- ---- types

  pub record HasType (n : ℕ) : Type 0 where
    pub ty : Ty
    pub is : type_of p.linked n ≡ Some ty
    pub kind_is : or_any (type_at p.linked n) ≡ kind_of_type p.linked ty

  pub type_found : (n : ℕ) → is_some (type_at p.linked n) ≡ true → HasType n
  type_found n e = go (type_of p.linked n) refl e
    where
      go : (o : Option Ty) → type_of p.linked n ≡ o → is_some (kind_if p.linked o) ≡ true → HasType n
      go None is e = absurd cc
      go (Some t) is e = record { ty = t; is = is; kind_is = ap (λ o. or_any (kind_if p.linked o)) is }

  abbrev coerce_row : Shape
  coerce_row = naming_shape TypeOrAny (shape_with value (TypeKind ∷ []))

  coerce : Sound p file ops typings typed 0x80 (naming_shape TypeOrAny (shape_with value (TypeKind ∷ []))) (gives_pushed coerces_to_operand)
  coerce = one_gives p file ops typings typed 0x80 coerce_row TypeKind (λ a v. type_of_operand a >>= λ t. coerces a.setting t v) (record { unslotted_is = refl; scoping = refl; locals = λ h t. refl; leads_is = refl }) refl refl
      (λ c i v q hv. let t = type_found (operand c.instr) (c.ready.kept NameForm) in
      some_then p c.world (type_of p.linked (operand c.instr)) t.ty _ _ t.is (subst (λ k. Fares p c.world (coerces p t.ty v c.world) (λ n x. IsOfKind p.linked n.heap k x)) (sym t.kind_is) (ops.coerce c.world t.ty v c.ready.world hv.exists)))

  nullable_of : (w : World) (k : Kind) (v : Value) → IsOfKind p.linked w.heap k v → IsOfKind p.linked w.heap (nullable k) v
  nullable_of w kinds.Text v h = h
  nullable_of w kinds.Space v h = h
  nullable_of w (kinds.Obj x) v h = h
  nullable_of w kinds.Any v h = any_kind p.linked w.heap v h.exists
  nullable_of w kinds.Undef v h = any_kind p.linked w.heap v h.exists
  nullable_of w kinds.Null v h = any_kind p.linked w.heap v h.exists
  nullable_of w kinds.Num v h = any_kind p.linked w.heap v h.exists
  nullable_of w kinds.Bool v h = any_kind p.linked w.heap v h.exists

  nullable_null : (w : World) (k : Kind) → IsOfKind p.linked w.heap (nullable k) Null
  nullable_null w kinds.Text = record { exists = tt; kind = tt }
  nullable_null w kinds.Space = record { exists = tt; kind = tt }
  nullable_null w (kinds.Obj x) = record { exists = tt; kind = tt }
  nullable_null w kinds.Any = record { exists = tt; kind = tt }
  nullable_null w kinds.Undef = record { exists = tt; kind = tt }
  nullable_null w kinds.Null = record { exists = tt; kind = tt }
  nullable_null w kinds.Num = record { exists = tt; kind = tt }
  nullable_null w kinds.Bool = record { exists = tt; kind = tt }

  -- the value where it is of the type, else null
  kept_fares : (w : World) (v : Value) (t : Ty) → WorldSound p w → Exists p.linked w.heap v → Fares p w (kept_as p v t w) (λ n x. IsOfKind p.linked n.heap (nullable (kind_of_type p.linked t)) x)
  kept_fares w v t z e = go (is_it p t v w) refl
    where
      go : (b : Bool) → is_it p t v w ≡ b → Fares p w (pure (or_null v b) w) (λ n x. IsOfKind p.linked n.heap (nullable (kind_of_type p.linked t)) x)
      go true is = done_fares p w v _ z (nullable_of w (kind_of_type p.linked t) v (record { exists = e; kind = type_holds p.linked w.heap t v file.linked e is }))
      go false is = done_fares p w Null _ z (nullable_null w (kind_of_type p.linked t))

  kept_there : (w : World) (v : Value) (t : Ty) → WorldSound p w → Exists p.linked w.heap v → Fares p w (kept_as p v t w) (λ n x. IsOfKind p.linked n.heap kinds.Any x)
  kept_there w v t z e = weaker p w _ _ _ (λ n x l h. any_kind p.linked n.heap x h.exists) (kept_fares w v t z e)

  tested_fares : (w : World) (v : Value) (t : Ty) → WorldSound p w → Fares p w (tested_as p v t w) (λ n x. IsOfKind p.linked n.heap kinds.Bool x)
  tested_fares w v t z = done_fares p w _ _ z (truth w (is_it p t v w))

  abbrev as_row : Shape
  as_row = naming_shape TypeAt (shape_with value (AsTypeKind ∷ []))

  astype : Sound p file ops typings typed 0x86 (naming_shape TypeAt (shape_with value (AsTypeKind ∷ []))) (gives_pushed (λ a. one a λ v. type_of_operand a >>= kept_as a.setting v))
  astype = one_gives p file ops typings typed 0x86 as_row AsTypeKind (λ a v. type_of_operand a >>= kept_as a.setting v) (record { unslotted_is = refl; scoping = refl; locals = λ h t. refl; leads_is = refl }) refl refl
      (λ c i v q hv. let t = type_found (operand c.instr) (c.ready.kept NameForm) in
      some_then p c.world (type_of p.linked (operand c.instr)) t.ty _ _ t.is (subst (λ k. Fares p c.world (kept_as p v t.ty c.world) (λ n x. IsOfKind p.linked n.heap (nullable k) x)) (sym t.kind_is) (kept_fares c.world v t.ty c.ready.world hv.exists)))

  abbrev is_row : Shape
  is_row = naming_shape TypeAt (makes value rows.Bool)

  istype : Sound p file ops typings typed 0xB2 (naming_shape TypeAt (makes value rows.Bool)) (gives_pushed (λ a. one a λ v. type_of_operand a >>= tested_as a.setting v))
  istype = one_gives p file ops typings typed 0xB2 is_row (Fixed rows.Bool) (λ a v. type_of_operand a >>= tested_as a.setting v) (record { unslotted_is = refl; scoping = refl; locals = λ h t. refl; leads_is = refl }) refl refl
      (λ c i v q hv. let t = type_found (operand c.instr) (c.ready.kept NameForm) in some_then p c.world (type_of p.linked (operand c.instr)) t.ty _ _ t.is (tested_fares c.world v t.ty c.ready.world))

  -- ---- the type of a class object

  what_fares : (w : World) (what : What) → WorldSound p w → Fares p w (type_of_what p what w) (λ n t. Unit {0})
  what_fares w (whats.ClassObject k home statics instances) z = done_fares p w _ _ z tt
  what_fares w (whats.HostClass c) z = done_fares p w _ _ z tt
  what_fares w whats.Plain z = stop_fares p w (Errs hosts.TypeError) _ z tt
  what_fares w (whats.Closure m home scope bound) z = stop_fares p w (Errs hosts.TypeError) _ z tt
  what_fares w whats.Trace z = stop_fares p w (Errs hosts.TypeError) _ z tt
  what_fares w (whats.Formula n) z = stop_fares p w (Errs hosts.TypeError) _ z tt
  what_fares w whats.HostObject z = stop_fares p w (Errs hosts.TypeError) _ z tt
  what_fares w (whats.Global s) z = stop_fares p w (Errs hosts.TypeError) _ z tt
  what_fares w whats.Activation z = stop_fares p w (Errs hosts.TypeError) _ z tt
  what_fares w whats.Catch z = stop_fares p w (Errs hosts.TypeError) _ z tt
  what_fares w whats.Array z = stop_fares p w (Errs hosts.TypeError) _ z tt

  late_fares : (w : World) (v : Value) → WorldSound p w → Exists p.linked w.heap v → Fares p w (late_type p v w) (λ n t. Unit {0})
  late_fares w (Obj o) z e = some_then p w (object_named o w) (object_at w.heap.objects o.0) _ _ (there w.heap.objects o.0 e) (what_fares w (object_at w.heap.objects o.0).what z)
  late_fares w Undefined z e = stop_fares p w (Errs hosts.TypeError) _ z tt
  late_fares w Null z e = stop_fares p w (Errs hosts.TypeError) _ z tt
  late_fares w (Num n) z e = stop_fares p w (Errs hosts.TypeError) _ z tt
  late_fares w (Truth n) z e = stop_fares p w (Errs hosts.TypeError) _ z tt
  late_fares w (Text n) z e = stop_fares p w (Errs hosts.TypeError) _ z tt
  late_fares w (Space n) z e = stop_fares p w (Errs hosts.TypeError) _ z tt

  astypelate : Sound p file ops typings typed 0x87 (makes two_values rows.Any) (gives_pushed (λ a. two a λ v c. late_type a.setting c >>= kept_as a.setting v))
  astypelate = two_give p file ops typings typed 0x87 (makes two_values rows.Any) (Fixed rows.Any) (λ a v c. late_type a.setting c >>= kept_as a.setting v) (record { unslotted_is = refl; scoping = refl; locals = λ h t. refl; leads_is = refl }) refl refl
      (λ c i j x y q hx hy. then_fares p c.world _ _ _ _ (late_fares c.world y c.ready.world hy.exists) (λ n t l u. kept_there n x t l.sound (value_on p c.world.heap n.heap l.grows x hx.exists)))

  istypelate : Sound p file ops typings typed 0xB3 (makes two_values rows.Bool) (gives_pushed (λ a. two a λ v c. late_type a.setting c >>= tested_as a.setting v))
  istypelate = two_give p file ops typings typed 0xB3 (makes two_values rows.Bool) (Fixed rows.Bool) (λ a v c. late_type a.setting c >>= tested_as a.setting v) (record { unslotted_is = refl; scoping = refl; locals = λ h t. refl; leads_is = refl }) refl refl
      (λ c i j x y q hx hy. then_fares p c.world _ _ _ _ (late_fares c.world y c.ready.world hy.exists) (λ n t l u. tested_fares n x t l.sound))

  instanceof : Sound p file ops typings typed 0xB1 (makes two_values rows.Bool) (gives_pushed instance_test)
  instanceof = two_give p file ops typings typed 0xB1 (makes two_values rows.Bool) (Fixed rows.Bool) (λ a v c. late_type a.setting c >>= λ t. see (is_instance v c) >>= λ b. pure (Truth b)) (record { unslotted_is = refl; scoping = refl; locals = λ h t. refl; leads_is = refl }) refl refl
      (λ c i j x y q hx hy. then_fares p c.world _ _ _ _ (late_fares c.world y c.ready.world hy.exists) (λ n t l u. done_fares p n _ _ l.sound (truth n (is_instance x y n))))

  -- ---- in

  holder_fares : (w : World) (v : Value) (f : World → Bool) → WorldSound p w → Fares p w (with_holder v (see (λ n. Truth (f n))) w) (λ n x. IsOfKind p.linked n.heap kinds.Bool x)
  holder_fares w Undefined f z = stop_fares p w (Errs hosts.TypeError) _ z tt
  holder_fares w Null f z = stop_fares p w (Errs hosts.TypeError) _ z tt
  holder_fares w (Num n) f z = done_fares p w _ _ z (truth w (f w))
  holder_fares w (Truth n) f z = done_fares p w _ _ z (truth w (f w))
  holder_fares w (Text n) f z = done_fares p w _ _ z (truth w (f w))
  holder_fares w (Space n) f z = done_fares p w _ _ z (truth w (f w))
  holder_fares w (Obj n) f z = done_fares p w _ _ z (truth w (f w))

  in_fares : (c : Case p typings 0xB4 (makes two_values rows.Bool)) → Fares p c.world (has_property_named (at_of c) c.world) (OfSource p file ops typings typed c (Fixed rows.Bool))
  in_fares c = taking_two p file ops typings typed 0xB4 (makes two_values rows.Bool) refl c _ _ (λ k l x y q hx hy. then_fares p c.world _ _ _ _ (ops.spell c.world x c.ready.world hx.exists) (λ n t l' u. holder_fares n y _ l'.sound))

  has_it : Sound p file ops typings typed 0xB4 (makes two_values rows.Bool) (gives_pushed has_property_named)
  has_it = gives_one p file ops typings typed 0xB4 (makes two_values rows.Bool) (Fixed rows.Bool) has_property_named (record { unslotted_is = refl; scoping = refl; locals = λ h t. refl; leads_is = refl }) refl in_fares

  -- ---- computing

  single : (o : ℕ) (k : RowKind) → single_kind o ≡ kind_of_row p.linked k → row_at o ≡ Some (makes value k) → E (o, gives_pushed (λ a. one a (computes_one (opcode_at a))))
  single o k same e = entry p typings o (makes value k) (gives_pushed (λ a. one a (computes_one (opcode_at a)))) e (one_gives p file ops typings typed o (makes value k) (Fixed k) (λ a. computes_one (opcode_at a)) (record { unslotted_is = refl; scoping = refl; locals = λ h t. refl; leads_is = refl }) refl refl
      (λ c i v q hv. subst (λ n. Fares p c.world (computes_one n v c.world) (λ m z. IsOfKind p.linked m.heap (kind_of_row p.linked k) z)) (sym c.is) (subst (λ x. Fares p c.world (computes_one o v c.world) (λ m z. IsOfKind p.linked m.heap x z)) same (ops.single c.world o v c.ready.world hv.exists))))

  abbrev count_row : Shape
  count_row = on_locals (Sets (Fixed rows.Num)) (shape_with [] [])

  counting : (o operation : ℕ) → single_kind operation ≡ kinds.Num → row_at o ≡ Some (on_locals (Sets (Fixed rows.Num)) (shape_with [] [])) → E (o, counts operation)
  counting o operation same e = entry p typings o count_row (counts operation) e (by_case p file ops typings typed o count_row (counts operation) (λ c.
      let v = local_there p file ops typings typed o count_row c (c.ready.kept LocalIndex) in
      some_then p c.world (slice_get c.frame.locals (local c.instr)) v.0 _ _ v.1
      (then_fares p c.world _ _ _ _ (ops.single c.world operation v.0 c.ready.world v.2.exists) (λ n x l hx. sets p file ops typings typed o count_row (Fixed rows.Num) refl refl refl refl refl c n x l (subst (λ k. IsOfKind p.linked n.heap k x) same hx)))))

  double : (o : ℕ) → Rattle.std.specs.Prelude.nat_eq o 0xA0 ≡ false → row_at o ≡ Some (makes two_values rows.Num) → E (o, gives_pushed (λ a. two a (computes_two a.setting (opcode_at a))))
  double o other e = entry p typings o (makes two_values rows.Num) (gives_pushed (λ a. two a (computes_two a.setting (opcode_at a)))) e (two_give p file ops typings typed o (makes two_values rows.Num) (Fixed rows.Num) (λ a. computes_two a.setting (opcode_at a)) (record { unslotted_is = refl; scoping = refl; locals = λ h t. refl; leads_is = refl }) refl refl
      (λ c i j x y q hx hy. subst (λ n. Fares p c.world (computes_two p n x y c.world) (λ m z. IsOfKind p.linked m.heap kinds.Num z)) (sym c.is) (subst (λ b. Fares p c.world (computes_two p o x y c.world) (λ m z. IsOfKind p.linked m.heap (if b then sum_kind i j else kinds.Num) z)) other (ops.double c.world o x y i j c.ready.world hx hy))))

  abbrev sum_row : Shape
  sum_row = shape_with two_values (SumKind ∷ [])

  sum : E (0xA0, gives_pushed (λ a. two a (computes_two a.setting (opcode_at a))))
  unfolding row_at table_of_rows
  sum = entry p typings 0xA0 sum_row (gives_pushed (λ a. two a (computes_two a.setting (opcode_at a)))) refl (two_give p file ops typings typed 0xA0 sum_row SumKind (λ a. computes_two a.setting (opcode_at a)) (record { unslotted_is = refl; scoping = refl; locals = λ h t. refl; leads_is = refl }) refl refl
      (λ c i j x y q hx hy.
      let two = two_kinds (parts_count (here_of c)) (stack_below (here_of c) c.state) i j q in
      let same : sum_kind (kind_at (stack_below (here_of c) c.state) 1) (kind_at (stack_below (here_of c) c.state) 0) ≡ sum_kind i j = ap (λ k. sum_kind k (kind_at (stack_below (here_of c) c.state) 0)) two.1 ∙ ap (sum_kind i) two.0 in
      subst (λ k. Fares p c.world (computes_two p (opcode c.instr) x y c.world) (λ m z. IsOfKind p.linked m.heap k z)) (sym same) (subst (λ n. Fares p c.world (computes_two p n x y c.world) (λ m z. IsOfKind p.linked m.heap (sum_kind i j) z)) (sym c.is) (ops.double c.world 0xA0 x y i j c.ready.world hx hy))))

  comparing : (o : ℕ) → row_at o ≡ Some (makes two_values rows.Bool) → E (o, gives_pushed (λ a. flag (two a (compares a.setting (opcode_at a)))))
  comparing o e = entry p typings o (makes two_values rows.Bool) (gives_pushed (λ a. flag (two a (compares a.setting (opcode_at a))))) e (gives_one p file ops typings typed o (makes two_values rows.Bool) (Fixed rows.Bool) (λ a. flag (two a (compares a.setting (opcode_at a)))) (record { unslotted_is = refl; scoping = refl; locals = λ h t. refl; leads_is = refl }) refl
      (λ c. then_fares p c.world _ _ _ _ (taking_two p file ops typings typed o (makes two_values rows.Bool) refl c (compares p (opcode c.instr)) (λ n b. Unit {0}) (λ k l x y q hx hy. ops.compare c.world (opcode c.instr) x y c.ready.world)) (λ n b l u. done_fares p n (Truth b) _ l.sound (truth n b))))

  pub operations_hold : (rest : List (ℕ × Doing)) → Each (EntrySound p typings) rest → Each (EntrySound p typings) (operation_acts rest)
  unfolding row_at table_of_rows
  operations_hold rest more = (
    converts_so 0x70 rows.Text ConvertS refl refl,
    (
      converts_so 0x73 rows.Num ConvertI refl refl,
      (
        converts_so 0x74 rows.Num ConvertU refl refl,
        (
          converts_so 0x75 rows.Num ConvertD refl refl,
          (
            converts_so 0x76 rows.Bool ConvertB refl refl,
            (
              entry p typings 0x77 (shape_with value (Taken 0 ∷ [])) _ refl convert_o,
              (
                converts_so 0x85 rows.Text CoerceS refl refl,
                (
                  entry p typings 0x80 (naming_shape TypeOrAny (shape_with value (TypeKind ∷ []))) _ refl coerce,
                  (
                    entry p typings 0x82 (makes value rows.Any) _ refl coerce_a,
                    (
                      entry p typings 0x86 (naming_shape TypeAt (shape_with value (AsTypeKind ∷ []))) _ refl astype,
                      (
                        entry p typings 0xB2 (naming_shape TypeAt (makes value rows.Bool)) _ refl istype,
                        (
                          entry p typings 0x87 (makes two_values rows.Any) _ refl astypelate,
                          (
                            entry p typings 0xB3 (makes two_values rows.Bool) _ refl istypelate,
                            (
                              entry p typings 0xB1 (makes two_values rows.Bool) _ refl instanceof,
                              (
                                entry p typings 0xB4 (makes two_values rows.Bool) _ refl has_it,
                                (
                                  single 0x90 rows.Num refl refl,
                                  (
                                    single 0x91 rows.Num refl refl,
                                    (
                                      single 0x93 rows.Num refl refl,
                                      (
                                        single 0x95 rows.Text refl refl,
                                        (
                                          single 0x96 rows.Bool refl refl,
                                          (
                                            single 0x97 rows.Num refl refl,
                                            (
                                              single 0xC0 rows.Num refl refl,
                                              (
                                                single 0xC1 rows.Num refl refl,
                                                (
                                                  single 0xC4 rows.Num refl refl,
                                                  (
                                                    counting 0x92 0x91 refl refl,
                                                    (
                                                      counting 0x94 0x93 refl refl,
                                                      (
                                                        counting 0xC2 0xC0 refl refl,
                                                        (
                                                          counting 0xC3 0xC1 refl refl,
                                                          (
                                                            sum,
                                                            (
                                                              double 0xA1 refl refl,
                                                              (
                                                                double 0xA2 refl refl,
                                                                (
                                                                  double 0xA3 refl refl,
                                                                  (
                                                                    double 0xA4 refl refl,
                                                                    (
                                                                      double 0xA5 refl refl,
                                                                      (
                                                                        double 0xA6 refl refl,
                                                                        (
                                                                          double 0xA7 refl refl,
                                                                          (
                                                                            double 0xA8 refl refl,
                                                                            (
                                                                              double 0xA9 refl refl,
                                                                              (
                                                                                double 0xAA refl refl,
                                                                                (
                                                                                  double 0xC5 refl refl,
                                                                                  (
                                                                                    double 0xC6 refl refl,
                                                                                    (
                                                                                      double 0xC7 refl refl,
                                                                                      (
                                                                                        comparing 0xAB refl,
                                                                                        (
                                                                                          comparing 0xAC refl,
                                                                                          (
                                                                                            comparing 0xAD refl,
                                                                                            (
                                                                                              comparing 0xAE refl,
                                                                                              (
                                                                                                comparing 0xAF refl,
                                                                                                (
                                                                                                  comparing 0xB0 refl,
                                                                                                  more,
                                                                                                ),
                                                                                              ),
                                                                                            ),
                                                                                          ),
                                                                                        ),
                                                                                      ),
                                                                                    ),
                                                                                  ),
                                                                                ),
                                                                              ),
                                                                            ),
                                                                          ),
                                                                        ),
                                                                      ),
                                                                    ),
                                                                  ),
                                                                ),
                                                              ),
                                                            ),
                                                          ),
                                                        ),
                                                      ),
                                                    ),
                                                  ),
                                                ),
                                              ),
                                            ),
                                          ),
                                        ),
                                      ),
                                    ),
                                  ),
                                ),
                              ),
                            ),
                          ),
                        ),
                      ),
                    ),
                  ),
                ),
              ),
            ),
          ),
        ),
      ),
    ),
  )
