-- Scopes, constants, operands and locals.
use Rattle.std.proofs.Common.{◌≡◌, inl, ℕ, zero, suc, ◌+◌, ◌-◌, ◌<◌, List, [], ◌∷◌, length, take, refl, sym, subst, arith}
use Rattle.std.specs.Prelude.{Bool, true, false, ◌&&◌, leb, ltb, pos, slice_get, Some}
use Rattle.std.proofs.lemmas.Bool.{leb-true, ltb-true}
use Rattle.abc_base.specs.declared.names.Fault.TheVariants as faults
use Rattle.abc_base.specs.declared.names.HostClass.TheVariants as hosts
use Rattle.abc_heap_values.specs.declared.values.ObjId.{ObjId}
use Rattle.abc_heap_values.specs.declared.values.Value.{Value}
use Rattle.abc_heap_values.specs.declared.values.Value.TheVariants.{Undefined, Null, Num, Bool as Truth, Text, Space, Obj}
use Rattle.abc_heap_store.specs.Heap.{object_at}
use Rattle.abc_heap_store.specs.declared.records.ScopeEntry.{ScopeEntry}
use Rattle.abc_objects.specs.Values.{Exists, IsSpace}
use Rattle.abc_link_names.specs.declared.types.Kind.{Kind}
use Rattle.abc_link_names.specs.declared.types.Kind.TheVariants as kinds
use Rattle.abc_link_names.specs.Starts.{int_at, uint_at}
use Rattle.abc_verify_typing.specs.Instructions.{local, operand}
use Rattle.abc_verify_typing.specs.Rows.{Shape, makes, naming_shape, on_locals, on_scopes, shape_with, row_at, table_of_rows, two_values, value}
use Rattle.abc_verify_typing.specs.declared.row.Locals.TheVariants.{Reads, Sets}
use Rattle.abc_verify_typing.specs.declared.row.Need.TheVariants as needed
use Rattle.abc_verify_typing.specs.declared.row.Operand.TheVariants.{StringAt, IntAt, UintAt, DoubleAt, NamespaceAt, ScopeAt}
use Rattle.abc_verify_typing.specs.declared.row.RowKind.{RowKind}
use Rattle.abc_verify_typing.specs.declared.row.RowKind.TheVariants as rows
use Rattle.abc_verify_typing.specs.declared.row.Scoping.TheVariants.{Pushes, Pops}
use Rattle.abc_verify_typing.specs.declared.row.Source.TheVariants.{Fixed, Taken, LocalKind, ScopeKind}
use Rattle.abc_verify_typing.specs.Effects.{kind_of_row, kind_at, scope_kind, scope_of, stack_below}
use Rattle.abc_verify_typing.specs.Lists.{Each, Each2}
use Rattle.abc_verify_typing.specs.declared.rule.VerifyRule.TheVariants.{LocalIndex, PoolIndex, ScopeIndex}
use Rattle.abc_verify_typing.specs.declared.state.Scope.{Scope}
use Rattle.abc_verify_typing.proofs.Lists.{Each2-append, Each2-length, Each2-take}
use Rattle.abc_verify_typing.proofs.Member.{and_left, and_right}
use Rattle.abc_meaning.specs.Entering.{global}
use Rattle.abc_meaning.specs.Setting.{Setting, string_of}
use Rattle.abc_meaning.specs.World.{Errs, Faults, Run, World, pure, fails, see}
use Rattle.abc_meaning.specs.At.{ActCase, Doing, gives_pushed, goes, next_frame, does_nothing, number_here, one, after_pushes, two, frame_with_scope}
use Rattle.abc_meaning.specs.Simple.{local_value, pops_scope, scope_object, pushes_scope, sets_local, whole}
use Rattle.abc_meaning.specs.Table.{plain_acts}
use Rattle.abc_meaning.specs.Sound.{AreTypings, IsOfKind, ScopeHolds, Typings}
use Rattle.abc_meaning.specs.Tests.{parts_count}
use Rattle.abc_meaning.proofs.ValueKinds.{below_object}
use Rattle.abc_meaning_sound.specs.Given.{FileGiven, OpsGiven}
use Rattle.abc_meaning_sound.specs.Keeping.{ActSound, EntrySound, Fares}
use Rattle.abc_meaning_sound.proofs.Cases.{Case, OfSource, Sound, at_of, by_case, gives_nothing, gives_one, here_of, sets, taking_one, taking_two, entry}
use Rattle.abc_meaning_sound.proofs.Entered.{global_kind}
use Rattle.abc_meaning_sound.proofs.Faring.{done_fares, leaves_self, some_fares, some_then, stop_fares}
use Rattle.abc_meaning_sound.proofs.Shapes.{goes_plain, moves_to, stack_left, unslotted_left}
use Rattle.abc_meaning_sound.proofs.Taking.{first_kind, string_there, two_kinds}
use Rattle.abc_meaning_sound.proofs.Tests.{local_at}

-- the scope of a number, and its kind
scope_at : (p : Setting) (w : World) (ss : List Scope) (es : List ScopeEntry) (n : ℕ) → Each2 (ScopeHolds p.linked w.heap) ss es → n < length ss → (e : ScopeEntry) × (slice_get es n ≡ Some e) × IsOfKind p.linked w.heap (scope_of (slice_get ss n)) (Obj e.object)
scope_at p w (s ∷ ss) (e ∷ es) zero h l = (e, refl, h.0.object)
scope_at p w (s ∷ ss) (e ∷ es) (suc n) h l = scope_at p w ss es n h.1 (omega (arith, l))
scope_at p w [] es n h l = absurd (omega (arith, l))
scope_at p w (s ∷ ss) [] n h l = absurd h

module _ (p : Setting) (file : FileGiven p) (ops : OpsGiven p) (typings : Typings) (typed : AreTypings p typings) where
  -- ---- scopes

  object_up : (w : World) (k : Kind) (o : ObjId) → IsOfKind p.linked w.heap k (Obj o) → IsOfKind p.linked w.heap (kind_of_row p.linked rows.Object) (Obj o)
  object_up w k o h = record { exists = h.exists; kind = (h.exists, below_object p.linked file.linked (object_at w.heap.objects o.0).layout) }

  scope_holds : (w : World) (k : Kind) (o : ObjId) → IsOfKind p.linked w.heap k (Obj o) → IsOfKind p.linked w.heap (scope_kind p.linked k) (Obj o)
  scope_holds w (kinds.Obj x) o h = h
  scope_holds w kinds.Null o h = absurd h.kind
  scope_holds w kinds.Any o h = object_up w kinds.Any o h
  scope_holds w kinds.Undef o h = object_up w kinds.Undef o h
  scope_holds w kinds.Num o h = object_up w kinds.Num o h
  scope_holds w kinds.Bool o h = object_up w kinds.Bool o h
  scope_holds w kinds.Text o h = object_up w kinds.Text o h
  scope_holds w kinds.Space o h = object_up w kinds.Space o h

  abbrev scope_row : Bool → Shape
  scope_row b = on_scopes (Pushes b) (shape_with value [])

  pushes : (op : ℕ) (b : Bool) → Sound p file ops typings typed op (on_scopes (Pushes b) (shape_with value [])) (λ a. one a (pushes_scope b a.rest))
  pushes op b = by_case p file ops typings typed op (scope_row b) (λ a. one a (pushes_scope b a.rest)) (λ c. taking_one p file ops typings typed op (scope_row b) refl c (pushes_scope b (at_of c).rest) _ (λ k v q hv. go c v (subst (λ i. IsOfKind p.linked c.world.heap i v) (sym (first_kind (parts_count (here_of c)) (stack_below (here_of c) c.state) k q)) hv)))
    where
      go : (c : Case p typings op (scope_row b)) (v : Value) → IsOfKind p.linked c.world.heap (kind_at (stack_below (here_of c) c.state) 0) v → Fares p c.world (pushes_scope b (at_of c).rest v c.world) (ActSound p typings c.frame)
      go c (Obj o) hv =
          let w = c.world in
          let f = c.frame in
          let l = leaves_self p w c.ready.world in
          done_fares p w _ _ c.ready.world (
            refl,
            moves_to p file typings typed w f c.routine c.state c.instr (scope_row b) c.ready w l (next_frame (frame_with_scope (record { object = o; with_flag = b }) (at_of c).rest)) (f.place + 1) (inl refl) (unslotted_left (needed.Value ∷ []) (stack_below (here_of c) c.state) refl) (record { method = refl; home = refl; saved = refl; place = refl; wait = refl })
                (record { stack = stack_left p file typings typed w f c.routine c.state c.instr (scope_row b) c.ready w l; scopes = Each2-append (ScopeHolds p.linked w.heap) c.state.scopes f.scopes (record { kind = scope_kind p.linked (kind_at (stack_below (here_of c) c.state) 0); is_with = b } ∷ []) (record { object = o; with_flag = b } ∷ []) c.ready.is.scopes (record { object = scope_holds w (kind_at (stack_below (here_of c) c.state) 0) o hv; flag = refl }, tt); locals = c.ready.is.locals }),
          )
      go c Undefined hv = stop_fares p c.world (Errs hosts.TypeError) _ c.ready.world tt
      go c Null hv = stop_fares p c.world (Errs hosts.TypeError) _ c.ready.world tt
      go c (Num n) hv = stop_fares p c.world (Errs hosts.TypeError) _ c.ready.world tt
      go c (Truth n) hv = stop_fares p c.world (Errs hosts.TypeError) _ c.ready.world tt
      go c (Text n) hv = stop_fares p c.world (Errs hosts.TypeError) _ c.ready.world tt
      go c (Space n) hv = stop_fares p c.world (Errs hosts.TypeError) _ c.ready.world tt

  abbrev pop_row : Shape
  pop_row = on_scopes Pops (shape_with [] [])

  pops : Sound p file ops typings typed 0x1D (on_scopes Pops (shape_with [] [])) pops_scope
  pops = by_case p file ops typings typed 0x1D pop_row pops_scope go
    where
      go : (c : Case p typings 0x1D pop_row) → Fares p c.world (pops_scope (at_of c) c.world) (ActSound p typings c.frame)
      go c =
          let w = c.world in
          let f = c.frame in
          let l = leaves_self p w c.ready.world in
          let same = Each2-length (ScopeHolds p.linked w.heap) c.state.scopes f.scopes c.ready.is.scopes in
          let cut = Each2-take (ScopeHolds p.linked w.heap) (length c.state.scopes - 1) c.state.scopes f.scopes c.ready.is.scopes in
          done_fares p w _ _ c.ready.world (
            refl,
            moves_to p file typings typed w f c.routine c.state c.instr pop_row c.ready w l (next_frame (record (at_of c).rest { scopes = take (length f.scopes - 1) f.scopes })) (f.place + 1) (inl refl) (unslotted_left [] (stack_below (here_of c) c.state) refl) (record { method = refl; home = refl; saved = refl; place = refl; wait = refl })
                (record { stack = stack_left p file typings typed w f c.routine c.state c.instr pop_row c.ready w l; scopes = subst (λ n. Each2 (ScopeHolds p.linked w.heap) (take (length c.state.scopes - 1) c.state.scopes) (take (n - 1) f.scopes)) same cut; locals = c.ready.is.locals }),
          )

  -- ---- constants

  holds : (w : World) (k : Kind) (v : Value) → Exists p.linked w.heap v → Rattle.abc_objects.specs.Values.IsValueOf p.linked w.heap k v → IsOfKind p.linked w.heap k v
  holds w k v e h = record { exists = e; kind = h }

  abbrev E : ℕ × Doing → Type 0
  E = EntrySound p typings

  constant : (op : ℕ) (k : RowKind) (m : ActCase → Run Value) → ((c : Case p typings op (makes [] k)) → Fares p c.world (m (at_of c) c.world) (λ n v. IsOfKind p.linked n.heap (kind_of_row p.linked k) v)) → row_at op ≡ Some (makes [] k) → E (op, gives_pushed m)
  constant op k m g e = entry p typings op (makes [] k) (gives_pushed m) e (gives_one p file ops typings typed op (makes [] k) (Fixed k) m (record { unslotted_is = refl; scoping = refl; locals = λ h t. refl; leads_is = refl }) refl g)

  numbers : (op : ℕ) → row_at op ≡ Some (makes [] rows.Num) → E (op, gives_pushed (λ a. pure (Num (whole a.here.instr))))
  numbers op e = constant op rows.Num (λ a. pure (Num (whole a.here.instr))) (λ c. done_fares p c.world _ _ c.ready.world (holds c.world kinds.Num (Num (whole c.instr)) (file.formed c.frame.method c.routine c.frame.place c.instr c.ready.body c.ready.at).number tt)) e

  pushnan : Sound p file ops typings typed 0x28 (makes [] rows.Num) (λ a. fails faults.NotANumber)
  pushnan = by_case p file ops typings typed 0x28 (makes [] rows.Num) (λ a. fails faults.NotANumber) (λ c. stop_fares p c.world (Faults faults.NotANumber) _ c.ready.world tt)

  pushdouble : Sound p file ops typings typed 0x2F (naming_shape DoubleAt (makes [] rows.Num)) (λ a. fails faults.Double)
  pushdouble = by_case p file ops typings typed 0x2F (naming_shape DoubleAt (makes [] rows.Num)) (λ a. fails faults.Double) (λ c. stop_fares p c.world (Faults faults.Double) _ c.ready.world tt)

  pushstring : Sound p file ops typings typed 0x2C (naming_shape StringAt (makes [] rows.Text)) (gives_pushed (λ a. pure (Text (string_of a.setting (number_here a)))))
  pushstring = gives_one p file ops typings typed 0x2C (naming_shape StringAt (makes [] rows.Text)) (Fixed rows.Text) (λ a. pure (Text (string_of a.setting (number_here a)))) (record { unslotted_is = refl; scoping = refl; locals = λ h t. refl; leads_is = refl }) refl (λ c. done_fares p c.world _ _ c.ready.world (holds c.world kinds.Text (Text (string_of p (operand c.instr))) (string_there p c.world.heap (operand c.instr)) tt))

  pushint : Sound p file ops typings typed 0x2D (naming_shape IntAt (makes [] rows.Num)) (gives_pushed (λ a. pure (Num (int_at a.setting.linked.file (number_here a)))))
  pushint = gives_one p file ops typings typed 0x2D (naming_shape IntAt (makes [] rows.Num)) (Fixed rows.Num) (λ a. pure (Num (int_at a.setting.linked.file (number_here a)))) (record { unslotted_is = refl; scoping = refl; locals = λ h t. refl; leads_is = refl }) refl (λ c. done_fares p c.world _ _ c.ready.world (holds c.world kinds.Num (Num (int_at p.linked.file (operand c.instr))) (file.ints (operand c.instr)) tt))

  pushuint : Sound p file ops typings typed 0x2E (naming_shape UintAt (makes [] rows.Num)) (gives_pushed (λ a. pure (Num (pos (uint_at a.setting.linked.file (number_here a))))))
  pushuint = gives_one p file ops typings typed 0x2E (naming_shape UintAt (makes [] rows.Num)) (Fixed rows.Num) (λ a. pure (Num (pos (uint_at a.setting.linked.file (number_here a))))) (record { unslotted_is = refl; scoping = refl; locals = λ h t. refl; leads_is = refl }) refl (λ c. done_fares p c.world _ _ c.ready.world (holds c.world kinds.Num (Num (pos (uint_at p.linked.file (operand c.instr)))) (file.uints (operand c.instr)) tt))

  space_there : (n : ℕ) → (ltb 0 n && leb n (length p.linked.file.namespaces)) ≡ true → IsSpace p.linked n
  space_there n e = (ltb-true 0 n (and_left (ltb 0 n) _ e), leb-true n _ (and_right (ltb 0 n) _ e))

  pushnamespace : Sound p file ops typings typed 0x31 (naming_shape NamespaceAt (makes [] rows.Space)) (gives_pushed (λ a. pure (Space (number_here a))))
  pushnamespace = gives_one p file ops typings typed 0x31 (naming_shape NamespaceAt (makes [] rows.Space)) (Fixed rows.Space) (λ a. pure (Space (number_here a))) (record { unslotted_is = refl; scoping = refl; locals = λ h t. refl; leads_is = refl }) refl (λ c. done_fares p c.world _ _ c.ready.world (holds c.world kinds.Space (Space (operand c.instr)) (space_there (operand c.instr) (c.ready.kept PoolIndex)) tt))

  -- ---- operands

  abbrev dup_row : Shape
  dup_row = shape_with value (Taken 0 ∷ Taken 0 ∷ [])

  dup : Sound p file ops typings typed 0x2A (shape_with value (Taken 0 ∷ Taken 0 ∷ [])) (λ a. one a λ v. goes (after_pushes (v ∷ v ∷ []) a.rest))
  dup = by_case p file ops typings typed 0x2A dup_row (λ a. one a λ v. goes (after_pushes (v ∷ v ∷ []) a.rest)) (λ c. taking_one p file ops typings typed 0x2A dup_row refl c (λ v. goes (after_pushes (v ∷ v ∷ []) (at_of c).rest)) _ (λ k v q hv.
      let hk = subst (λ i. IsOfKind p.linked c.world.heap i v) (sym (first_kind (parts_count (here_of c)) (stack_below (here_of c) c.state) k q)) hv in
      done_fares p c.world _ _ c.ready.world (refl, goes_plain p file typings typed c.world c.frame c.routine c.state c.instr dup_row c.ready (record { keeps = record { unslotted = refl; scoping = refl; locals = λ t. refl }; leads = refl }) c.world (leaves_self p c.world c.ready.world) (v ∷ v ∷ []) (hk, (hk, tt)))))

  abbrev swap_row : Shape
  swap_row = shape_with two_values (Taken 1 ∷ Taken 0 ∷ [])

  swap : Sound p file ops typings typed 0x2B (shape_with two_values (Taken 1 ∷ Taken 0 ∷ [])) (λ a. two a λ x y. goes (after_pushes (x ∷ y ∷ []) a.rest))
  swap = by_case p file ops typings typed 0x2B swap_row (λ a. two a λ x y. goes (after_pushes (x ∷ y ∷ []) a.rest)) (λ c. taking_two p file ops typings typed 0x2B swap_row refl c (λ x y. goes (after_pushes (x ∷ y ∷ []) (at_of c).rest)) _ (λ k l x y q hx hy.
      let two = two_kinds (parts_count (here_of c)) (stack_below (here_of c) c.state) k l q in
      let kx = subst (λ i. IsOfKind p.linked c.world.heap i x) (sym two.1) hx in
      let ky = subst (λ i. IsOfKind p.linked c.world.heap i y) (sym two.0) hy in
      done_fares p c.world _ _ c.ready.world (refl, goes_plain p file typings typed c.world c.frame c.routine c.state c.instr swap_row c.ready (record { keeps = record { unslotted = refl; scoping = refl; locals = λ t. refl }; leads = refl }) c.world (leaves_self p c.world c.ready.world) (x ∷ y ∷ []) (kx, (ky, tt)))))

  -- ---- locals

  abbrev read_row : Shape
  read_row = on_locals Reads (shape_with [] (LocalKind ∷ []))

  pub local_there : (op : ℕ) (r : Shape) (c : Case p typings op r) → ltb (local c.instr) c.routine.local_count ≡ true → (v : Value) × (slice_get c.frame.locals (local c.instr) ≡ Some v) × IsOfKind p.linked c.world.heap (kind_at c.state.locals (local c.instr)) v
  local_there op r c e =
      let low = ltb-true (local c.instr) c.routine.local_count e in
      let same = Each2-length (IsOfKind p.linked c.world.heap) c.state.locals c.frame.locals c.ready.is.locals in
      let count = c.ready.sized.locals in
      local_at p c.world c.state.locals c.frame.locals (local c.instr) c.ready.is.locals (omega (arith, low, same, count))

  getlocal : (op : ℕ) → Sound p file ops typings typed op (on_locals Reads (shape_with [] (LocalKind ∷ []))) (gives_pushed local_value)
  getlocal op = gives_one p file ops typings typed op read_row LocalKind local_value (record { unslotted_is = refl; scoping = refl; locals = λ h t. refl; leads_is = refl }) refl (λ c. let v = local_there op read_row c (c.ready.kept LocalIndex) in some_fares p c.world (slice_get c.frame.locals (local c.instr)) v.0 _ v.1 c.ready.world v.2)

  abbrev set_row : Shape
  set_row = on_locals (Sets (Taken 0)) (shape_with value [])

  setlocal : (op : ℕ) → Sound p file ops typings typed op (on_locals (Sets (Taken 0)) (shape_with value [])) (λ a. one a (sets_local a))
  setlocal op = by_case p file ops typings typed op set_row (λ a. one a (sets_local a)) (λ c. taking_one p file ops typings typed op set_row refl c (sets_local (at_of c)) _ (λ k v q hv. sets p file ops typings typed op set_row (Taken 0) refl refl refl refl refl c c.world v (leaves_self p c.world c.ready.world) (subst (λ i. IsOfKind p.linked c.world.heap i v) (sym (first_kind (parts_count (here_of c)) (stack_below (here_of c) c.state) k q)) hv)))

  abbrev kill_row : Shape
  kill_row = on_locals (Sets (Fixed rows.Undef)) (shape_with [] [])

  kill : Sound p file ops typings typed 0x08 (on_locals (Sets (Fixed rows.Undef)) (shape_with [] [])) (λ a. sets_local a Undefined)
  kill = by_case p file ops typings typed 0x08 kill_row (λ a. sets_local a Undefined) (λ c. sets p file ops typings typed 0x08 kill_row (Fixed rows.Undef) refl refl refl refl refl c c.world Undefined (leaves_self p c.world c.ready.world) (holds c.world kinds.Undef Undefined tt tt))

  -- ---- scopes that are read

  scope_object_fares : (c : Case p typings 0x65 (naming_shape ScopeAt (shape_with [] (ScopeKind ∷ [])))) → Fares p c.world (scope_object (at_of c) c.world) (OfSource p file ops typings typed c ScopeKind)
  scope_object_fares c =
      let e = scope_at p c.world c.state.scopes c.frame.scopes (operand c.instr) c.ready.is.scopes (ltb-true (operand c.instr) (length c.state.scopes) (c.ready.kept ScopeIndex)) in
      some_then p c.world (slice_get c.frame.scopes (operand c.instr)) e.0 _ _ e.1 (done_fares p c.world _ _ c.ready.world e.2)

  getscopeobject : Sound p file ops typings typed 0x65 (naming_shape ScopeAt (shape_with [] (ScopeKind ∷ []))) (gives_pushed scope_object)
  getscopeobject = gives_one p file ops typings typed 0x65 (naming_shape ScopeAt (shape_with [] (ScopeKind ∷ []))) ScopeKind scope_object (record { unslotted_is = refl; scoping = refl; locals = λ h t. refl; leads_is = refl }) refl scope_object_fares

  global_object : (c : Case p typings 0x64 (makes [] rows.Object)) → Fares p c.world (see (global c.frame.home) c.world) (λ n v. IsOfKind p.linked n.heap (kind_of_row p.linked rows.Object) v)
  global_object c = done_fares p c.world _ _ c.ready.world (object_up c.world _ _ (global_kind p file ops typings typed c.world c.frame.home c.ready.world c.ready.home))

  pub plain_hold : (rest : List (ℕ × Doing)) → Each (EntrySound p typings) rest → Each (EntrySound p typings) (plain_acts rest)
  unfolding row_at table_of_rows
  plain_hold rest more = (
    entry p typings 0x1C (on_scopes (Pushes true) (shape_with value [])) _ refl (pushes 0x1C true),
    (
      entry p typings 0x30 (on_scopes (Pushes false) (shape_with value [])) _ refl (pushes 0x30 false),
      (
        entry p typings 0x1D (on_scopes Pops (shape_with [] [])) _ refl pops,
        (
          constant 0x20 rows.Null (λ a. pure Null) (λ c. done_fares p c.world Null _ c.ready.world (holds c.world kinds.Null Null tt tt)) refl,
          (
            constant 0x21 rows.Undef (λ a. pure Undefined) (λ c. done_fares p c.world Undefined _ c.ready.world (holds c.world kinds.Undef Undefined tt tt)) refl,
            (
              constant 0x26 rows.Bool (λ a. pure (Truth true)) (λ c. done_fares p c.world (Truth true) _ c.ready.world (holds c.world kinds.Bool (Truth true) tt tt)) refl,
              (
                constant 0x27 rows.Bool (λ a. pure (Truth false)) (λ c. done_fares p c.world (Truth false) _ c.ready.world (holds c.world kinds.Bool (Truth false) tt tt)) refl,
                (
                  numbers 0x24 refl,
                  (
                    numbers 0x25 refl,
                    (
                      entry p typings 0x28 (makes [] rows.Num) _ refl pushnan,
                      (
                        entry p typings 0x2F (naming_shape DoubleAt (makes [] rows.Num)) _ refl pushdouble,
                        (
                          entry p typings 0x2C (naming_shape StringAt (makes [] rows.Text)) _ refl pushstring,
                          (
                            entry p typings 0x2D (naming_shape IntAt (makes [] rows.Num)) _ refl pushint,
                            (
                              entry p typings 0x2E (naming_shape UintAt (makes [] rows.Num)) _ refl pushuint,
                              (
                                entry p typings 0x31 (naming_shape NamespaceAt (makes [] rows.Space)) _ refl pushnamespace,
                                (
                                  entry p typings 0x29 (shape_with value []) does_nothing refl (gives_nothing p file ops typings typed 0x29 (shape_with value []) (record { unslotted_is = refl; scoping = refl; locals = λ h t. refl; leads_is = refl }) refl),
                                  (
                                    entry p typings 0x2A (shape_with value (Taken 0 ∷ Taken 0 ∷ [])) _ refl dup,
                                    (
                                      entry p typings 0x2B (shape_with two_values (Taken 1 ∷ Taken 0 ∷ [])) _ refl swap,
                                      (
                                        entry p typings 0x62 (on_locals Reads (shape_with [] (LocalKind ∷ []))) _ refl (getlocal 0x62),
                                        (
                                          entry p typings 0xD0 (on_locals Reads (shape_with [] (LocalKind ∷ []))) _ refl (getlocal 0xD0),
                                          (
                                            entry p typings 0xD1 (on_locals Reads (shape_with [] (LocalKind ∷ []))) _ refl (getlocal 0xD1),
                                            (
                                              entry p typings 0xD2 (on_locals Reads (shape_with [] (LocalKind ∷ []))) _ refl (getlocal 0xD2),
                                              (
                                                entry p typings 0xD3 (on_locals Reads (shape_with [] (LocalKind ∷ []))) _ refl (getlocal 0xD3),
                                                (
                                                  entry p typings 0x63 (on_locals (Sets (Taken 0)) (shape_with value [])) _ refl (setlocal 0x63),
                                                  (
                                                    entry p typings 0xD4 (on_locals (Sets (Taken 0)) (shape_with value [])) _ refl (setlocal 0xD4),
                                                    (
                                                      entry p typings 0xD5 (on_locals (Sets (Taken 0)) (shape_with value [])) _ refl (setlocal 0xD5),
                                                      (
                                                        entry p typings 0xD6 (on_locals (Sets (Taken 0)) (shape_with value [])) _ refl (setlocal 0xD6),
                                                        (
                                                          entry p typings 0xD7 (on_locals (Sets (Taken 0)) (shape_with value [])) _ refl (setlocal 0xD7),
                                                          (
                                                            entry p typings 0x08 (on_locals (Sets (Fixed rows.Undef)) (shape_with [] [])) _ refl kill,
                                                            (
                                                              constant 0x64 rows.Object (λ a. see (global a.frame.home)) global_object refl,
                                                              (
                                                                entry p typings 0x65 (naming_shape ScopeAt (shape_with [] (ScopeKind ∷ []))) _ refl getscopeobject,
                                                                more,
                                                              ),
                                                            ),
                                                          ),
                                                        ),
                                                      ),
                                                    ),
                                                  ),
                                                ),
                                              ),
                                            ),
                                          ),
                                        ),
                                      ),
                                    ),
                                  ),
                                ),
                              ),
                            ),
                          ),
                        ),
                      ),
                    ),
                  ),
                ),
              ),
            ),
          ),
        ),
      ),
    ),
  )
