-- Objects and arrays that are made, searches in scopes, slots, and what is done by names.
use Rattle.std.proofs.Common.{◌≡◌, inl, ℕ, ◌+◌, List, [], ◌∷◌, ◌++◌, length, refl, sym, ap, ◌∙◌, subst, arith, length-append}
use Rattle.std.specs.Prelude.{Bool, true, false, not, slice_get, Some}
use Rattle.std.proofs.lemmas.List.{length-reverse}
use Rattle.abc_base.specs.declared.names.HostClass.TheVariants as hosts
use Rattle.abc_heap_values.specs.declared.values.ObjId.{ObjId}
use Rattle.abc_heap_values.specs.declared.values.Span.{Span}
use Rattle.abc_heap_values.specs.declared.values.Value.{Value}
use Rattle.abc_heap_values.specs.declared.values.Value.TheVariants.{Null, Bool as Truth, Obj}
use Rattle.abc_heap_store.specs.Heap.{object_at}
use Rattle.abc_heap_store.specs.Texts.{IsText}
use Rattle.abc_heap_store.specs.declared.records.ScopeEntry.{ScopeEntry}
use Rattle.abc_heap_store.specs.declared.records.What.TheVariants as whats
use Rattle.abc_objects.specs.Values.{Exists, IsObject}
use Rattle.abc_objects.proofs.Grown.{text_grown}
use Rattle.abc_link_names.specs.Slots.{slot_numbered, slots_of}
use Rattle.abc_link_names.specs.Types.{kind_of_type}
use Rattle.abc_link_names.specs.declared.part.LayoutId.{LayoutId}
use Rattle.abc_link_names.specs.declared.types.Kind.{Kind}
use Rattle.abc_link_names.specs.declared.types.Kind.TheVariants as kinds
use Rattle.abc_objects.specs.declared.found.ScopeFound.{ScopeFound}
use Rattle.abc_objects.specs.declared.found.ScopeFound.TheVariants.{Object as InObject, Start, Missing}
use Rattle.abc_objects.specs.declared.name.Name.{Name}
use Rattle.abc_verify_typing.specs.Instructions.{operand}
use Rattle.abc_verify_typing.specs.Rows.{Shape, makes, naming_shape, shape_with, row_at, table_of_rows, two_values, value, with_argument_count}
use Rattle.abc_verify_typing.specs.declared.row.Need.TheVariants as needed
use Rattle.abc_verify_typing.specs.declared.row.Operand.TheVariants.{NameAt, PlainNameAt}
use Rattle.abc_verify_typing.specs.declared.row.RowKind.TheVariants as rows
use Rattle.abc_verify_typing.specs.declared.row.Source.TheVariants.{Fixed, SlotKind}
use Rattle.abc_verify_typing.specs.Effects.{Here, kind_of_row, goes_on_after, is_null_kind, kind_of_source, needs, receiver_kind, slot_kind, stack_below}
use Rattle.abc_verify_typing.specs.Lists.{Each, Each2}
use Rattle.abc_verify_typing.specs.Routines.{or_any}
use Rattle.abc_verify_typing.specs.Rules.{all_suit, has_slot, is_object, suits}
use Rattle.abc_verify_typing.specs.declared.rule.VerifyRule.{VerifyRule}
use Rattle.abc_verify_typing.specs.declared.rule.VerifyRule.TheVariants.{NotObject, SlotIndex}
use Rattle.abc_verify_typing.specs.declared.state.Scope.{Scope}
use Rattle.abc_verify_typing.proofs.Member.{and_left, and_right}
use Rattle.abc_meaning.specs.Calling.{Came, Calls, Got, Makes, calls}
use Rattle.abc_meaning.specs.Entering.{global}
use Rattle.abc_meaning.specs.Making.{new}
use Rattle.abc_meaning.specs.Members.{calls_name, deletes, reads, write_slot, writes_to}
use Rattle.abc_meaning.specs.Setting.{Setting}
use Rattle.abc_meaning.specs.World.{Errs, Run, World, object_named, see, some, ◌>>=◌}
use Rattle.abc_frames.specs.declared.records.Wait.TheVariants as waits
use Rattle.abc_meaning.specs.At.{Act, Doing, drops_came, gives_pushed, gives_came, makes_of_came, next_frame, one, after_pushes, two, waiting_frame, with_args as with_arguments}
use Rattle.abc_meaning.specs.Late.{on_slot, reads_slot, writes_slot}
use Rattle.abc_meaning.specs.Names.{name_of}
use Rattle.abc_meaning.specs.Newing.{entries_of, makes_array, makes_object, set_all}
use Rattle.abc_meaning.specs.Scopes.{find_in_scopes, finds, finds_and_reads, finds_or_global, finds_strictly, found_in, is_missing, pushes}
use Rattle.abc_meaning.specs.Simple.{flag}
use Rattle.abc_meaning.specs.Table.{call_acts, object_acts}
use Rattle.abc_meaning.specs.Sound.{AreTypings, IsOfKind, ScopeHolds, SlotHolds, FrameStands, Typings, WaitingSound, WorldSound}
use Rattle.abc_meaning.specs.Tests.{parts_count}
use Rattle.abc_meaning.proofs.ValueKinds.{below_object}
use Rattle.abc_meaning_sound.specs.Given.{FileGiven, OpsGiven, ScopeFoundSound, SearchGiven}
use Rattle.abc_meaning_sound.specs.Keeping.{ActSound, EntrySound, Fares, LeavesSound}
use Rattle.abc_meaning_sound.proofs.Calls.{calls_fares, new_fares, object_sound}
use Rattle.abc_meaning_sound.proofs.Cases.{Case, Sound, at_of, by_case, comes, drops, gives_one, given_args, here_of, taking_one, taking_two, entry}
use Rattle.abc_meaning_sound.proofs.Changed.{set_property_fares, write_slot_fares}
use Rattle.abc_meaning_sound.proofs.Entered.{global_kind, starts_fares}
use Rattle.abc_meaning_sound.proofs.Faring.{done_fares, leaves_trans, some_fares, some_then, stop_fares, then_fares, weaker}
use Rattle.abc_meaning_sound.proofs.Growing.{typed_on, value_on, values_on}
use Rattle.abc_meaning_sound.proofs.Lists.{each2_some, there}
use Rattle.abc_meaning_sound.proofs.Made.{new_array_fares, new_of_host_fares}
use Rattle.abc_meaning_sound.proofs.Members.{Reads, calls_name_fares, deletes_fares, read_comes, reads_fares, writes_fares}
use Rattle.abc_meaning_sound.proofs.Settled.{pushing_sound, with_wait}
use Rattle.abc_meaning_sound.proofs.Shapes.{came_at, catching_left, goes_plain, locals_left, moves_to, rest_pushed, rest_stands, scopes_left, stack_left}
use Rattle.abc_meaning_sound.proofs.Taking.{name_fares, plain_name_fares, plain_of}
use Rattle.abc_meaning_sound.proofs.Tests.{slotted}

module _ (p : Setting) (file : FileGiven p) (ops : OpsGiven p) (search : SearchGiven p) (typings : Typings) (typed : AreTypings p typings) where
  abbrev E : ℕ × Doing → Type 0
  E = EntrySound p typings

  object_of : (w : World) (o : ObjId) → IsObject w.heap o → IsOfKind p.linked w.heap (kind_of_row p.linked rows.Object) (Obj o)
  object_of w o h = record { exists = h; kind = (h, below_object p.linked file.linked (object_at w.heap.objects o.0).layout) }

  -- ---- newobject, newarray

  abbrev AreProperties : World → List (Span × Value) → Type 0
  AreProperties n es = Each (λ (e : Span × Value). IsText p.linked.file.strings n.heap e.0 × Exists p.linked n.heap e.1) es

  properties_on : (w n : World) → LeavesSound p w n → (es : List (Span × Value)) → AreProperties w es → AreProperties n es
  properties_on w n l [] h = tt
  properties_on w n l (e ∷ es) h = ((text_grown p.linked w.heap n.heap e.0 l.grows.grows h.0.0, value_on p w.heap n.heap l.grows e.1 h.0.1), properties_on w n l es h.1)

  entries_fares : (w : World) (vs : List Value) → WorldSound p w → Each (Exists p.linked w.heap) vs → Fares p w (entries_of p vs w) AreProperties
  entries_fares w [] z h = done_fares p w [] _ z tt
  entries_fares w (v ∷ []) z h = done_fares p w [] _ z tt
  entries_fares w (n ∷ v ∷ vs) z h =
      then_fares p w _ _ _ _ (ops.spell w n z h.0) (λ m t l ht.
      then_fares p m _ _ _ _ (entries_fares m vs l.sound (values_on p w.heap m.heap l.grows vs h.1.1)) (λ i es l' hs.
      done_fares p i ((t, v) ∷ es) _ l'.sound ((text_grown p.linked m.heap i.heap t l'.grows.grows ht, value_on p m.heap i.heap l'.grows v (value_on p w.heap m.heap l.grows v h.1.0)), hs)))

  set_all_fares : (w : World) (o : ObjId) (es : List (Span × Value)) → WorldSound p w → AreProperties w es → Fares p w (set_all p o es w) (λ n u. Unit {0})
  set_all_fares w o [] z h = done_fares p w tt _ z tt
  set_all_fares w o (e ∷ es) z h = then_fares p w _ _ _ _ (set_property_fares p w o e.0 e.1 z h.0.0 h.0.1) (λ n u l t. set_all_fares n o es l.sound (properties_on w n l es h.1))

  abbrev object_row : Shape
  object_row = with_argument_count 2 (makes [] rows.Object)

  newobject : Sound p file ops typings typed 0x55 (with_argument_count 2 (makes [] rows.Object)) (gives_pushed makes_object)
  newobject = gives_one p file ops typings typed 0x55 object_row (Fixed rows.Object) makes_object (record { unslotted_is = refl; scoping = refl; locals = λ h t. refl; leads_is = refl }) refl
      (λ c. then_fares p c.world _ _ _ _ (entries_fares c.world (at_of c).args c.ready.world (given_args p file ops typings typed 0x55 object_row c)) (λ n es l hs.
      then_fares p n _ _ _ _ (new_of_host_fares p file n hosts.Object whats.Plain l.sound (λ q. cc) tt tt tt) (λ i o l' ho.
      then_fares p i _ _ _ _ (set_all_fares i o es l'.sound (properties_on n i l' es hs)) (λ m u l'' t.
      done_fares p m (Obj o) _ l''.sound (object_of m o (value_on p i.heap m.heap l''.grows (Obj o) ho.0))))))

  abbrev array_row : Shape
  array_row = with_argument_count 1 (makes [] rows.Array)

  newarray : Sound p file ops typings typed 0x56 (with_argument_count 1 (makes [] rows.Array)) (gives_pushed makes_array)
  newarray = gives_one p file ops typings typed 0x56 array_row (Fixed rows.Array) makes_array (record { unslotted_is = refl; scoping = refl; locals = λ h t. refl; leads_is = refl }) refl
      (λ c. then_fares p c.world _ _ _ _ (new_array_fares p file c.world (at_of c).args c.ready.world (given_args p file ops typings typed 0x56 array_row c)) (λ n o l ho. done_fares p n (Obj o) _ l.sound ho))

  -- ---- searches in scopes

  pub entries_there : (w : World) (ss : List Scope) (es : List ScopeEntry) → Each2 (ScopeHolds p.linked w.heap) ss es → Each (λ (e : ScopeEntry). IsObject w.heap e.object) es
  entries_there w [] [] h = tt
  entries_there w (s ∷ ss) (e ∷ es) h = (h.0.object.exists, entries_there w ss es h.1)
  entries_there w [] (e ∷ es) h = absurd h
  entries_there w (s ∷ ss) [] h = absurd h

  -- a frame that executes its instruction again
  again_sound : (op : ℕ) (r : Shape) (c : Case p typings op r) (n : World) → LeavesSound p c.world n → WaitingSound p typings n.heap (waiting_frame waits.Again c.frame)
  again_sound op r c n l =
      let f = c.frame in
      let z = c.ready.sized in
      let deep = z.stack in
      let high = z.scopes in
      let stack = Rattle.abc_verify_typing.proofs.Lists.Each2-length (IsOfKind p.linked c.world.heap) c.state.stack f.stack c.ready.is.stack in
      let scopes = Rattle.abc_verify_typing.proofs.Lists.Each2-length (ScopeHolds p.linked c.world.heap) c.state.scopes f.scopes c.ready.is.scopes in
      let locals = Rattle.abc_verify_typing.proofs.Lists.Each2-length (IsOfKind p.linked c.world.heap) c.state.locals f.locals c.ready.is.locals in
      let stands : FrameStands p n.heap (waiting_frame waits.Again f) = record { routine = c.routine; body = c.ready.body; home = c.ready.home; saved = Rattle.abc_objects.proofs.Grown.scope_grown c.world.heap n.heap f.saved l.grows.grows c.ready.saved; locals = sym locals ∙ z.locals; stack = omega (arith, deep, stack); scopes = omega (arith, high, scopes) } in
      with_wait p file typings typed n.heap f waits.Again stands (record { state = c.state; typed = c.ready.typed; locals = locals_left p file typings typed c.world f c.routine c.state c.instr r c.ready n l }) (typed_on p c.world.heap n.heap l.grows typings f (record { state = c.state; typed = c.ready.typed; is = c.ready.is }))

  found_fares : (op : ℕ) (r : Shape) (c : Case p typings op r) (n : World) → LeavesSound p c.world n → (x : ScopeFound) → ScopeFoundSound p n x → (f : ObjId → Run Act) (otherwise : Run Act) → ((o : ObjId) → IsObject n.heap o → Fares p n (f o n) (ActSound p typings c.frame)) → Fares p n (otherwise n) (ActSound p typings c.frame) → Fares p n (found_in (at_of c) x f otherwise n) (ActSound p typings c.frame)
  found_fares op r c n l (InObject o) h f otherwise g k = g o h
  found_fares op r c n l Missing h f otherwise g k = k
  found_fares op r c n l (Start s) h f otherwise g k =
      then_fares p n _ _ _ _ (starts_fares p file ops typings typed n s l.sound h) (λ m e l' he.
      done_fares p m _ _ l'.sound (refl, he, again_sound op r c m (leaves_trans p c.world n m l l')))

  searched : (op : ℕ) (r : Shape) (c : Case p typings op r) (n : World) (name : Name) → LeavesSound p c.world n → ScopeFoundSound p n (find_in_scopes (at_of c) name n)
  searched op r c n name l = search.in_scopes n c.frame.scopes c.frame.saved name l.sound (entries_there n c.state.scopes c.frame.scopes (scopes_left p file typings typed c.world c.frame c.routine c.state c.instr r c.ready n l)) (Rattle.abc_objects.proofs.Grown.scope_grown c.world.heap n.heap c.frame.saved l.grows.grows c.ready.saved)

  abbrev find_row : Shape
  find_row = naming_shape NameAt (makes (needed.Runtime ∷ []) rows.Object)

  pushes_fares : (op : ℕ) (c : Case p typings op (naming_shape NameAt (makes (needed.Runtime ∷ []) rows.Object))) (n : World) (v : Value) → LeavesSound p c.world n → IsOfKind p.linked n.heap (kind_of_row p.linked rows.Object) v → Fares p n (pushes (at_of c) v n) (ActSound p typings c.frame)
  pushes_fares op c n v l h = done_fares p n _ _ l.sound (refl, goes_plain p file typings typed c.world c.frame c.routine c.state c.instr find_row c.ready (record { keeps = record { unslotted = refl; scoping = refl; locals = λ t. refl }; leads = refl }) n l (v ∷ []) (h, tt))

  finding : (op : ℕ) (otherwise : Doing) → ((c : Case p typings op (naming_shape NameAt (makes (needed.Runtime ∷ []) rows.Object))) (n : World) → LeavesSound p c.world n → Fares p n (otherwise (at_of c) n) (ActSound p typings c.frame)) → Sound p file ops typings typed op (naming_shape NameAt (makes (needed.Runtime ∷ []) rows.Object)) (finds (λ a name o. pushes a (Obj o)) otherwise)
  finding op otherwise g = by_case p file ops typings typed op find_row (finds (λ a name o. pushes a (Obj o)) otherwise) (λ c.
      then_fares p c.world _ _ _ _ (name_fares p file ops typings typed c.world c.frame c.routine c.state c.instr find_row c.ready refl refl) (λ n name l u.
      found_fares op find_row c n l (find_in_scopes (at_of c) name n) (searched op find_row c n name l) _ _ (λ o h. pushes_fares op c n (Obj o) l (object_of n o h)) (g c n l)))

  findpropstrict : Sound p file ops typings typed 0x5D (naming_shape NameAt (makes (needed.Runtime ∷ []) rows.Object)) finds_strictly
  findpropstrict = finding 0x5D is_missing (λ c n l. stop_fares p n (Errs hosts.ReferenceError) _ l.sound tt)

  findproperty : Sound p file ops typings typed 0x5E (naming_shape NameAt (makes (needed.Runtime ∷ []) rows.Object)) finds_or_global
  findproperty = finding 0x5E (λ a. see (global a.frame.home) >>= pushes a) (λ c n l. pushes_fares 0x5E c n _ l (object_of n _ (global_kind p file ops typings typed n c.frame.home l.sound c.ready.home).exists))

  abbrev lex_row : Shape
  lex_row = naming_shape PlainNameAt (makes [] rows.Any)

  getlex : Sound p file ops typings typed 0x60 (naming_shape PlainNameAt (makes [] rows.Any)) finds_and_reads
  getlex = by_case p file ops typings typed 0x60 lex_row finds_and_reads (λ c.
      then_fares p c.world _ _ _ _ (plain_name_fares p file ops typings typed c.world c.frame c.routine c.state c.instr lex_row c.ready refl) (λ n name l u.
      found_fares 0x60 lex_row c n l (find_in_scopes (at_of c) name n) (searched 0x60 lex_row c n name l) _ _
      (λ o h. came_at p file typings typed c.world c.frame c.routine c.state c.instr lex_row c.ready (record { keeps = record { unslotted = refl; scoping = refl; locals = λ t. refl }; leads = refl }) refl n l (λ b. reads b.setting (Obj o) name) (weaker p n _ _ _ (λ i x l' k. read_comes p file ops typings typed i x k) (reads_fares p file ops typings typed search n (Obj o) name l.sound h)))
      (stop_fares p n (Errs hosts.ReferenceError) _ l.sound tt)))

  -- ---- by a name

  naming_one : {X : Type 0} (op : ℕ) (r : Shape) → Rattle.abc_meaning_sound.proofs.Taking.plain_count r.takes ≡ 1 → r.operand ≡ NameAt → Rattle.abc_meaning_sound.proofs.Taking.has_parts r.takes ≡ true → (c : Case p typings op r) → (m : Value → Name → Run X) (R : World → X → Type 0) → ((n : World) (v : Value) (name : Name) → LeavesSound p c.world n → Exists p.linked n.heap v → IsText p.linked.file.strings n.heap name.text → Fares p n (m v name n) R) → Fares p c.world (one (at_of c) (λ v. name_of (at_of c) >>= m v) c.world) R
  naming_one op r e o has c m R g = taking_one p file ops typings typed op r e c _ R (λ k v q hv.
      then_fares p c.world _ _ _ _ (name_fares p file ops typings typed c.world c.frame c.routine c.state c.instr r c.ready o has) (λ n name l u. g n v name l (value_on p c.world.heap n.heap l.grows v hv.exists) u))

  naming_two : {X : Type 0} (op : ℕ) (r : Shape) → Rattle.abc_meaning_sound.proofs.Taking.plain_count r.takes ≡ 2 → r.operand ≡ NameAt → Rattle.abc_meaning_sound.proofs.Taking.has_parts r.takes ≡ true → (c : Case p typings op r) → (m : Value → Value → Name → Run X) (R : World → X → Type 0) → ((n : World) (x y : Value) (name : Name) → LeavesSound p c.world n → Exists p.linked n.heap x → Exists p.linked n.heap y → IsText p.linked.file.strings n.heap name.text → Fares p n (m x y name n) R) → Fares p c.world (two (at_of c) (λ x y. name_of (at_of c) >>= m x y) c.world) R
  naming_two op r e o has c m R g = taking_two p file ops typings typed op r e c _ R (λ k l x y q hx hy.
      then_fares p c.world _ _ _ _ (name_fares p file ops typings typed c.world c.frame c.routine c.state c.instr r c.ready o has) (λ n name l' u. g n x y name l' (value_on p c.world.heap n.heap l'.grows x hx.exists) (value_on p c.world.heap n.heap l'.grows y hy.exists) u))

  abbrev get_row : Shape
  get_row = naming_shape NameAt (makes (needed.Runtime ∷ needed.Value ∷ []) rows.Any)

  getproperty : Sound p file ops typings typed 0x66 (naming_shape NameAt (makes (needed.Runtime ∷ needed.Value ∷ []) rows.Any)) (gives_came (λ a. one a λ o. name_of a >>= reads a.setting o))
  getproperty = comes p file ops typings typed 0x66 get_row (λ a. one a λ o. name_of a >>= reads a.setting o) (record { unslotted_is = refl; scoping = refl; locals = λ h t. refl; leads_is = refl }) refl (λ c. naming_one 0x66 get_row refl refl refl c (reads p) _ (λ n v name l hv u. weaker p n _ _ _ (λ i x l' k. read_comes p file ops typings typed i x k) (reads_fares p file ops typings typed search n v name l.sound hv)))

  abbrev put_row : Shape
  put_row = naming_shape NameAt (shape_with (needed.Value ∷ needed.Runtime ∷ needed.Value ∷ []) [])

  writing : (op : ℕ) (initial : Bool) → Sound p file ops typings typed op (naming_shape NameAt (shape_with (needed.Value ∷ needed.Runtime ∷ needed.Value ∷ []) [])) (drops_came (λ a. two a λ o v. name_of a >>= λ name. writes_to a.setting o name v initial))
  writing op initial = drops p file ops typings typed op put_row (λ a. two a λ o v. name_of a >>= λ name. writes_to a.setting o name v initial) (record { unslotted_is = refl; scoping = refl; locals = λ h t. refl; leads_is = refl }) refl (λ c. naming_two op put_row refl refl refl c (λ o v name. writes_to p o name v initial) _ (λ n x y name l hx hy u. writes_fares p file ops typings typed search n x name y initial l.sound hx u hy))

  abbrev delete_row : Shape
  delete_row = naming_shape NameAt (makes (needed.Runtime ∷ needed.Value ∷ []) rows.Bool)

  deleteproperty : Sound p file ops typings typed 0x6A (naming_shape NameAt (makes (needed.Runtime ∷ needed.Value ∷ []) rows.Bool)) (gives_pushed (λ a. flag (one a λ o. name_of a >>= deletes a.setting o)))
  deleteproperty = gives_one p file ops typings typed 0x6A delete_row (Fixed rows.Bool) (λ a. flag (one a λ o. name_of a >>= deletes a.setting o)) (record { unslotted_is = refl; scoping = refl; locals = λ h t. refl; leads_is = refl }) refl
      (λ c. then_fares p c.world _ _ _ _ (naming_one 0x6A delete_row refl refl refl c (deletes p) (λ n b. Unit {0}) (λ n v name l hv u. deletes_fares p file ops typings typed n v name l.sound)) (λ n b l u. done_fares p n (Truth b) _ l.sound (record { exists = tt; kind = tt })))

  -- ---- slots by numbers

  first_slotted : (h : Here) (rule : VerifyRule) (n : ℕ) (ks : List Kind) (k : Kind) → plain_of (needed.Slotted ∷ []) n ks ≡ k ∷ [] → all_suit h rule (needed.Slotted ∷ []) ks ≡ true → (suits h rule needed.Slotted k ≡ true) × (receiver_kind (needed.Slotted ∷ []) ks ≡ k)
  first_slotted h rule n [] k e q = absurd cc
  first_slotted h rule n (j ∷ ks) k e q = let z : j ≡ k = cc in (subst (λ i. suits h rule needed.Slotted i ≡ true) z (and_left _ _ q), z)

  second_slotted : (h : Here) (rule : VerifyRule) (n : ℕ) (ks : List Kind) (k l : Kind) → plain_of (needed.Value ∷ needed.Slotted ∷ []) n ks ≡ l ∷ k ∷ [] → all_suit h rule (needed.Value ∷ needed.Slotted ∷ []) ks ≡ true → (suits h rule needed.Slotted k ≡ true) × (receiver_kind (needed.Value ∷ needed.Slotted ∷ []) ks ≡ k)
  second_slotted h rule n [] k l e q = absurd cc
  second_slotted h rule n (i ∷ []) k l e q = absurd cc
  second_slotted h rule n (i ∷ j ∷ ks) k l e q = let z : j ≡ k = cc in (subst (λ x. suits h rule needed.Slotted x ≡ true) z (and_left _ _ (and_right (suits h rule needed.Value i) _ q)), z)

  -- the slot that is named, of an object that has it
  pub record SlotThere (w : World) (o : ObjId) (n : ℕ) (kind : Kind) : Type 0 where
    pub place : ℕ
    pub numbered : slot_numbered p.linked (object_at w.heap.objects o.0).layout n ≡ Some place
    pub info : Rattle.abc_link_names.specs.declared.types.SlotInfo.SlotInfo
    pub at : slice_get (slots_of p.linked (object_at w.heap.objects o.0).layout) place ≡ Some info
    pub value : Value
    pub value_at : slice_get (object_at w.heap.objects o.0).slots place ≡ Some value
    pub holds : IsOfKind p.linked w.heap kind value

  slot_there : (w : World) (x : LayoutId) (o : ObjId) (n : ℕ) → WorldSound p w → IsOfKind p.linked w.heap (kinds.Obj x) (Obj o) → has_slot p.linked n (kinds.Obj x) ≡ true → SlotThere w o n (slot_kind p.linked n (kinds.Obj x))
  slot_there w x o n z h e =
      let y = (object_at w.heap.objects o.0).layout in
      let s = slotted p.linked file.linked y x.0 n h.kind.1 e in
      let v = each2_some (SlotHolds p.linked w.heap) (slots_of p.linked y) (object_at w.heap.objects o.0).slots s.2.place s.2.info (object_sound p file ops typings typed w o z h.exists).slots s.2.at in
      let kind : slot_kind p.linked n (kinds.Obj x) ≡ kind_of_type p.linked s.2.info.ty = ap or_any s.1 ∙ sym s.2.kind_is in
      record { place = s.2.place; numbered = s.2.numbered; info = s.2.info; at = s.2.at; value = v.0; value_at = v.1; holds = subst (λ k. IsOfKind p.linked w.heap k v.0) (sym kind) v.2 }

  abbrev slot_row : Shape
  slot_row = shape_with (needed.Slotted ∷ []) (SlotKind ∷ [])

  getslot : Sound p file ops typings typed 0x6C (shape_with (needed.Slotted ∷ []) (SlotKind ∷ [])) (gives_pushed reads_slot)
  getslot = by_case p file ops typings typed 0x6C slot_row (gives_pushed reads_slot) go
    where
      Q : (c : Case p typings 0x6C slot_row) → World → Value → Type 0
      Q c n v = (goes_on_after (needs (here_of c)) (stack_below (here_of c) c.state) ≡ true) × IsOfKind p.linked n.heap (kind_of_source (here_of c) c.state SlotKind) v

      on_it : (c : Case p typings 0x6C slot_row) (k : Kind) (v : Value) → receiver_kind (needed.Slotted ∷ []) (stack_below (here_of c) c.state) ≡ k → IsOfKind p.linked c.world.heap k v → is_object k ≡ true → has_slot p.linked (operand c.instr) k ≡ true → Fares p c.world (on_slot (at_of c) v (λ o ob j. some (slice_get ob.slots j)) c.world) (λ n x. (goes_on_after (needs (here_of c)) (stack_below (here_of c) c.state) ≡ true) × IsOfKind p.linked n.heap (kind_of_source (here_of c) c.state SlotKind) x)
      on_it c k Null q hv io hs = stop_fares p c.world (Errs hosts.TypeError) _ c.ready.world tt
      on_it c (kinds.Obj x) (Obj o) q hv io hs =
          let s = slot_there c.world x o (operand c.instr) c.ready.world hv hs in
          some_then p c.world (object_named o c.world) (object_at c.world.heap.objects o.0) _ _ (there c.world.heap.objects o.0 hv.exists)
          (some_then p c.world (slot_numbered p.linked (object_at c.world.heap.objects o.0).layout (operand c.instr)) s.place _ _ s.numbered
          (some_fares p c.world (slice_get (object_at c.world.heap.objects o.0).slots s.place) s.value _ s.value_at c.ready.world (ap (λ j. not (is_null_kind j)) q, subst (λ j. IsOfKind p.linked c.world.heap (slot_kind p.linked (operand c.instr) j) s.value) (sym q) s.holds)))
      on_it c kinds.Null v q hv io hs = absurd (let z = hv.kind in grind (arith, z))
      on_it c (kinds.Obj x) v q hv io hs = absurd (let z = hv.kind in grind (arith, z))
      on_it c k v q hv io hs = absurd cc

      go : (c : Case p typings 0x6C slot_row) → Fares p c.world (gives_pushed reads_slot (at_of c) c.world) (ActSound p typings c.frame)
      go c = then_fares p c.world _ _ (λ n x. (goes_on_after (needs (here_of c)) (stack_below (here_of c) c.state) ≡ true) × IsOfKind p.linked n.heap (kind_of_source (here_of c) c.state SlotKind) x) _
          (taking_one p file ops typings typed 0x6C slot_row refl c _ _ (λ k v q hv.
          let a = first_slotted (here_of c) NotObject (parts_count (here_of c)) (stack_below (here_of c) c.state) k q (c.ready.kept NotObject) in
          let b = first_slotted (here_of c) SlotIndex (parts_count (here_of c)) (stack_below (here_of c) c.state) k q (c.ready.kept SlotIndex) in
          on_it c k v a.1 hv a.0 b.0))
          (λ n v l hv. done_fares p n _ _ l.sound (
            refl,
            moves_to p file typings typed c.world c.frame c.routine c.state c.instr slot_row c.ready n l (after_pushes (v ∷ []) (at_of c).rest) (c.frame.place + 1) (inl refl) hv.0 (record { method = refl; home = refl; saved = refl; place = refl; wait = refl })
                (record { stack = (hv.1, stack_left p file typings typed c.world c.frame c.routine c.state c.instr slot_row c.ready n l); scopes = scopes_left p file typings typed c.world c.frame c.routine c.state c.instr slot_row c.ready n l; locals = locals_left p file typings typed c.world c.frame c.routine c.state c.instr slot_row c.ready n l }),
          ))

  abbrev set_row : Shape
  set_row = shape_with (needed.Value ∷ needed.Slotted ∷ []) []

  setslot : Sound p file ops typings typed 0x6D (shape_with (needed.Value ∷ needed.Slotted ∷ []) []) writes_slot
  setslot = by_case p file ops typings typed 0x6D set_row writes_slot go
    where
      on_it : (c : Case p typings 0x6D set_row) (k : Kind) (v x : Value) → receiver_kind (needed.Value ∷ needed.Slotted ∷ []) (stack_below (here_of c) c.state) ≡ k → IsOfKind p.linked c.world.heap k v → is_object k ≡ true → has_slot p.linked (operand c.instr) k ≡ true → Exists p.linked c.world.heap x → Fares p c.world (on_slot (at_of c) v (λ o ob j. write_slot p o j x) c.world) (λ n u. goes_on_after (needs (here_of c)) (stack_below (here_of c) c.state) ≡ true)
      on_it c k Null x q hv io hs e = stop_fares p c.world (Errs hosts.TypeError) _ c.ready.world tt
      on_it c (kinds.Obj y) (Obj o) x q hv io hs e =
          let s = slot_there c.world y o (operand c.instr) c.ready.world hv hs in
          some_then p c.world (object_named o c.world) (object_at c.world.heap.objects o.0) _ _ (there c.world.heap.objects o.0 hv.exists)
          (some_then p c.world (slot_numbered p.linked (object_at c.world.heap.objects o.0).layout (operand c.instr)) s.place _ _ s.numbered
          (weaker p c.world _ _ _ (λ n u l t. ap (λ j. not (is_null_kind j)) q) (write_slot_fares p ops c.world o s.place x s.info c.ready.world hv.exists s.at e)))
      on_it c kinds.Null v x q hv io hs e = absurd (let z = hv.kind in grind (arith, z))
      on_it c (kinds.Obj y) v x q hv io hs e = absurd (let z = hv.kind in grind (arith, z))
      on_it c k v x q hv io hs e = absurd cc

      go : (c : Case p typings 0x6D set_row) → Fares p c.world (writes_slot (at_of c) c.world) (ActSound p typings c.frame)
      go c = taking_two p file ops typings typed 0x6D set_row refl c _ _ (λ k l x y q hx hy.
          let a = second_slotted (here_of c) NotObject (parts_count (here_of c)) (stack_below (here_of c) c.state) k l q (c.ready.kept NotObject) in
          let b = second_slotted (here_of c) SlotIndex (parts_count (here_of c)) (stack_below (here_of c) c.state) k l q (c.ready.kept SlotIndex) in
          then_fares p c.world _ _ (λ n u. goes_on_after (needs (here_of c)) (stack_below (here_of c) c.state) ≡ true) _ (on_it c k x y a.1 hx a.0 b.0 hy.exists)
          (λ n u l' e. done_fares p n _ _ l'.sound (
            refl,
            moves_to p file typings typed c.world c.frame c.routine c.state c.instr set_row c.ready n l' (next_frame (at_of c).rest) (c.frame.place + 1) (inl refl) e (record { method = refl; home = refl; saved = refl; place = refl; wait = refl })
                (record { stack = stack_left p file typings typed c.world c.frame c.routine c.state c.instr set_row c.ready n l'; scopes = scopes_left p file typings typed c.world c.frame c.routine c.state c.instr set_row c.ready n l'; locals = locals_left p file typings typed c.world c.frame c.routine c.state c.instr set_row c.ready n l' }),
          )))

  -- ---- calls

  abbrev call_row : Shape
  call_row = with_argument_count 1 (makes two_values rows.Any)

  call : Sound p file ops typings typed 0x41 (with_argument_count 1 (makes two_values rows.Any)) (gives_came (λ a. two a λ f r. calls a.setting f r a.args))
  call = comes p file ops typings typed 0x41 call_row (λ a. two a λ f r. calls a.setting f r a.args) (record { unslotted_is = refl; scoping = refl; locals = λ h t. refl; leads_is = refl }) refl
      (λ c. taking_two p file ops typings typed 0x41 call_row refl c _ _ (λ k l x y q hx hy. calls_fares p file ops typings typed c.world x y (at_of c).args c.ready.world hx.exists hy.exists (given_args p file ops typings typed 0x41 call_row c)))

  abbrev construct_row : Shape
  construct_row = with_argument_count 1 (makes value rows.Any)

  construct : Sound p file ops typings typed 0x42 (with_argument_count 1 (makes value rows.Any)) (gives_came (λ a. one a λ c. new a.setting c a.args))
  construct = comes p file ops typings typed 0x42 construct_row (λ a. one a λ c. new a.setting c a.args) (record { unslotted_is = refl; scoping = refl; locals = λ h t. refl; leads_is = refl }) refl
      (λ c. taking_one p file ops typings typed 0x42 construct_row refl c _ _ (λ k v q hv. new_fares p file ops typings typed c.world v (at_of c).args c.ready.world hv.exists (given_args p file ops typings typed 0x42 construct_row c)))

  abbrev name_row : Shape
  name_row = with_argument_count 1 (naming_shape NameAt (makes (needed.Runtime ∷ needed.Value ∷ []) rows.Any))

  abbrev void_row : Shape
  void_row = with_argument_count 1 (naming_shape NameAt (shape_with (needed.Runtime ∷ needed.Value ∷ []) []))

  pub args_on : (op : ℕ) (r : Shape) (c : Case p typings op r) (n : World) → LeavesSound p c.world n → Each (Exists p.linked n.heap) (at_of c).args
  args_on op r c n l = values_on p c.world.heap n.heap l.grows (at_of c).args (given_args p file ops typings typed op r c)

  callproperty : Sound p file ops typings typed 0x46 (with_argument_count 1 (naming_shape NameAt (makes (needed.Runtime ∷ needed.Value ∷ []) rows.Any))) (gives_came (λ a. one a λ o. name_of a >>= λ name. calls_name a.setting o o name a.args))
  callproperty = comes p file ops typings typed 0x46 name_row (λ a. one a λ o. name_of a >>= λ name. calls_name a.setting o o name a.args) (record { unslotted_is = refl; scoping = refl; locals = λ h t. refl; leads_is = refl }) refl
      (λ c. naming_one 0x46 name_row refl refl refl c (λ o name. calls_name p o o name (at_of c).args) _ (λ n v name l hv u. calls_name_fares p file ops typings typed search n v v name (at_of c).args l.sound hv hv (args_on 0x46 name_row c n l)))

  callproplex : Sound p file ops typings typed 0x4C (with_argument_count 1 (naming_shape NameAt (makes (needed.Runtime ∷ needed.Value ∷ []) rows.Any))) (gives_came (λ a. one a λ o. name_of a >>= λ name. calls_name a.setting o Null name a.args))
  callproplex = comes p file ops typings typed 0x4C name_row (λ a. one a λ o. name_of a >>= λ name. calls_name a.setting o Null name a.args) (record { unslotted_is = refl; scoping = refl; locals = λ h t. refl; leads_is = refl }) refl
      (λ c. naming_one 0x4C name_row refl refl refl c (λ o name. calls_name p o Null name (at_of c).args) _ (λ n v name l hv u. calls_name_fares p file ops typings typed search n v Null name (at_of c).args l.sound hv tt (args_on 0x4C name_row c n l)))

  callpropvoid : Sound p file ops typings typed 0x4F (with_argument_count 1 (naming_shape NameAt (shape_with (needed.Runtime ∷ needed.Value ∷ []) []))) (drops_came (λ a. one a λ o. name_of a >>= λ name. calls_name a.setting o o name a.args))
  callpropvoid = drops p file ops typings typed 0x4F void_row (λ a. one a λ o. name_of a >>= λ name. calls_name a.setting o o name a.args) (record { unslotted_is = refl; scoping = refl; locals = λ h t. refl; leads_is = refl }) refl
      (λ c. naming_one 0x4F void_row refl refl refl c (λ o name. calls_name p o o name (at_of c).args) _ (λ n v name l hv u. calls_name_fares p file ops typings typed search n v v name (at_of c).args l.sound hv hv (args_on 0x4F void_row c n l)))

  -- ---- constructprop: new on what is read, now or at the return

  take_front : {X : Type 0} (xs ys : List X) → Rattle.std.specs.Prelude.take (length xs) (xs ++ ys) ≡ xs
  take_front [] ys = refl
  take_front (x ∷ xs) ys = ap (λ zs. x ∷ zs) (take_front xs ys)

  drop_front : {X : Type 0} (xs ys : List X) → Rattle.std.specs.Prelude.drop (length xs) (xs ++ ys) ≡ ys
  drop_front [] ys = refl
  drop_front (x ∷ xs) ys = drop_front xs ys

  keeps_args : (c : Case p typings 0x4A (with_argument_count 1 (naming_shape NameAt (makes (needed.Runtime ∷ needed.Value ∷ []) rows.Any)))) (n : World) → LeavesSound p c.world n → WaitingSound p typings n.heap (waiting_frame (waits.New (length (at_of c).args)) (with_arguments (at_of c)))
  keeps_args c n l =
      let a = at_of c in
      let back = Rattle.std.specs.Prelude.reverse a.args in
      let rest = rest_stands p file typings typed c.world c.frame c.routine c.state c.instr name_row c.ready (Fixed rows.Any) refl (record { unslotted = refl; scoping = refl; locals = λ t. refl }) n l in
      let pushed_rest = rest_pushed p file typings typed c.world c.frame c.routine c.state c.instr name_row c.ready (record { keeps = record { unslotted = refl; scoping = refl; locals = λ t. refl }; leads = refl }) refl n l in
      let count : length back ≡ length a.args = length-reverse a.args in
      let all = length-append back a.rest.stack in
      let room = rest.stack in
      let args = Rattle.abc_verify_typing.proofs.Lists.Each-reverse (Exists p.linked n.heap) a.args (args_on 0x4A name_row c n l) in
      let taken_is : Rattle.std.specs.Prelude.take (length a.args) (back ++ a.rest.stack) ≡ back = ap (λ m. Rattle.std.specs.Prelude.take m (back ++ a.rest.stack)) (sym count) ∙ take_front back a.rest.stack in
      let left_is : Rattle.std.specs.Prelude.drop (length a.args) (back ++ a.rest.stack) ≡ a.rest.stack = ap (λ m. Rattle.std.specs.Prelude.drop m (back ++ a.rest.stack)) (sym count) ∙ drop_front back a.rest.stack in
      let catches = catching_left p file typings typed c.world c.frame c.routine c.state c.instr name_row c.ready n l in
      with_wait p file typings typed n.heap (with_arguments a) (waits.New (length a.args))
      (record { routine = rest.routine; body = rest.body; home = rest.home; saved = rest.saved; locals = rest.locals; stack = omega (arith, room, all, count); scopes = rest.scopes })
      (record { state = catches.state; typed = catches.typed; locals = catches.locals })
      (record { there = omega (arith, all, count); exist = subst (Each (Exists p.linked n.heap)) (sym taken_is) args; typed = subst (λ vs. Rattle.abc_meaning.specs.Sound.IsTypedPushed p typings n.heap (record (with_arguments a) { stack = vs })) (sym left_is) (record { state = pushed_rest.state; typed = pushed_rest.typed; top = pushed_rest.top; rest = pushed_rest.rest; stack = pushed_rest.stack; any = pushed_rest.any; is = record { stack = pushed_rest.is.stack; scopes = pushed_rest.is.scopes; locals = pushed_rest.is.locals } }) })

  made_fares : (c : Case p typings 0x4A (with_argument_count 1 (naming_shape NameAt (makes (needed.Runtime ∷ needed.Value ∷ []) rows.Any)))) (n : World) → LeavesSound p c.world n → (x : Came) → Reads p file ops typings typed n x → Fares p n (makes_of_came (at_of c) (λ v. new p v (at_of c).args) x n) (ActSound p typings c.frame)
  made_fares c n l (Got v) h =
      then_fares p n _ _ _ _ (new_fares p file ops typings typed n v (at_of c).args l.sound h (args_on 0x4A name_row c n l)) (λ i x l' k.
      let z = leaves_trans p c.world n i l l' in
      done_fares p i _ _ l'.sound (pushing_sound p file typings typed i (at_of c).rest x c.ready.idle
      (rest_stands p file typings typed c.world c.frame c.routine c.state c.instr name_row c.ready (Fixed rows.Any) refl (record { unslotted = refl; scoping = refl; locals = λ t. refl }) i z)
      (catching_left p file typings typed c.world c.frame c.routine c.state c.instr name_row c.ready i z)
      (rest_pushed p file typings typed c.world c.frame c.routine c.state c.instr name_row c.ready (record { keeps = record { unslotted = refl; scoping = refl; locals = λ t. refl }; leads = refl }) refl i z) k))
  made_fares c n l (Calls g) h = done_fares p n _ _ l.sound (refl, h, keeps_args c n l)
  made_fares c n l (Makes g v) h = absurd h

  constructprop : Sound p file ops typings typed 0x4A (with_argument_count 1 (naming_shape NameAt (makes (needed.Runtime ∷ needed.Value ∷ []) rows.Any))) (λ a. one a λ o. name_of a >>= reads a.setting o >>= makes_of_came a (λ v. new a.setting v a.args))
  constructprop = by_case p file ops typings typed 0x4A name_row (λ a. one a λ o. name_of a >>= reads a.setting o >>= makes_of_came a (λ v. new a.setting v a.args)) (λ c. taking_one p file ops typings typed 0x4A name_row refl c _ _ (λ k v q hv.
      then_fares p c.world _ _ (Reads p file ops typings typed) _
      (then_fares p c.world _ _ _ _ (name_fares p file ops typings typed c.world c.frame c.routine c.state c.instr name_row c.ready refl refl) (λ n name l u. reads_fares p file ops typings typed search n v name l.sound (value_on p c.world.heap n.heap l.grows v hv.exists)))
      (λ n x l h. made_fares c n l x h)))

  -- ---- together

  pub objects_hold : (rest : List (ℕ × Doing)) → Each (EntrySound p typings) rest → Each (EntrySound p typings) (object_acts rest)
  unfolding row_at table_of_rows
  objects_hold rest more = (
    entry p typings 0x55 (with_argument_count 2 (makes [] rows.Object)) _ refl newobject,
    (
      entry p typings 0x56 (with_argument_count 1 (makes [] rows.Array)) _ refl newarray,
      (
        entry p typings 0x5D (naming_shape NameAt (makes (needed.Runtime ∷ []) rows.Object)) _ refl findpropstrict,
        (
          entry p typings 0x5E (naming_shape NameAt (makes (needed.Runtime ∷ []) rows.Object)) _ refl findproperty,
          (
            entry p typings 0x60 (naming_shape PlainNameAt (makes [] rows.Any)) _ refl getlex,
            (
              entry p typings 0x66 (naming_shape NameAt (makes (needed.Runtime ∷ needed.Value ∷ []) rows.Any)) _ refl getproperty,
              (
                entry p typings 0x61 (naming_shape NameAt (shape_with (needed.Value ∷ needed.Runtime ∷ needed.Value ∷ []) [])) _ refl (writing 0x61 false),
                (
                  entry p typings 0x68 (naming_shape NameAt (shape_with (needed.Value ∷ needed.Runtime ∷ needed.Value ∷ []) [])) _ refl (writing 0x68 true),
                  (
                    entry p typings 0x6A (naming_shape NameAt (makes (needed.Runtime ∷ needed.Value ∷ []) rows.Bool)) _ refl deleteproperty,
                    (
                      entry p typings 0x6C (shape_with (needed.Slotted ∷ []) (SlotKind ∷ [])) _ refl getslot,
                      (
                        entry p typings 0x6D (shape_with (needed.Value ∷ needed.Slotted ∷ []) []) _ refl setslot,
                        more,
                      ),
                    ),
                  ),
                ),
              ),
            ),
          ),
        ),
      ),
    ),
  )

  pub calls_hold : (rest : List (ℕ × Doing)) → Each (EntrySound p typings) rest → Each (EntrySound p typings) (call_acts rest)
  unfolding row_at table_of_rows
  calls_hold rest more = (
    entry p typings 0x41 (with_argument_count 1 (makes two_values rows.Any)) _ refl call,
    (
      entry p typings 0x42 (with_argument_count 1 (makes value rows.Any)) _ refl construct,
      (
        entry p typings 0x46 (with_argument_count 1 (naming_shape NameAt (makes (needed.Runtime ∷ needed.Value ∷ []) rows.Any))) _ refl callproperty,
        (
          entry p typings 0x4C (with_argument_count 1 (naming_shape NameAt (makes (needed.Runtime ∷ needed.Value ∷ []) rows.Any))) _ refl callproplex,
          (
            entry p typings 0x4F (with_argument_count 1 (naming_shape NameAt (shape_with (needed.Runtime ∷ needed.Value ∷ []) []))) _ refl callpropvoid,
            (
              entry p typings 0x4A (with_argument_count 1 (naming_shape NameAt (makes (needed.Runtime ∷ needed.Value ∷ []) rows.Any))) _ refl constructprop,
              more,
            ),
          ),
        ),
      ),
    ),
  )
