-- Super operations; functions, activations, catch objects and classes that are made.
use Rattle.std.proofs.Common.{◌≡◌, inl, inr, ℕ, zero, suc, ◌+◌, ◌<◌, List, [], ◌∷◌, ◌++◌, length, refl, sym, ap, ◌∙◌, subst, arith, ltb-true}
use Rattle.std.specs.Prelude.{true, false, flat_map, is_some, ltb, slice_get, Some, None}
use Rattle.std.specs.declared.option.Option.{Option}
use Rattle.abc_base.specs.declared.names.HostClass.TheVariants as hosts
use Rattle.abc_heap_values.specs.declared.values.ObjId.{ObjId}
use Rattle.abc_heap_values.specs.declared.values.Value.{Value}
use Rattle.abc_heap_values.specs.declared.values.Value.TheVariants.{Null, Obj}
use Rattle.abc_base_graphs.specs.Graph.{Leads}
use Rattle.abc_heap_store.specs.Heap.{Heap, object_at}
use Rattle.abc_heap_store.specs.Texts.{IsText}
use Rattle.abc_heap_store.specs.declared.records.ScopeEntry.{ScopeEntry}
use Rattle.abc_heap_store.specs.declared.records.What.{What}
use Rattle.abc_heap_store.specs.declared.records.What.TheVariants as whats
use Rattle.abc_link_names.specs.Instances.{instance_at}
use Rattle.abc_link_names.specs.declared.named.Named.{Named}
use Rattle.abc_link_names.specs.declared.named.Named.TheVariants as named
use Rattle.abc_objects.specs.Stands.{AreEntries, IsMadeAlone, host_layout}
use Rattle.abc_objects.specs.Values.{Exists, IsObject}
use Rattle.abc_objects.proofs.Grown.{scope_grown}
use Rattle.abc_objects.proofs.Made.{prototype_is}
use Rattle.abc_link_names.specs.Linked.{above, layout_of}
use Rattle.abc_link_names.specs.Owners.{body_of, owner_of}
use Rattle.abc_link_names.specs.Tree.{IsBelow}
use Rattle.abc_link_names.specs.declared.part.LayoutId.{LayoutId}
use Rattle.abc_link_names.specs.declared.part.Part.TheVariants as parts
use Rattle.abc_link_names.specs.declared.types.Kind.{Kind}
use Rattle.abc_link_names.specs.declared.types.Kind.TheVariants as kinds
use Rattle.abc_link_names.specs.declared.types.Owner.{Owner}
use Rattle.abc_link_names.specs.declared.types.Owner.TheVariants as owners
use Rattle.abc_link_names.proofs.Tree.{below_above, below_self, below_trans}
use Rattle.abc_link_names.specs.Bases.{base_graph, base_named}
use Rattle.abc_link_names.specs.PartsByNumber.{class_at}
use Rattle.abc_objects.specs.declared.found.Found.{Found}
use Rattle.abc_objects.specs.declared.found.Found.TheVariants as founds
use Rattle.abc_objects.specs.declared.found.Want.{Want}
use Rattle.abc_objects.specs.declared.found.Want.TheVariants as wants
use Rattle.abc_objects.specs.declared.name.Name.{Name}
use Rattle.abc_verify_typing.specs.Instructions.{operand}
use Rattle.abc_verify_typing.specs.Rows.{Shape, makes, naming_shape, only_at, shape_with, row_at, table_of_rows, value, with_argument_count}
use Rattle.abc_verify_typing.specs.declared.row.Need.{Need}
use Rattle.abc_verify_typing.specs.declared.row.Need.TheVariants as needed
use Rattle.abc_verify_typing.specs.declared.row.Operand.TheVariants.{NameAt, FunctionAt, ClassAt, HandlerAt}
use Rattle.abc_verify_typing.specs.declared.row.RowKind.TheVariants as rows
use Rattle.abc_verify_typing.specs.declared.row.Site.{Site}
use Rattle.abc_verify_typing.specs.declared.row.Site.TheVariants.{WithActivation, OnInstance, InMaker}
use Rattle.abc_verify_typing.specs.declared.row.Source.TheVariants.{Fixed, ActivationKind, ClassObjectKind, CatchObjectKind}
use Rattle.abc_verify_typing.specs.Effects.{Here, catch_object, multiname_at, runtime, stack_below, parts_of_need}
use Rattle.abc_verify_typing.specs.Lists.{Each}
use Rattle.abc_verify_typing.specs.Routines.{kind_of_part, this_kind}
use Rattle.abc_verify_typing.specs.Rules.{all_suit, is_free_owner, is_here, is_instance_of_layout, suits, super_layout}
use Rattle.abc_verify_typing.specs.declared.home.Home.{Home}
use Rattle.abc_verify_typing.specs.declared.home.Home.TheVariants.{Elsewhere, MakesInstances, OnInstances}
use Rattle.abc_verify_typing.specs.declared.rule.VerifyRule.{VerifyRule}
use Rattle.abc_verify_typing.specs.declared.rule.VerifyRule.TheVariants.{NotHere, NotObject, PoolIndex}
use Rattle.abc_verify_typing.proofs.Member.{and_left, and_right}
use Rattle.abc_verify_typing.proofs.Lists.{slice_get-some}
use Rattle.abc_verify_typing.proofs.Reaching.{below_reached}
use Rattle.abc_meaning.specs.Calling.{Came}
use Rattle.abc_meaning.specs.Objects.{class_object, place, place_of_owner, prototype_for, statics_of}
use Rattle.abc_meaning.specs.Setting.{Setting, routine_in}
use Rattle.abc_meaning.specs.World.{Errs, Run, World, object_named}
use Rattle.abc_frames.specs.declared.records.Wait.TheVariants as waits
use Rattle.abc_meaning.specs.At.{ActCase, Doing, drops_came, gives_pushed, gives_came, one, waiting_frame}
use Rattle.abc_meaning.specs.Newing.{makes_activation, makes_catch, makes_class, makes_function, new_scope_object, unmade}
use Rattle.abc_meaning.specs.Supers.{base_of_maker, calls_super, constructs_super, on_receiver, on_super, reads_super, runs_base, strict, super_found, writes_super}
use Rattle.abc_meaning.specs.Table.{class_acts}
use Rattle.abc_meaning.specs.Sound.{AreClassesMade, AreTypings, HasClassMade, IsOfKind, Typings, WaitingSound, WhatSound, WorldSound}
use Rattle.abc_meaning.specs.Tests.{parts_count}
use Rattle.abc_meaning_sound.specs.Given.{BaseRuns, FileGiven, FoundSound, HasBody, IsScopeLayout, MakersGiven, OpsGiven, OwnedSound, ScopesGiven, SearchGiven, base_maker}
use Rattle.abc_meaning_sound.specs.Keeping.{ActSound, CameSound, EntrySound, Fares, LeavesSound}
use Rattle.abc_meaning_sound.proofs.Calls.{host_arguments_fares, set_message_fares}
use Rattle.abc_meaning_sound.proofs.Cases.{Case, OfSource, Sound, at_of, by_case, comes, drops, entry, gives_one, given_args, here_of, taking_one, taking_two}
use Rattle.abc_meaning_sound.proofs.Classes.{BaseMade, ClassMade, base_fares, kept_is, new_class_fares}
use Rattle.abc_meaning_sound.proofs.Entered.{owned_fares}
use Rattle.abc_meaning_sound.proofs.Faring.{done_fares, leaves_trans, some_then, stop_fares, then_fares, weaker}
use Rattle.abc_meaning_sound.proofs.Growing.{kind_on, value_on, values_on}
use Rattle.abc_meaning_sound.proofs.Lists.{each_at, there}
use Rattle.abc_meaning_sound.proofs.Made.{new_function_fares, new_object_fares}
use Rattle.abc_meaning_sound.proofs.Members.{call_found_fares, read_comes, read_found_fares, write_found_fares}
use Rattle.abc_meaning_sound.proofs.NamedActs.{entries_there}
use Rattle.abc_meaning_sound.proofs.Settled.{with_wait}
use Rattle.abc_meaning_sound.proofs.Shapes.{catching_left, rest_stands, scopes_left}
use Rattle.abc_meaning_sound.proofs.Taking.{has_parts, name_fares, plain_count, plain_of}

-- the need of an instance among those that an instruction has
last_suits : (h : Here) (parts : List Need) (rule : VerifyRule) (n : ℕ) (ks : List Kind) (k : Kind) → n ≡ length parts → plain_of (needed.Runtime ∷ needed.Instance ∷ []) n ks ≡ k ∷ [] → all_suit h rule (parts ++ needed.Instance ∷ []) ks ≡ true → suits h rule needed.Instance k ≡ true
last_suits h [] rule zero [] k e q s = absurd cc
last_suits h [] rule zero (j ∷ ks) k e q s = let z : j ≡ k = cc in subst (λ i. suits h rule needed.Instance i ≡ true) z (and_left _ _ s)
last_suits h [] rule (suc n) ks k e q s = absurd (omega (arith, e))
last_suits h (x ∷ parts) rule zero ks k e q s = absurd (omega (arith, e))
last_suits h (x ∷ parts) rule (suc n) [] k e q s = absurd cc
last_suits h (x ∷ parts) rule (suc n) (j ∷ ks) k e q s = last_suits h parts rule n ks k (omega (arith, e)) q (and_right (suits h rule x j) _ s)

own_suits : (h : Here) (rule : VerifyRule) (n : ℕ) (ks : List Kind) (k : Kind) → plain_of (needed.Instance ∷ []) n ks ≡ k ∷ [] → all_suit h rule (needed.Instance ∷ []) ks ≡ true → suits h rule needed.Instance k ≡ true
own_suits h rule n [] k e q = absurd cc
own_suits h rule n (j ∷ ks) k e q = let z : j ≡ k = cc in subst (λ i. suits h rule needed.Instance i ≡ true) z (and_left _ _ q)

-- below a value
below_suits : (h : Here) (parts : List Need) (rule : VerifyRule) (n : ℕ) (ks : List Kind) (k l : Kind) → n ≡ length parts → plain_of (needed.Value ∷ needed.Runtime ∷ needed.Instance ∷ []) n ks ≡ l ∷ k ∷ [] → all_suit h rule (needed.Value ∷ (parts ++ needed.Instance ∷ [])) ks ≡ true → suits h rule needed.Instance k ≡ true
below_suits h parts rule n [] k l e q s = absurd cc
below_suits h parts rule n (j ∷ ks) k l e q s = let r : plain_of (needed.Runtime ∷ needed.Instance ∷ []) n ks ≡ k ∷ [] = cc in last_suits h parts rule n ks k e r (and_right (suits h rule needed.Value j) _ s)

module _ (p : Setting) (file : FileGiven p) (ops : OpsGiven p) (search : SearchGiven p) (scopes : ScopesGiven p) (makers : MakersGiven p) (typings : Typings) (typed : AreTypings p typings) where
  -- ---- the receiver

  strict_sound : (w : World) (want : Want) (x : Found) (v : Value) → FoundSound p w want x v → FoundSound p w want (strict x) v
  strict_sound w want founds.Missing v h = tt
  strict_sound w want (founds.Slot k c) v h = h
  strict_sound w want (founds.Method owner n) v h = h
  strict_sound w want (founds.Getter n) v h = h
  strict_sound w want (founds.Setter n) v h = h
  strict_sound w want (founds.Property o x) v h = h
  strict_sound w want (founds.Element o k) v h = h
  strict_sound w want (founds.Length o) v h = h
  strict_sound w want founds.WrongSide v h = h

  -- null, or an instance of the owner's class
  receiver_fares : {X : Type 0} (w n : World) (m : LayoutId) (k : Kind) (v : Value) (f : ObjId → Run X) (R : World → X → Type 0) → WorldSound p n → IsOfKind p.linked n.heap k v → is_instance_of_layout p.linked (Some m) k ≡ true → ((o : ObjId) → IsObject n.heap o → IsBelow p.linked (object_at n.heap.objects o.0).layout m.0 → Fares p n (f o n) R) → Fares p n (on_receiver v f n) R
  receiver_fares w n m k Null f R z h q g = stop_fares p n (Errs hosts.TypeError) _ z tt
  receiver_fares w n m (kinds.Obj x) (Obj o) f R z h q g = g o h.exists (below_trans p.linked (object_at n.heap.objects o.0).layout x.0 m.0 h.kind.1 (below_reached p.linked x.0 x.0 m.0 q))
  receiver_fares w n m kinds.Null v f R z h q g = absurd (let y = h.kind in grind (arith, y))
  receiver_fares w n m (kinds.Obj x) v f R z h q g = absurd (let y = h.kind in grind (arith, y))
  receiver_fares w n m k v f R z h q g = absurd cc

  -- the layout that the operation is about
  pub record IsSite (home : Home) (site : Site) : Type 0 where
    pub layout : LayoutId
    pub is : super_layout site home ≡ Some layout

  site_of : (site : Site) (home : Home) → is_some (super_layout site home) ≡ true → IsSite home site
  site_of site home e = go (super_layout site home) refl e
    where
      go : (o : Option LayoutId) → super_layout site home ≡ o → is_some o ≡ true → IsSite home site
      go None is e = absurd cc
      go (Some x) is e = record { layout = x; is = is }

  -- ---- what is found above

  super_fares : (op : ℕ) (r : Shape) (c : Case p typings op r) (n : World) (m : LayoutId) (o : ObjId) (name : Name) (want : Want) → LeavesSound p c.world n → super_layout r.site c.routine.home ≡ Some m → IsObject n.heap o → IsBelow p.linked (object_at n.heap.objects o.0).layout m.0 → Fares p n (super_found (at_of c) o name want n) (λ i x. FoundSound p i want x (Obj o) × LeavesSound p n i)
  super_fares op r c n m o name want l is h b =
      some_then p n (object_named o n) (object_at n.heap.objects o.0) _ _ (there n.heap.objects o.0 h)
      (some_then p n (super_layout r.site c.routine.home) m _ _ is
      (done_fares p n _ _ l.sound (strict_sound n want _ (Obj o) (search.declared n o (above p.linked m.0) name want l.sound h (below_above p.linked _ m.0 b)), Rattle.abc_meaning_sound.proofs.Faring.leaves_self p n l.sound)))

  abbrev get_row : Shape
  get_row = only_at OnInstance (naming_shape NameAt (makes (needed.Runtime ∷ needed.Instance ∷ []) rows.Any))

  abbrev put_row : Shape
  put_row = only_at OnInstance (naming_shape NameAt (shape_with (needed.Value ∷ needed.Runtime ∷ needed.Instance ∷ []) []))

  abbrev call_row : Shape
  call_row = only_at OnInstance (with_argument_count 1 (naming_shape NameAt (makes (needed.Runtime ∷ needed.Instance ∷ []) rows.Any)))

  abbrev void_row : Shape
  void_row = only_at OnInstance (with_argument_count 1 (naming_shape NameAt (shape_with (needed.Runtime ∷ needed.Instance ∷ []) [])))

  -- on one receiver, with a name
  supered : (op : ℕ) (r : Shape) (want : Want) → r.takes ≡ needed.Runtime ∷ needed.Instance ∷ [] → r.operand ≡ NameAt → r.site ≡ OnInstance → (c : Case p typings op r) (f : ObjId → Name → Found → Run Came) → ((n : World) (o : ObjId) (name : Name) (x : Found) → LeavesSound p c.world n → IsObject n.heap o → FoundSound p n want x (Obj o) → IsText p.linked.file.strings n.heap name.text → Fares p n (f o name x n) (CameSound p typings)) → Fares p c.world (one (at_of c) (λ v. on_super (at_of c) v want f) c.world) (CameSound p typings)
  supered op r want takes named_is site c f g =
      let here = here_of c in
      let parts = runtime (multiname_at p.linked (operand c.instr)) in
      let in_place : is_some (super_layout OnInstance c.routine.home) ≡ true = subst (λ x. is_here c.routine x ≡ true) site (c.ready.kept NotHere) in
      let s = site_of OnInstance c.routine.home in_place in
      let is : super_layout r.site c.routine.home ≡ Some s.layout = ap (λ x. super_layout x c.routine.home) site ∙ s.is in
      taking_one p file ops typings typed op r (ap plain_count takes) c (λ v. on_super (at_of c) v want f) (CameSound p typings) (λ k v q hv.
      let suit : all_suit here NotObject (flat_map (parts_of_need parts) (needed.Runtime ∷ needed.Instance ∷ [])) (stack_below here c.state) ≡ true = subst (λ ns. all_suit here NotObject (flat_map (parts_of_need parts) ns) (stack_below here c.state) ≡ true) takes (c.ready.kept NotObject) in
      let fits : is_instance_of_layout p.linked (super_layout r.site c.routine.home) k ≡ true = last_suits here parts NotObject (length parts) (stack_below here c.state) k refl (subst (λ ns. plain_of ns (length parts) (stack_below here c.state) ≡ k ∷ []) takes q) suit in
      let inst : is_instance_of_layout p.linked (Some s.layout) k ≡ true = subst (λ o. is_instance_of_layout p.linked o k ≡ true) is fits in
      then_fares p c.world _ _ _ _ (name_fares p file ops typings typed c.world c.frame c.routine c.state c.instr r c.ready named_is (subst (λ ns. has_parts ns ≡ true) (sym takes) refl)) (λ n name l ht.
      receiver_fares c.world n s.layout k v _ _ l.sound (kind_on p c.world.heap n.heap l.grows k v hv) inst (λ o h b.
      then_fares p n _ _ _ _ (super_fares op r c n s.layout o name want l is h b) (λ i x l' hx.
      g i o name x (leaves_trans p c.world n i l l') (value_on p n.heap i.heap l'.grows (Obj o) h) hx.0 (Rattle.abc_objects.proofs.Grown.text_grown p.linked n.heap i.heap name.text l'.grows.grows ht)))))

  getsuper : Sound p file ops typings typed 0x04 (only_at OnInstance (naming_shape NameAt (makes (needed.Runtime ∷ needed.Instance ∷ []) rows.Any))) (gives_came reads_super)
  getsuper = comes p file ops typings typed 0x04 get_row reads_super (record { unslotted_is = refl; scoping = refl; locals = λ h t. refl; leads_is = refl }) refl
      (λ c. supered 0x04 get_row wants.Read refl refl refl c _ (λ n o name x l h hx ht. weaker p n _ _ _ (λ i y l' k. read_comes p file ops typings typed i y k) (read_found_fares p file ops typings typed n x (Obj o) l.sound hx)))

  callsuper : Sound p file ops typings typed 0x45 (only_at OnInstance (with_argument_count 1 (naming_shape NameAt (makes (needed.Runtime ∷ needed.Instance ∷ []) rows.Any)))) (gives_came calls_super)
  callsuper = comes p file ops typings typed 0x45 call_row calls_super (record { unslotted_is = refl; scoping = refl; locals = λ h t. refl; leads_is = refl }) refl
      (λ c. supered 0x45 call_row wants.Read refl refl refl c _ (λ n o name x l h hx ht. call_found_fares p file ops typings typed n x (Obj o) (Obj o) (at_of c).args l.sound hx h (values_on p c.world.heap n.heap l.grows (at_of c).args (given_args p file ops typings typed 0x45 call_row c))))

  callsupervoid : Sound p file ops typings typed 0x4E (only_at OnInstance (with_argument_count 1 (naming_shape NameAt (shape_with (needed.Runtime ∷ needed.Instance ∷ []) [])))) (drops_came calls_super)
  callsupervoid = drops p file ops typings typed 0x4E void_row calls_super (record { unslotted_is = refl; scoping = refl; locals = λ h t. refl; leads_is = refl }) refl
      (λ c. supered 0x4E void_row wants.Read refl refl refl c _ (λ n o name x l h hx ht. call_found_fares p file ops typings typed n x (Obj o) (Obj o) (at_of c).args l.sound hx h (values_on p c.world.heap n.heap l.grows (at_of c).args (given_args p file ops typings typed 0x4E void_row c))))

  setsuper : Sound p file ops typings typed 0x05 (only_at OnInstance (naming_shape NameAt (shape_with (needed.Value ∷ needed.Runtime ∷ needed.Instance ∷ []) []))) (drops_came writes_super)
  setsuper = drops p file ops typings typed 0x05 put_row writes_super (record { unslotted_is = refl; scoping = refl; locals = λ h t. refl; leads_is = refl }) refl go
    where
      go : (c : Case p typings 0x05 put_row) → Fares p c.world (writes_super (at_of c) c.world) (CameSound p typings)
      go c =
          let here = here_of c in
          let parts = runtime (multiname_at p.linked (operand c.instr)) in
          let s = site_of OnInstance c.routine.home (c.ready.kept NotHere) in
          taking_two p file ops typings typed 0x05 put_row refl c _ (CameSound p typings) (λ k l x y q hx hy.
          let fits : is_instance_of_layout p.linked (super_layout OnInstance c.routine.home) k ≡ true = below_suits here parts NotObject (length parts) (stack_below here c.state) k l refl q (c.ready.kept NotObject) in
          let inst : is_instance_of_layout p.linked (Some s.layout) k ≡ true = subst (λ o. is_instance_of_layout p.linked o k ≡ true) s.is fits in
          then_fares p c.world _ _ _ _ (name_fares p file ops typings typed c.world c.frame c.routine c.state c.instr put_row c.ready refl refl) (λ n name l' ht.
          receiver_fares c.world n s.layout k x _ _ l'.sound (kind_on p c.world.heap n.heap l'.grows k x hx) inst (λ o h b.
          then_fares p n _ _ _ _ (super_fares 0x05 put_row c n s.layout o name wants.Write l' s.is h b) (λ i found l'' hf.
          write_found_fares p file ops typings typed i o name y false found l''.sound (value_on p n.heap i.heap l''.grows (Obj o) h) hf.0 (Rattle.abc_objects.proofs.Grown.text_grown p.linked n.heap i.heap name.text l''.grows.grows ht) (value_on p n.heap i.heap l''.grows y (value_on p c.world.heap n.heap l'.grows y hy.exists))))))

  -- ---- the maker of the base

  abbrev maker_row : Shape
  maker_row = only_at InMaker (with_argument_count 1 (shape_with (needed.Instance ∷ []) []))

  base_same : (a : ActCase) (owner : Owner) → a.setting ≡ p → base_of_maker a owner ≡ base_maker p owner
  base_same a (owners.Iinit k) e = ap (λ (x : Setting). base_named x.linked.file k) e
  base_same a owners.Free e = refl
  base_same a (owners.ScriptInit s) e = refl
  base_same a (owners.ScriptMethod s) e = refl
  base_same a (owners.ClassInit k) e = refl
  base_same a (owners.Static k) e = refl
  base_same a (owners.Instance k) e = refl

  makes_home : (home : Home) (x : LayoutId) → super_layout InMaker home ≡ Some x → home ≡ MakesInstances x
  makes_home (MakesInstances y) x e = let same : y ≡ x = cc in ap MakesInstances same
  makes_home (OnInstances y) x e = absurd cc
  makes_home Elsewhere x e = absurd cc

  base_runs : (c : Case p typings 0x49 (only_at InMaker (with_argument_count 1 (shape_with (needed.Instance ∷ []) [])))) (w : World) (o : ObjId) (b : Option Named) → WorldSound p w → BaseRuns p w o b → Each (Exists p.linked w.heap) (at_of c).args → Fares p w (runs_base (at_of c) o b w) (CameSound p typings)
  base_runs c w o (Some (named.Class b)) z h es = then_fares p w _ _ _ _ (owned_fares p file ops typings typed w (instance_at p.linked.file b).iinit o (at_of c).args z h es) (λ n f l k. done_fares p n _ _ l.sound k)
  base_runs c w o (Some (named.Host x)) z h es =
      then_fares p w _ _ _ _ (host_arguments_fares p file ops typings typed w x (at_of c).args z es) (λ n xs l hx.
      then_fares p n _ _ _ _ (set_message_fares p file ops typings typed n o xs l.sound hx) (λ i u l' t. done_fares p i _ _ l'.sound tt))
  base_runs c w o None z h es = absurd h
  base_runs c w o (Some named.Any) z h es = absurd h
  base_runs c w o (Some named.Void) z h es = absurd h

  constructsuper : Sound p file ops typings typed 0x49 (only_at InMaker (with_argument_count 1 (shape_with (needed.Instance ∷ []) []))) (drops_came constructs_super)
  constructsuper = drops p file ops typings typed 0x49 maker_row constructs_super (record { unslotted_is = refl; scoping = refl; locals = λ h t. refl; leads_is = refl }) refl go
    where
      go : (c : Case p typings 0x49 maker_row) → Fares p c.world (constructs_super (at_of c) c.world) (CameSound p typings)
      go c =
          let here = here_of c in
          let s = site_of InMaker c.routine.home (c.ready.kept NotHere) in
          taking_one p file ops typings typed 0x49 maker_row refl c _ (CameSound p typings) (λ k v q hv.
          let fits : is_instance_of_layout p.linked (super_layout InMaker c.routine.home) k ≡ true = own_suits here NotObject (parts_count here) (stack_below here c.state) k q (c.ready.kept NotObject) in
          let inst : is_instance_of_layout p.linked (Some s.layout) k ≡ true = subst (λ o. is_instance_of_layout p.linked o k ≡ true) s.is fits in
          receiver_fares c.world c.world s.layout k v _ _ c.ready.world hv inst (λ o h b.
          let runs = makers.makers c.world c.frame.method c.routine s.layout o c.ready.world c.ready.body (makes_home c.routine.home s.layout s.is) h b in
          subst (λ x. Fares p c.world (runs_base (at_of c) o x c.world) (CameSound p typings)) (sym (base_same (at_of c) (owner_of p.linked.file c.frame.method) refl)) (base_runs c c.world o (base_maker p (owner_of p.linked.file c.frame.method)) c.ready.world runs (given_args p file ops typings typed 0x49 maker_row c))))

  -- ---- functions

  free_is : (owner : Owner) → is_free_owner owner ≡ true → owner ≡ owners.Free
  free_is owners.Free e = refl
  free_is (owners.ScriptInit s) e = absurd cc
  free_is (owners.ScriptMethod s) e = absurd cc
  free_is (owners.ClassInit k) e = absurd cc
  free_is (owners.Static k) e = absurd cc
  free_is (owners.Iinit k) e = absurd cc
  free_is (owners.Instance k) e = absurd cc

  body_there : (n : ℕ) → is_some (body_of p.linked.file n) ≡ true → HasBody p n
  body_there n e = go (body_of p.linked.file n) refl e
    where
      go : (o : Option ℕ) → body_of p.linked.file n ≡ o → is_some o ≡ true → HasBody p n
      go None is e = absurd cc
      go (Some b) is e = record { routine = Rattle.abc_verify_typing.specs.Routines.routine p.linked b; body = ap (routine_in p) is }

  abbrev function_row : Shape
  function_row = naming_shape FunctionAt (makes [] rows.Function)

  entries_at : (op : ℕ) (r : Shape) (c : Case p typings op r) (n : World) → LeavesSound p c.world n → AreEntries n.heap c.frame.scopes
  entries_at op r c n l = each_at (λ (e : ScopeEntry). IsObject n.heap e.object) c.frame.scopes (entries_there p file ops search typings typed n c.state.scopes c.frame.scopes (scopes_left p file typings typed c.world c.frame c.routine c.state c.instr r c.ready n l))

  newfunction : Sound p file ops typings typed 0x40 (naming_shape FunctionAt (makes [] rows.Function)) (gives_pushed makes_function)
  newfunction = gives_one p file ops typings typed 0x40 function_row (Fixed rows.Function) makes_function (record { unslotted_is = refl; scoping = refl; locals = λ h t. refl; leads_is = refl }) refl go
    where
      go : (c : Case p typings 0x40 function_row) → Fares p c.world (makes_function (at_of c) c.world) (OfSource p file ops typings typed c (Fixed rows.Function))
      go c =
          let w = c.world in
          let n = operand c.instr in
          let test = c.ready.kept PoolIndex in
          let low = ltb-true n (length p.linked.file.methods) (and_left _ _ test) in
          let free = free_is (owner_of p.linked.file n) (and_left _ _ (and_right (ltb n (length p.linked.file.methods)) _ test)) in
          let body = body_there n (and_right (is_free_owner (owner_of p.linked.file n)) _ (and_right (ltb n (length p.linked.file.methods)) _ test)) in
          then_fares p w _ _ _ _ (new_function_fares p file w n c.frame.home c.frame.saved c.frame.scopes c.ready.world low c.ready.home c.ready.saved (entries_at 0x40 function_row c w (Rattle.abc_meaning_sound.proofs.Faring.leaves_self p w c.ready.world)) (λ h. record { routine = body.routine; body = body.body; bound_to = free })) (λ i o l ho.
          done_fares p i (Obj o) _ l.sound (record { exists = ho.0; kind = (ho.0, subst (λ x. IsBelow p.linked x (host_layout p.linked hosts.Function)) (sym ho.1) (below_self p.linked (host_layout p.linked hosts.Function))) }))

  -- ---- activations and catch objects

  scope_object_fares : (op : ℕ) (r : Shape) (c : Case p typings op r) (x : LayoutId) (what : What) → IsScopeLayout p x.0 → IsMadeAlone what → Rattle.abc_objects.specs.Stands.NamesParts p.linked c.world.heap what → WhatSound p c.world.heap x.0 what → Fares p c.world (new_scope_object (at_of c) x what c.world) (λ n v. IsOfKind p.linked n.heap (kinds.Obj x) v)
  scope_object_fares op r c x what s alone names sound =
      let w = c.world in
      let d = prototype_for hosts.Object w in
      then_fares p w _ _ _ _ (new_object_fares p file w x.0 d what c.ready.world (record { layout = s.layout; no_array = s.no_array; delegate_is = prototype_is p.linked w.heap (14 + Rattle.abc_link_names.specs.Places.host_number hosts.Object) c.ready.world.stands; alone = alone; names = names; what_is = sound; part = s.part w.heap; first_of = s.first_of })) (λ n o l h.
      done_fares p n (Obj o) _ l.sound (record { exists = h.0; kind = (h.0, subst (λ y. IsBelow p.linked y x.0) (sym h.1) (below_self p.linked x.0)) }))

  newactivation : Sound p file ops typings typed 0x57 (only_at WithActivation (shape_with [] (ActivationKind ∷ []))) (gives_pushed makes_activation)
  newactivation = gives_one p file ops typings typed 0x57 (only_at WithActivation (shape_with [] (ActivationKind ∷ []))) ActivationKind makes_activation (record { unslotted_is = refl; scoping = refl; locals = λ h t. refl; leads_is = refl }) refl
      (λ c. scope_object_fares 0x57 (only_at WithActivation (shape_with [] (ActivationKind ∷ []))) c c.routine.activation whats.Activation (scopes.activations c.frame.method c.routine c.ready.body (c.ready.kept NotHere)) tt tt tt)

  abbrev catch_row : Shape
  catch_row = naming_shape HandlerAt (shape_with [] (CatchObjectKind ∷ []))

  newcatch : Sound p file ops typings typed 0x5A (naming_shape HandlerAt (shape_with [] (CatchObjectKind ∷ []))) (gives_pushed makes_catch)
  newcatch = gives_one p file ops typings typed 0x5A catch_row CatchObjectKind makes_catch (record { unslotted_is = refl; scoping = refl; locals = λ h t. refl; leads_is = refl }) refl go
    where
      go : (c : Case p typings 0x5A catch_row) → Fares p c.world (makes_catch (at_of c) c.world) (OfSource p file ops typings typed c CatchObjectKind)
      go c =
          let n = operand c.instr in
          let h = slice_get-some c.routine.handlers n (ltb-true n (length c.routine.handlers) (c.ready.kept PoolIndex)) in
          some_then p c.world (slice_get c.routine.handlers n) h.0 _ _ h.1
          (subst (λ o. Fares p c.world (new_scope_object (at_of c) h.0.layout whats.Catch c.world) (λ i v. IsOfKind p.linked i.heap (catch_object o) v)) (sym h.1) (scope_object_fares 0x5A catch_row c h.0.layout whats.Catch (scopes.catches c.frame.method c.routine n h.0 c.ready.body h.1) tt tt tt))

  -- ---- classes

  abbrev class_row : Shape
  class_row = naming_shape ClassAt (shape_with value (ClassObjectKind ∷ []))

  -- what a class leads to was made where its base was
  above_made : (w : World) (k : ℕ) → k < length p.linked.file.instances → BaseMade p file scopes w (base_named p.linked.file k) → (b : ℕ) → Leads (base_graph p.linked.file) k b → HasClassMade w.heap b
  above_made w k low made b lead =
      let a = scopes.above k b low lead in
      let base : AreClassesMade p.linked w.heap a.0 = subst (BaseMade p file scopes w) a.1 made in
      elim a.2 [ inl e ↦ subst (HasClassMade w.heap) (sym e) base.own | inr more ↦ base.bases b more ]

  cinit_runs : (w : World) (k home : ℕ) (o : ObjId) → WorldSound p w → k < length p.linked.file.instances → home < length p.linked.file.scripts → (m : ClassMade p file scopes k home w o) → OwnedSound p w (class_at p.linked.file k).cinit o
  cinit_runs w k home o z low hh m =
      let i = file.cinits k low in
      let names = (z.stands.objects o.0 (object_at w.heap.objects o.0) (there w.heap.objects o.0 m.inside)).what in
      let parts_named = subst (Rattle.abc_objects.specs.Stands.NamesParts p.linked w.heap) m.what names in
      record {
        body = i.body;
        place = place home m.statics;
        kept = ap (λ x. place_of_owner x w) i.owner_is ∙ kept_is statics_of k w o (object_at w.heap.objects o.0) (place home m.statics) m.is (there w.heap.objects o.0 m.inside) (ap statics_of m.what);
        home = hh;
        saved = parts_named.2;
        this = subst (λ x. IsOfKind p.linked w.heap (this_kind p.linked x) (Obj o)) (sym i.owner_is) (record { exists = m.inside; kind = (m.inside, subst (λ x. IsBelow p.linked x (layout_of p.linked (parts.ClassObject k)).0) (sym m.layout) (below_self p.linked (layout_of p.linked (parts.ClassObject k)).0)) });
      }

  -- the frame keeps the class object
  class_kept : (c : Case p typings 0x58 (naming_shape ClassAt (shape_with value (ClassObjectKind ∷ [])))) (n : World) (o : ObjId) → LeavesSound p c.world n → IsOfKind p.linked n.heap (kind_of_part p.linked (parts.ClassObject (operand c.instr))) (Obj o) → WaitingSound p typings n.heap (waiting_frame (waits.Keep (Obj o)) (at_of c).rest)
  class_kept c n o l ho =
      let g = Rattle.abc_meaning_sound.proofs.Shapes.goes_plain p file typings typed c.world c.frame c.routine c.state c.instr class_row c.ready (record { keeps = record { unslotted = refl; scoping = refl; locals = λ t. refl }; leads = refl }) n l (Obj o ∷ []) (ho, tt) in
      let rest = rest_stands p file typings typed c.world c.frame c.routine c.state c.instr class_row c.ready ClassObjectKind refl (record { unslotted = refl; scoping = refl; locals = λ t. refl }) n l in
      with_wait p file typings typed n.heap (at_of c).rest (waits.Keep (Obj o)) (record { routine = rest.routine; body = rest.body; home = rest.home; saved = rest.saved; locals = rest.locals; stack = rest.stack; scopes = rest.scopes }) (catching_left p file typings typed c.world c.frame c.routine c.state c.instr class_row c.ready n l) g.typed

  newclass : Sound p file ops typings typed 0x58 (naming_shape ClassAt (shape_with value (ClassObjectKind ∷ []))) makes_class
  newclass = by_case p file ops typings typed 0x58 class_row makes_class go
    where
      at_unmade : (c : Case p typings 0x58 class_row) (v : Value) (made : Option ObjId) → class_object (operand c.instr) c.world ≡ made → Fares p c.world (unmade made c.world) (λ n u. (n.heap ≡ c.world.heap) × (class_object (operand c.instr) c.world ≡ None))
      at_unmade c v None is = done_fares p c.world _ _ c.ready.world (refl, is)
      at_unmade c v (Some o) is = stop_fares p c.world (Errs hosts.TypeError) _ c.ready.world tt

      go : (c : Case p typings 0x58 class_row) → Fares p c.world (makes_class (at_of c) c.world) (ActSound p typings c.frame)
      go c =
          let k = operand c.instr in
          let low = ltb-true k (length p.linked.file.instances) (c.ready.kept PoolIndex) in
          taking_one p file ops typings typed 0x58 class_row refl c _ (ActSound p typings c.frame) (λ j v q hv.
          then_fares p c.world _ _ _ _ (at_unmade c v (class_object k c.world) refl) (λ n u l e.
          then_fares p n _ _ _ _ (base_fares p file scopes n (base_named p.linked.file k) v l.sound (scopes.bases k low)) (λ i base l' hb.
          let z = leaves_trans p c.world n i l l' in
          let none : class_object k i ≡ None = ap (λ (h : Heap). Rattle.abc_meaning.specs.Objects.flat_value (slice_get h.classes k)) (hb.2 ∙ e.0) ∙ e.1 in
          then_fares p i _ _ _ _ (new_class_fares p file scopes i k c.frame.home base c.frame.saved c.frame.scopes l'.sound low c.ready.home none hb.0 (scope_grown c.world.heap i.heap c.frame.saved z.grows.grows c.ready.saved) (entries_at 0x58 class_row c i z) (above_made i k low hb.1)) (λ m o l'' made.
          let z' = leaves_trans p c.world i m z l'' in
          let kind : IsOfKind p.linked m.heap (kind_of_part p.linked (parts.ClassObject k)) (Obj o) = record { exists = made.inside; kind = (made.inside, subst (λ x. IsBelow p.linked x (layout_of p.linked (parts.ClassObject k)).0) (sym made.layout) (below_self p.linked (layout_of p.linked (parts.ClassObject k)).0)) } in
          then_fares p m _ _ _ _ (owned_fares p file ops typings typed m (class_at p.linked.file k).cinit o [] l''.sound (cinit_runs m k c.frame.home o l''.sound low c.ready.home made) tt) (λ t g l3 hg.
          done_fares p t _ _ l3.sound (refl, hg, class_kept c t o (leaves_trans p c.world m t z' l3) (kind_on p m.heap t.heap l3.grows _ (Obj o) kind)))))))

  pub classes_hold : (rest : List (ℕ × Doing)) → Each (EntrySound p typings) rest → Each (EntrySound p typings) (class_acts rest)
  unfolding row_at table_of_rows
  classes_hold rest more = (
    entry p typings 0x04 (only_at OnInstance (naming_shape NameAt (makes (needed.Runtime ∷ needed.Instance ∷ []) rows.Any))) _ refl getsuper,
    (
      entry p typings 0x05 (only_at OnInstance (naming_shape NameAt (shape_with (needed.Value ∷ needed.Runtime ∷ needed.Instance ∷ []) []))) _ refl setsuper,
      (
        entry p typings 0x45 (only_at OnInstance (with_argument_count 1 (naming_shape NameAt (makes (needed.Runtime ∷ needed.Instance ∷ []) rows.Any)))) _ refl callsuper,
        (
          entry p typings 0x4E (only_at OnInstance (with_argument_count 1 (naming_shape NameAt (shape_with (needed.Runtime ∷ needed.Instance ∷ []) [])))) _ refl callsupervoid,
          (
            entry p typings 0x49 (only_at InMaker (with_argument_count 1 (shape_with (needed.Instance ∷ []) []))) _ refl constructsuper,
            (
              entry p typings 0x40 (naming_shape FunctionAt (makes [] rows.Function)) _ refl newfunction,
              (
                entry p typings 0x57 (only_at WithActivation (shape_with [] (ActivationKind ∷ []))) _ refl newactivation,
                (
                  entry p typings 0x58 (naming_shape ClassAt (shape_with value (ClassObjectKind ∷ []))) _ refl newclass,
                  (
                    entry p typings 0x5A (naming_shape HandlerAt (shape_with [] (CatchObjectKind ∷ []))) _ refl newcatch,
                    more,
                  ),
                ),
              ),
            ),
          ),
        ),
      ),
    ),
  )
