-- What an object of a layout has of the traits of that layout and of those above it.
use Rattle.std.proofs.Common.{◌≡◌, inl, inr, ℕ, zero, suc, ◌+◌, ◌<◌, ◌≤◌, List, [], ◌∷◌, ◌++◌, length, map, refl, sym, ap, ◌∙◌, subst, arith, length-append}
use Rattle.std.specs.Prelude.{Bool, true, false, ◌||◌, ◌&&◌, nat_eq, unwrap_or, slice_get, Some, None, if◌then◌else◌}
use Rattle.std.specs.List.{flat_map, list_any}
use Rattle.std.specs.declared.option.Option.{Option}
use Rattle.abc_base.specs.declared.names.HostClass.TheVariants as hosts
use Rattle.abc_heap_values.specs.declared.values.ObjId.{ObjId}
use Rattle.abc_heap_values.specs.declared.values.Value.TheVariants.{Obj}
use Rattle.abc_tables.proofs.ClassesFit.{class_fits, instance_fits, script_fits}
use Rattle.abc_tables.proofs.Combined.{position_fits}
use Rattle.abc_tables.proofs.TraitsFit.{HasFields, fields_fit, trait_fits, traits_fit}
use Rattle.abc_tables.specs.Fitting.{FitTraits, FitsTrait}
use Rattle.abc_base_graphs.specs.Graph.{Edge, Leads, Then}
use Rattle.abc_base_graphs.specs.Ways.{before, way}
use Rattle.abc_base_graphs.proofs.Walks.{way_none, way_some}
use Rattle.abc_heap_store.specs.Heap.{Object, object_at}
use Rattle.abc_heap_store.specs.Scopes.{scope_id}
use Rattle.abc_base_graphs.specs.Heirs.{heritage}
use Rattle.abc_base_graphs.proofs.Laid.{heritage_none, heritage_some}
use Rattle.abc_link_names.specs.Instances.{instance_at, no_instance}
use Rattle.abc_link_names.specs.Pool.{name, qname}
use Rattle.abc_link_names.specs.declared.named.DefiniteName.{DefiniteName}
use Rattle.abc_link_names.specs.declared.named.Named.{Named}
use Rattle.abc_link_names.specs.declared.named.Named.TheVariants as named
use Rattle.abc_objects.specs.Stands.{IsScope}
use Rattle.abc_objects.specs.Values.{IsObject}
use Rattle.abc_objects.proofs.Made.{object_slots, part_found}
use Rattle.abc_objects.proofs.Opened.{scope_made}
use Rattle.abc_objects.proofs.Started.{part_has}
use Rattle.abc_link_names.specs.Linked.{IsLinkedFile, LinkedFile, above, base_layout, layout_of}
use Rattle.abc_link_names.specs.Numbering.{part_at}
use Rattle.abc_link_names.specs.Owners.{naming, namings, namings_among, namings_in}
use Rattle.abc_link_names.specs.Parts.{HasLayout, base_part, parent}
use Rattle.abc_link_names.specs.Slots.{handler_at, own_slots, slots_in, slots_of}
use Rattle.abc_link_names.specs.Tree.{IsBelow, up}
use Rattle.abc_link_names.specs.declared.part.Part.{Part}
use Rattle.abc_link_names.specs.declared.part.Part.TheVariants as parts
use Rattle.abc_link_names.specs.declared.types.Naming.{Naming}
use Rattle.abc_link_names.specs.declared.types.Owner.{Owner}
use Rattle.abc_link_names.specs.declared.types.Owner.TheVariants as owners
use Rattle.abc_link_names.specs.declared.types.SlotInfo.{SlotInfo}
use Rattle.abc_link_names.proofs.Finding.{falling, found}
use Rattle.abc_link_names.proofs.Tree.{below_above}
use Rattle.abc_link_names.specs.Bases.{base_graph, base_named, is_interface}
use Rattle.abc_link_names.specs.Methods.{methods_among, methods_in}
use Rattle.abc_link_names.specs.PartsByNumber.{body_at, class_at, no_class, no_script, script_at}
use Rattle.abc_link_names.specs.ItemTypes.{is_body, is_no_slot, is_not_run}
use Rattle.abc_link_names.specs.declared.items.ItemKind.TheVariants as items
use Rattle.abc_objects.specs.Candidates.{Candidate, OfTrait, traits, traits_after}
use Rattle.abc_objects.specs.Traits.{Trait, caught_trait, members_in, own, own_traits_of, slots_under, trait_named, traits_from, traits_named}
use Rattle.abc_objects.specs.declared.traits.Member.{Member}
use Rattle.abc_objects.specs.declared.traits.Member.TheVariants as members
use Rattle.abc_file_types.specs.Classes.{sizes_of}
use Rattle.abc_file_types.specs.declared.traits.TraitBody.{TraitBody}
use Rattle.abc_file_types.specs.declared.traits.TraitBody.TheVariants as bodies
use Rattle.abc_file_types.specs.declared.traits.TraitInfo.{TraitInfo}
use Rattle.abc_verify_typing.specs.Lists.{Each}
use Rattle.abc_verify_typing.specs.Routines.{kind_of_part, this_kind}
use Rattle.abc_verify_typing.specs.Typing.{In}
use Rattle.abc_verify_typing.proofs.Good.{good}
use Rattle.abc_verify_typing.proofs.Lists.{Each-append}
use Rattle.abc_verify_typing.proofs.Member.{in_append, in_left, in_right}
use Rattle.abc_meaning.specs.Objects.{Place, place, place_of_owner}
use Rattle.abc_meaning.specs.Setting.{Setting}
use Rattle.abc_meaning.specs.World.{Went, World}
use Rattle.abc_meaning.specs.Sound.{IsFirstOf, HasClassMade, IsOfKind, PartSound, WorldSound}
use Rattle.abc_meaning_sound.specs.Given.{FileGiven, HasBody, OwnedSound, ScopesGiven}
use Rattle.abc_link_names.specs.ClassBases.{BaseKnown}
use Rattle.abc_meaning_sound.proofs.Growing.{first_is}
use Rattle.abc_meaning_sound.proofs.Lists.{inside, there}
use Rattle.abc_meaning_sound.proofs.Filed.{definitions, traits_run}
use Rattle.abc_meaning_sound.proofs.Indexed.{all_each, none_passes, or_right}
use Rattle.abc_meaning_sound.proofs.Makers.{above_at, class_keeps, plain_base, under_class}
use Rattle.abc_meaning_sound.proofs.Owned.{class_count, has_body, of_class_named, of_class_run, of_instance_named, of_instance_run, of_script_named, of_script_run, owned_by}
use Rattle.abc_link_names.proofs.ClassBases.{bases_known, edge_is}

-- ---- the methods that the traits of a table name

method_named : (o : Owner) (t : TraitBody) (m : ℕ) → In m (methods_in t) → In (naming o m) (namings_in o t)
method_named o (bodies.Slot id ty value constant) m h = absurd h
method_named o (bodies.Method disp n) m h = elim h [ inl e ↦ inl (ap (naming o) e) | inr x ↦ absurd x ]
method_named o (bodies.Getter disp n) m h = elim h [ inl e ↦ inl (ap (naming o) e) | inr x ↦ absurd x ]
method_named o (bodies.Setter disp n) m h = elim h [ inl e ↦ inl (ap (naming o) e) | inr x ↦ absurd x ]
method_named o (bodies.Class id k) m h = absurd h
method_named o (bodies.Function id n) m h = elim h [ inl e ↦ inl (ap (naming o) e) | inr x ↦ absurd x ]

among_named : (o : Owner) (ts : List TraitInfo) (m : ℕ) → In m (methods_among ts) → In (naming o m) (namings_among o ts)
among_named o [] m h = absurd h
among_named o (t ∷ ts) m h = elim (in_append m (methods_in t.body) (methods_among ts) h) [
  | inl x ↦ in_left (naming o m) (namings_in o t.body) (namings_among o ts) (method_named o t.body m x)
  | inr x ↦ in_right (naming o m) (namings_in o t.body) (namings_among o ts) (among_named o ts m x)
]

module _ (l : LinkedFile) (linked : IsLinkedFile l) where
  one_low : (t : TraitBody) (m : ℕ) → HasFields (sizes_of l.file) t → In m (methods_in t) → m < length l.file.methods
  one_low (bodies.Slot id ty value constant) m f h = absurd h
  one_low (bodies.Class id k) m f h = absurd h
  one_low (bodies.Method disp n) m f h = elim h [ inl e ↦ subst (λ (x : ℕ). x < length l.file.methods) (sym e) (((position_fits (sizes_of l.file).methods n).0 f.1).0) | inr x ↦ absurd x ]
  one_low (bodies.Getter disp n) m f h = elim h [ inl e ↦ subst (λ (x : ℕ). x < length l.file.methods) (sym e) (((position_fits (sizes_of l.file).methods n).0 f.1).0) | inr x ↦ absurd x ]
  one_low (bodies.Setter disp n) m f h = elim h [ inl e ↦ subst (λ (x : ℕ). x < length l.file.methods) (sym e) (((position_fits (sizes_of l.file).methods n).0 f.1).0) | inr x ↦ absurd x ]
  one_low (bodies.Function id n) m f h = elim h [ inl e ↦ subst (λ (x : ℕ). x < length l.file.methods) (sym e) (((position_fits (sizes_of l.file).methods n).0 f.1).0) | inr x ↦ absurd x ]

  each_low : (ts : List TraitInfo) (m : ℕ) → Each (FitsTrait (sizes_of l.file)) ts → In m (methods_among ts) → m < length l.file.methods
  each_low [] m f h = absurd h
  each_low (t ∷ ts) m f h = elim (in_append m (methods_in t.body) (methods_among ts) h) [
    | inl x ↦ one_low t.body m ((fields_fit (sizes_of l.file) t.body).0 ((trait_fits (sizes_of l.file) t).0 f.0).2) x
    | inr x ↦ each_low ts m f.1 x
  ]

  table_low : (ts : List TraitInfo) (m : ℕ) → FitTraits (sizes_of l.file) ts → In m (methods_among ts) → m < length l.file.methods
  table_low ts m f h = each_low ts m (all_each (FitsTrait (sizes_of l.file)) ts ((traits_fit (sizes_of l.file) ts).0 f).1) h

  -- a body names no methods
  no_methods : (ts : List TraitInfo) (m : ℕ) → Each (λ (t : TraitInfo). (is_not_run l.file t.body || (is_body items.Body && is_no_slot t.body)) ≡ false) ts → In m (methods_among ts) → ⊥
  no_methods [] m a h = h
  no_methods (t ∷ ts) m a h = elim (in_append m (methods_in t.body) (methods_among ts) h) [ inl x ↦ none t.body (or_right (is_not_run l.file t.body) (is_body items.Body && is_no_slot t.body) a.0) x | inr x ↦ no_methods ts m a.1 x ]
    where
      none : (b : TraitBody) → is_no_slot b ≡ false → In m (methods_in b) → ⊥
      none (bodies.Slot id ty value constant) e x = x
      none (bodies.Method disp n) e x = cc
      none (bodies.Getter disp n) e x = cc
      none (bodies.Setter disp n) e x = cc
      none (bodies.Class id k) e x = x
      none (bodies.Function id n) e x = cc

  -- ---- what stands above: the host's, or instances

  abbrev IsOver : Part → Type 0
  IsOver (parts.Host c) = Unit {0}
  IsOver (parts.Instance k) = Unit {0}
  IsOver other = ⊥

  abbrev OverHas : Option Part → Type 0
  OverHas None = Unit {0}
  OverHas (Some q) = IsOver q × HasLayout l.file q

  parent_over : (q : Part) → HasLayout l.file q → OverHas (parent l.file q)
  parent_over (parts.Host hosts.Object) has = tt
  parent_over (parts.Host hosts.Class) has = (tt, tt)
  parent_over (parts.Host hosts.Function) has = (tt, tt)
  parent_over (parts.Host hosts.Namespace) has = (tt, tt)
  parent_over (parts.Host hosts.Str) has = (tt, tt)
  parent_over (parts.Host hosts.Int) has = (tt, tt)
  parent_over (parts.Host hosts.UInt) has = (tt, tt)
  parent_over (parts.Host hosts.Number) has = (tt, tt)
  parent_over (parts.Host hosts.Boolean) has = (tt, tt)
  parent_over (parts.Host hosts.Error) has = (tt, tt)
  parent_over (parts.Host hosts.TypeError) has = (tt, tt)
  parent_over (parts.Host hosts.ReferenceError) has = (tt, tt)
  parent_over (parts.Host hosts.ArgumentError) has = (tt, tt)
  parent_over (parts.Host hosts.Array) has = (tt, tt)
  parent_over (parts.HostClassObject c) has = (tt, tt)
  parent_over (parts.ClassObject k) has = (tt, tt)
  parent_over (parts.Global s) has = (tt, tt)
  parent_over (parts.Activation b) has = (tt, tt)
  parent_over (parts.Catch b e) has = (tt, tt)
  parent_over (parts.Instance k) has = go (base_named l.file k) (bases_known l linked k has)
    where
      go : (o : Option Named) → BaseKnown l o → OverHas (Some (base_part o))
      go None e = (tt, tt)
      go (Some (named.Host c)) e = (tt, tt)
      go (Some (named.Class b)) e = (tt, e)
      go (Some named.Any) e = absurd e
      go (Some named.Void) e = absurd e

  -- above a layout there is the first layout of such a part
  above_over : (y : ℕ) → IsOver (part_at l.parts (above l y)) × IsFirstOf l (above l y)
  above_over y = go (parent l.file (part_at l.parts y)) refl (parent_over (part_at l.parts y) (part_has l y linked))
    where
      go : (o : Option Part) → parent l.file (part_at l.parts y) ≡ o → OverHas o → IsOver (part_at l.parts (above l y)) × IsFirstOf l (above l y)
      go None e h =
          let up_is : above l y ≡ 0 = above_at l linked y None e in
          let g = good l linked in
          let first : above l y ≡ (layout_of l (parts.Host hosts.Object)).0 = up_is ∙ sym g.root in
          let at = (part_found l linked (parts.Host hosts.Object) tt).1 in
          (subst (λ (x : ℕ). IsOver (part_at l.parts x)) (sym first) (subst IsOver (sym at) tt), subst (IsFirstOf l) (sym first) (first_is l (parts.Host hosts.Object) at))
      go (Some q) e h =
          let up_is : above l y ≡ (layout_of l q).0 = above_at l linked y (Some q) e in
          let at : part_at l.parts (layout_of l q).0 ≡ q = found l.file l.parts linked.numbering q h.1 in
          (subst (λ (x : ℕ). IsOver (part_at l.parts x)) (sym up_is) (subst IsOver (sym at) h.0), subst (IsFirstOf l) (sym up_is) (first_is l q at))

  up_over : (s y : ℕ) → IsOver (part_at l.parts y) → IsOver (part_at l.parts (up l s y))
  up_over zero y h = h
  up_over (suc s) y h = up_over s (above l y) (above_over y).0

  up_first : (s y : ℕ) → IsFirstOf l y → IsFirstOf l (up l s y)
  up_first zero y h = h
  up_first (suc s) y h = up_first s (above l y) (above_over y).1

  -- a layout of another part is above itself alone
  self_above : (s y x : ℕ) → up l s y ≡ x → (IsOver (part_at l.parts x) → ⊥) → y ≡ x
  self_above zero y x e h = e
  self_above (suc s) y x e h = absurd (h (subst (λ (z : ℕ). IsOver (part_at l.parts z)) e (up_over s (above l y) (above_over y).0)))

  -- ---- slots

  abbrev own_of : ℕ → List SlotInfo
  own_of y = own_slots l (part_at l.parts y)

  slots_parts : (x : ℕ) → length (slots_of l x) ≡ slots_under l (base_layout l x) + length (own_of x)
  slots_parts x =
      ap length (heritage_some (base_layout l) own_of (falling l.file l.parts linked.numbering) x) ∙ length-append (heritage (base_layout l) own_of (base_layout l x)) (own_of x) ∙ ap (λ (n : ℕ). n + length (own_of x)) (go (base_layout l x))
    where
      go : (o : Option ℕ) → length (heritage (base_layout l) own_of o) ≡ slots_under l o
      go None = ap length (heritage_none (base_layout l) own_of)
      go (Some b) = refl

  slots_above : (y : ℕ) → length (slots_of l (above l y)) ≤ length (slots_of l y)
  slots_above y = go (base_layout l y) refl
    where
      go : (o : Option ℕ) → base_layout l y ≡ o → length (slots_of l (above l y)) ≤ length (slots_of l y)
      go None e =
          let up_is : above l y ≡ 0 = ap (λ (b : Option ℕ). unwrap_or b 0) e in
          let g = good l linked in
          let none : slots_of l (above l y) ≡ [] = ap (slots_of l) (up_is ∙ sym g.root) ∙ object_slots l linked in
          let count : length (slots_of l (above l y)) ≡ 0 = ap length none in
          omega (arith, count)
      go (Some b) e =
          let up_is : above l y ≡ b = ap (λ (x : Option ℕ). unwrap_or x 0) e in
          let parts_are = slots_parts y in
          let under : slots_under l (base_layout l y) ≡ length (slots_of l (above l y)) = ap (slots_under l) e ∙ ap (λ (x : ℕ). length (slots_of l x)) (sym up_is) in
          omega (arith, parts_are, under)

  slots_up : (s y : ℕ) → length (slots_of l (up l s y)) ≤ length (slots_of l y)
  slots_up zero y = omega arith
  slots_up (suc s) y = let a = slots_above y in let b = slots_up s (above l y) in omega (arith, a, b)

  -- ---- the classes above are no interfaces

  leads_plain : (m k : ℕ) → m < length l.file.instances → Leads (base_graph l.file) m k → (is_interface l.file k ≡ false) × (k < length l.file.instances)
  leads_plain m k low (Edge c) = let e = edge_is l linked m k low c in (plain_base l linked m k low e, subst (BaseKnown l) e (bases_known l linked m low))
  leads_plain m k low (Then {y = y} c rest) = let e = edge_is l linked m y low c in leads_plain y k (subst (BaseKnown l) e (bases_known l linked m low)) rest

-- ---- an object's traits

module _ (p : Setting) (file : FileGiven p) (scopes : ScopesGiven p) (w : World) (z : WorldSound p w) (o : ObjId) (inner : IsObject w.heap o) where
  abbrev l : LinkedFile
  l = p.linked

  abbrev ob : Object
  ob = object_at w.heap.objects o.0

  abbrev own_layout : ℕ
  own_layout = ob.layout

  at_ob : slice_get w.heap.objects o.0 ≡ Some ob
  at_ob = there w.heap.objects o.0 inner

  layout_low : own_layout < length l.parts
  layout_low = (z.stands.objects o.0 ob at_ob).layout

  first_below : (x : ℕ) → IsBelow l own_layout x → IsFirstOf l x
  first_below x b = subst (IsFirstOf l) b.climb (up_first l file.linked b.steps own_layout (z.objects o.0 ob at_ob).first_of)

  -- the layout of a part at which a layout above stands
  part_layout : (x : ℕ) (q : Part) → part_at l.parts x ≡ q → IsBelow l own_layout x → IsBelow l own_layout (layout_of l q).0
  part_layout x q e b = subst (IsBelow l own_layout) (first_below x b ∙ ap (λ (r : Part). (layout_of l r).0) e) b

  is_this : (q : Part) → IsBelow l own_layout (layout_of l q).0 → IsOfKind l w.heap (kind_of_part l q) (Obj o)
  is_this q b = record { exists = inner; kind = (inner, b) }

  -- a method of an owner that is a part above
  owned : (n : Naming) (q : Part) → n.method < length l.file.methods → HasBody p n.method → In n (namings l.file) → this_kind l n.owner ≡ kind_of_part l q → IsBelow l own_layout (layout_of l q).0
      → (at : Place) → place_of_owner n.owner w ≡ Went w at → at.home < length l.file.scripts → IsScope w.heap at.saved → OwnedSound p w n.method o
  owned n q low body h kind b at kept home saved =
      let is = owned_by p file.linked n low h in
      record {
        body = body;
        place = at;
        kept = ap (λ (x : Owner). place_of_owner x w) is ∙ kept;
        home = home;
        saved = saved;
        this = subst (λ (x : Owner). IsOfKind l w.heap (this_kind l x) (Obj o)) (sym is) (subst (λ k. IsOfKind l w.heap k (Obj o)) (sym kind) (is_this q b));
      }

  of_instance : (x k m : ℕ) → part_at l.parts x ≡ parts.Instance k → IsBelow l own_layout x → In m (methods_among (instance_at l.file k).traits) → OwnedSound p w m o
  of_instance x k m e b h =
      let has : k < length l.file.instances = subst (HasLayout l.file) e (part_has l x file.linked) in
      let i = instance_at l.file k in
      let fits = (instance_fits (sizes_of l.file) i).0 ((definitions l file.linked).instances k no_instance has) in
      let low = table_low l file.linked i.traits m fits.6 h in
      let below = part_layout x (parts.Instance k) e b in
      let u = under_class l file.linked own_layout k layout_low has below in
      let sound : PartSound l w.heap (parts.Instance u.class) = subst (PartSound l w.heap) u.part (z.objects o.0 ob at_ob).part in
      let plain : is_interface l.file k ≡ false = elim u.is [ inl same ↦ subst (λ (c : ℕ). is_interface l.file c ≡ false) same sound.0 | inr way ↦ (leads_plain l file.linked u.class k u.low way).0 ] in
      let made : HasClassMade w.heap k = elim u.is [ inl same ↦ subst (HasClassMade w.heap) same sound.1.own | inr way ↦ sound.1.bases k way ] in
      let kept = (class_keeps p file scopes w k z has made).0 in
      owned (naming (owners.Instance k) m) (parts.Instance k) low
      (has_body p file.linked m low (of_instance_run p file.linked k m has plain (inr h)))
      (of_instance_named p file.linked k (naming (owners.Instance k) m) has (inr (among_named (owners.Instance k) i.traits m h)))
      refl below kept.place kept.kept kept.home kept.saved

  of_class : (x k m : ℕ) → part_at l.parts x ≡ parts.ClassObject k → IsBelow l own_layout x → In m (methods_among (class_at l.file k).traits) → OwnedSound p w m o
  of_class x k m e b h =
      let has : k < length l.file.instances = subst (HasLayout l.file) e (part_has l x file.linked) in
      let count = class_count p file.linked in
      let low_k : k < length l.file.classes = omega (arith, has, count) in
      let i = class_at l.file k in
      let fits = (class_fits (sizes_of l.file) i).0 ((definitions l file.linked).classes k no_class low_k) in
      let low = table_low l file.linked i.traits m fits.1 h in
      let same = self_above l file.linked b.steps own_layout x b.climb (λ over. subst (IsOver l file.linked) e over) in
      let sound : PartSound l w.heap (parts.ClassObject k) = subst (PartSound l w.heap) (ap (part_at l.parts) same ∙ e) (z.objects o.0 ob at_ob).part in
      let kept = (class_keeps p file scopes w k z has sound.own).1 in
      owned (naming (owners.Static k) m) (parts.ClassObject k) low
      (has_body p file.linked m low (of_class_run p file.linked k m low_k (inr h)))
      (of_class_named p file.linked k (naming (owners.Static k) m) low_k (inr (among_named (owners.Static k) i.traits m h)))
      refl (part_layout x (parts.ClassObject k) e b) kept.place kept.kept kept.home kept.saved

  of_script : (x s m : ℕ) → part_at l.parts x ≡ parts.Global s → IsBelow l own_layout x → In m (methods_among (script_at l.file s).traits) → OwnedSound p w m o
  of_script x s m e b h =
      let has : s < length l.file.scripts = subst (HasLayout l.file) e (part_has l x file.linked) in
      let i = script_at l.file s in
      let fits = (script_fits (sizes_of l.file) i).0 ((definitions l file.linked).scripts s no_script has) in
      let low = table_low l file.linked i.traits m fits.1 h in
      owned (naming (owners.ScriptMethod s) m) (parts.Global s) low
      (has_body p file.linked m low (of_script_run p file.linked s m has (inr h)))
      (of_script_named p file.linked s (naming (owners.ScriptMethod s) m) has (inr (among_named (owners.ScriptMethod s) i.traits m h)))
      refl (part_layout x (parts.Global s) e b) (place s (Some (scope_id s))) refl has (inside w.heap.scopes s _ (scope_made l w.heap s z.stands has))

  -- ---- what is found by a trait

  abbrev pub MemberSound : Member → Type 0
  MemberSound (members.Slot k constant) = k < length (slots_of l own_layout)
  MemberSound (members.Method m) = OwnedSound p w m o
  MemberSound (members.Getter m) = OwnedSound p w m o
  MemberSound (members.Setter m) = OwnedSound p w m o

  abbrev TraitSound : Trait → Type 0
  TraitSound t = MemberSound t.declared.member

  table_sound : (ts : List TraitInfo) (slot : ℕ) → ((m : ℕ) → In m (methods_among ts) → OwnedSound p w m o) → slot + length (flat_map (λ (t : TraitInfo). slots_in l t.body) ts) ≤ length (slots_of l own_layout) → Each TraitSound (traits_from l slot ts)
  table_sound [] slot g b = tt
  table_sound (t ∷ ts) slot g b =
      let count = length-append (slots_in l t.body) (flat_map (λ (t : TraitInfo). slots_in l t.body) ts) in
      let room : slot + length (slots_in l t.body ++ flat_map (λ (t : TraitInfo). slots_in l t.body) ts) ≤ length (slots_of l own_layout) = b in
      Each-append TraitSound (traits_named l (qname (name l.file t.name)) (members_in slot t.body)) (traits_from l (slot + length (slots_in l t.body)) ts)
      (one (qname (name l.file t.name)) t.body (λ m h. g m (in_left m (methods_in t.body) (methods_among ts) h)) (omega (arith, count, room)))
      (table_sound ts (slot + length (slots_in l t.body)) (λ m h. g m (in_right m (methods_in t.body) (methods_among ts) h)) (omega (arith, count, room)))
    where
      one : (d : DefiniteName) (t : TraitBody) → ((m : ℕ) → In m (methods_in t) → OwnedSound p w m o) → slot + length (slots_in l t) ≤ length (slots_of l own_layout) → Each TraitSound (traits_named l d (members_in slot t))
      one d (bodies.Slot id ty value constant) f c = (let one_more : slot + 1 ≤ length (slots_of l own_layout) = c in omega (arith, one_more), tt)
      one d (bodies.Class id k) f c = (let one_more : slot + 1 ≤ length (slots_of l own_layout) = c in omega (arith, one_more), tt)
      one d (bodies.Method disp m) f c = (f m (inl refl), tt)
      one d (bodies.Getter disp m) f c = (f m (inl refl), tt)
      one d (bodies.Setter disp m) f c = (f m (inl refl), tt)
      one d (bodies.Function id m) f c = tt

  caught_sound : (slot n : ℕ) → slot < length (slots_of l own_layout) → Each TraitSound (caught_trait l slot n)
  caught_sound slot n b = go (nat_eq n 0)
    where
      go : (c : Bool) → Each TraitSound (if c then [] else trait_named l (qname (name l.file n)) (members.Slot slot false) ∷ [])
      go true = tt
      go false = (b, tt)

  part_sound : (x slot : ℕ) (q : Part) → part_at l.parts x ≡ q → IsBelow l own_layout x → slot + length (own_slots l q) ≤ length (slots_of l own_layout) → Each TraitSound (own_traits_of l slot q)
  part_sound x slot (parts.Host hosts.Class) e b c = (let one_more : slot + 1 ≤ length (slots_of l own_layout) = c in omega (arith, one_more), tt)
  part_sound x slot (parts.Host hosts.Object) e b c = tt
  part_sound x slot (parts.Host hosts.Function) e b c = tt
  part_sound x slot (parts.Host hosts.Namespace) e b c = tt
  part_sound x slot (parts.Host hosts.Str) e b c = tt
  part_sound x slot (parts.Host hosts.Int) e b c = tt
  part_sound x slot (parts.Host hosts.UInt) e b c = tt
  part_sound x slot (parts.Host hosts.Number) e b c = tt
  part_sound x slot (parts.Host hosts.Boolean) e b c = tt
  part_sound x slot (parts.Host hosts.Error) e b c = tt
  part_sound x slot (parts.Host hosts.TypeError) e b c = tt
  part_sound x slot (parts.Host hosts.ReferenceError) e b c = tt
  part_sound x slot (parts.Host hosts.ArgumentError) e b c = tt
  part_sound x slot (parts.Host hosts.Array) e b c = tt
  part_sound x slot (parts.HostClassObject k) e b c = tt
  part_sound x slot (parts.Catch i j) e b c = caught_sound slot (handler_at l.file i j).var_name (let one_more : slot + 1 ≤ length (slots_of l own_layout) = c in omega (arith, one_more))
  part_sound x slot (parts.Instance k) e b c = table_sound (instance_at l.file k).traits slot (λ m h. of_instance x k m e b h) c
  part_sound x slot (parts.ClassObject k) e b c = table_sound (class_at l.file k).traits slot (λ m h. of_class x k m e b h) c
  part_sound x slot (parts.Global s) e b c = table_sound (script_at l.file s).traits slot (λ m h. of_script x s m e b h) c
  part_sound x slot (parts.Activation i) e b c =
      let has : HasLayout l.file (parts.Activation i) = subst (HasLayout l.file) e (part_has l x file.linked) in
      let test = λ (t : TraitInfo). is_not_run l.file t.body || (is_body items.Body && is_no_slot t.body) in
      let all = none_passes test (body_at l.file i).traits (or_right (list_any test []) (list_any test (body_at l.file i).traits) (traits_run l file.linked items.Body i has.0)) in
      table_sound (body_at l.file i).traits slot (λ m h. absurd (no_methods l file.linked (body_at l.file i).traits m all h)) c

  own_sound : (x : ℕ) → IsBelow l own_layout x → Each TraitSound (own l x)
  own_sound x b =
      let up_to : length (slots_of l x) ≤ length (slots_of l own_layout) = subst (λ (y : ℕ). length (slots_of l y) ≤ length (slots_of l own_layout)) b.climb (slots_up l file.linked b.steps own_layout) in
      let parts_are : length (slots_of l x) ≡ slots_under l (base_layout l x) + length (own_slots l (part_at l.parts x)) = slots_parts l file.linked x in
      part_sound x (slots_under l (base_layout l x)) (part_at l.parts x) refl b (omega (arith, up_to, parts_are))

  -- ---- the candidates

  abbrev pub CandidateSound : Candidate → Type 0
  CandidateSound (OfTrait x passed t) = MemberSound t.declared.member
  CandidateSound other = ⊥

  each_of : (x : ℕ) (passed : List ℕ) (ts : List Trait) → Each TraitSound ts → Each CandidateSound (map (OfTrait x passed) ts)
  each_of x passed [] a = tt
  each_of x passed (t ∷ ts) a = (a.0, each_of x passed ts a.1)

  along : (passed xs : List ℕ) → Each (IsBelow l own_layout) xs → Each CandidateSound (traits_after l passed xs)
  along passed [] a = tt
  along passed (x ∷ xs) a = Each-append CandidateSound (map (OfTrait x (passed ++ x ∷ [])) (own l x)) (traits_after l (passed ++ x ∷ []) xs) (each_of x (passed ++ x ∷ []) (own l x) (own_sound x a.0)) (along (passed ++ x ∷ []) xs a.1)

  way_below : (n x : ℕ) → x < n → IsBelow l own_layout x → Each (IsBelow l own_layout) (way (base_layout l) (Some x))
  way_below zero x low b = absurd (omega (arith, low))
  way_below (suc n) x low b =
      let f = falling l.file l.parts file.linked.numbering in
      subst (Each (IsBelow l own_layout)) (sym (way_some (base_layout l) f x)) (b, go (λ y less c. way_below n y (omega (arith, less, low)) c) (base_layout l x) refl (λ y e. f.falls x y e))
    where
      go : ((y : ℕ) → y < x → IsBelow l own_layout y → Each (IsBelow l own_layout) (way (base_layout l) (Some y))) → (q : Option ℕ) → base_layout l x ≡ q → ((y : ℕ) → q ≡ Some y → y < x) → Each (IsBelow l own_layout) (way (base_layout l) q)
      go more None e g = subst (Each (IsBelow l own_layout)) (sym (way_none (base_layout l))) tt
      go more (Some y) e g =
          more y (g y refl) (subst (IsBelow l own_layout) (ap (λ (q : Option ℕ). unwrap_or q 0) e) (below_above l own_layout x b))

  pub traits_sound : (from : ℕ) → IsBelow l own_layout from → Each CandidateSound (traits l own_layout from)
  traits_sound from b = along (before from (way (base_layout l) (Some own_layout))) (way (base_layout l) (Some from)) (way_below (suc from) from (omega arith) b)
