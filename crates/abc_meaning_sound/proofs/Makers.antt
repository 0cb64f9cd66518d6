-- What is given of a verified file: what makes the instances of a base.
use Rattle.std.proofs.Common.{◌≡◌, ◌≢◌, ◌⊎◌, inl, inr, ℕ, zero, suc, ◌+◌, ◌<◌, List, [], ◌∷◌, ◌++◌, length, get_or, refl, sym, ap, ◌∙◌, subst, arith}
use Rattle.std.proofs.lemmas.Bool.{false_from_ne_true}
use Rattle.std.specs.Prelude.{Bool, true, false, ltb, nat_eq, unwrap_or, slice_get, Some, None, if◌then◌else◌}
use Rattle.std.specs.declared.option.Option.{Option}
use Rattle.abc_base.specs.declared.names.HostClass.{HostClass}
use Rattle.abc_base.specs.declared.names.HostClass.TheVariants as hosts
use Rattle.abc_heap_values.specs.declared.values.ObjId.{ObjId}
use Rattle.abc_heap_values.specs.declared.values.Value.TheVariants.{Obj}
use Rattle.abc_base_graphs.specs.Graph.{Edge, Leads, Then}
use Rattle.abc_base_graphs.proofs.Searched.{leads_on}
use Rattle.abc_heap_store.specs.Heap.{object_at}
use Rattle.abc_heap_store.specs.declared.records.What.{What}
use Rattle.abc_heap_store.specs.declared.records.What.TheVariants as whats
use Rattle.abc_base_graphs.specs.Index.{first}
use Rattle.abc_link_names.specs.Instances.{instance_at}
use Rattle.abc_link_names.specs.declared.named.Named.{Named}
use Rattle.abc_link_names.specs.declared.named.Named.TheVariants as named
use Rattle.abc_objects.specs.Stands.{IsScope, NamesParts}
use Rattle.abc_objects.specs.Values.{IsObject}
use Rattle.abc_objects.proofs.Made.{part_found}
use Rattle.abc_objects.proofs.Started.{part_has}
use Rattle.abc_link_names.specs.Linked.{IsLinkedFile, LinkedFile, above, layout_of}
use Rattle.abc_link_names.specs.Numbering.{part_at}
use Rattle.abc_link_names.specs.Owners.{namings, namings_among, namings_from, namings_in, no_naming, of_class, of_instance, of_script, owner_at, owner_of}
use Rattle.abc_link_names.specs.Parts.{HasLayout, base_part, host_parent, parent}
use Rattle.abc_link_names.specs.Places.{place_of_part, place_under}
use Rattle.abc_link_names.specs.Tree.{IsBelow, up}
use Rattle.abc_link_names.specs.declared.part.LayoutId.{LayoutId}
use Rattle.abc_link_names.specs.declared.part.Part.{Part}
use Rattle.abc_link_names.specs.declared.part.Part.TheVariants as parts
use Rattle.abc_link_names.specs.declared.types.Naming.{Naming}
use Rattle.abc_link_names.specs.declared.types.Owner.{Owner}
use Rattle.abc_link_names.specs.declared.types.Owner.TheVariants as owners
use Rattle.abc_link_names.proofs.Finding.{found}
use Rattle.abc_link_names.proofs.Tree.{above_le, below_above}
use Rattle.abc_link_names.specs.Bases.{base_graph, base_named, is_interface, is_interface_named, is_some_class}
use Rattle.abc_link_names.specs.declared.items.ItemKind.TheVariants as items
use Rattle.abc_link_names.specs.declared.items.LinkRule.TheVariants as rules
use Rattle.abc_file_types.specs.declared.tables.Abc.{Abc}
use Rattle.abc_file_types.specs.declared.traits.TraitBody.{TraitBody}
use Rattle.abc_file_types.specs.declared.traits.TraitBody.TheVariants as traits
use Rattle.abc_file_types.specs.declared.traits.TraitInfo.{TraitInfo}
use Rattle.abc_verify_typing.specs.Lists.{Each}
use Rattle.abc_verify_typing.specs.Routines.{Routine, has_base, home_of, this_kind}
use Rattle.abc_verify_typing.specs.declared.home.Home.TheVariants.{Elsewhere, MakesInstances, OnInstances}
use Rattle.abc_verify_typing.proofs.Good.{good}
use Rattle.abc_verify_typing.proofs.Lists.{Each-append, Each-at}
use Rattle.abc_meaning.specs.Objects.{Place, flat_value, instances_of, place_kept_by, place, place_of_owner, statics_of}
use Rattle.abc_meaning.specs.Setting.{Setting}
use Rattle.abc_meaning.specs.World.{Went, World}
use Rattle.abc_meaning.specs.Sound.{AreClassesMade, HasClassMade, IsOfKind, PartSound, WorldSound}
use Rattle.abc_meaning_sound.specs.Given.{BaseRuns, FileGiven, MakersGiven, ScopesGiven, base_maker}
use Rattle.abc_link_names.specs.ClassBases.{BaseKnown}
use Rattle.abc_meaning_sound.proofs.Classes.{class_there, kept_is}
use Rattle.abc_meaning_sound.proofs.Lists.{there}
use Rattle.abc_meaning_sound.proofs.Filed.{routine_found}
use Rattle.abc_meaning_sound.proofs.Indexed.{first_passed, got}
use Rattle.abc_meaning_sound.proofs.Owned.{iinits}
use Rattle.abc_link_names.proofs.ClassBases.{base_edge, bases_known, named_base}

-- ---- layouts under those of a class

-- the host's, or nothing
abbrev IsHostly : Option Part → Type 0
IsHostly None = Unit {0}
IsHostly (Some (parts.Host c)) = Unit {0}
IsHostly other = ⊥

host_hostly : (c : HostClass) → IsHostly (host_parent c)
host_hostly hosts.Object = tt
host_hostly hosts.Class = tt
host_hostly hosts.Function = tt
host_hostly hosts.Namespace = tt
host_hostly hosts.Str = tt
host_hostly hosts.Int = tt
host_hostly hosts.UInt = tt
host_hostly hosts.Number = tt
host_hostly hosts.Boolean = tt
host_hostly hosts.Error = tt
host_hostly hosts.TypeError = tt
host_hostly hosts.ReferenceError = tt
host_hostly hosts.ArgumentError = tt
host_hostly hosts.Array = tt

module _ (l : LinkedFile) (linked : IsLinkedFile l) where
  -- a layout is of the instances of a class, which is the given one or stands under it
  pub record Under (y k : ℕ) : Type 0 where
    pub class : ℕ
    pub low : class < length l.file.instances
    pub part : part_at l.parts y ≡ parts.Instance class
    pub is : (class ≡ k) ⊎ Leads (base_graph l.file) class k

  pub above_at : (y : ℕ) (o : Option Part) → parent l.file (part_at l.parts y) ≡ o → above l y ≡ unwrap_or (place_under l.parts o) 0
  above_at y o e = ap (λ (q : Option Part). unwrap_or (place_under l.parts q) 0) e

  pub root_part : part_at l.parts 0 ≡ parts.Host hosts.Object
  root_part = let g = good l linked in ap (part_at l.parts) (sym g.root) ∙ (part_found l linked (parts.Host hosts.Object) tt).1

  -- what stands under the host's alone stands under no class of the file
  no_class_above : (y j : ℕ) (o : Option Part) → parent l.file (part_at l.parts y) ≡ o → IsHostly o → part_at l.parts (above l y) ≡ parts.Instance j → ⊥
  no_class_above y j None e h q =
      let zero_is : above l y ≡ 0 = above_at y None e in
      let host : part_at l.parts (above l y) ≡ parts.Host hosts.Object = ap (part_at l.parts) zero_is ∙ root_part in
      let clash : parts.Host hosts.Object ≡ parts.Instance j = sym host ∙ q in cc
  no_class_above y j (Some (parts.Host c)) e h q =
      let place_is : above l y ≡ place_of_part l.parts (parts.Host c) = above_at y (Some (parts.Host c)) e in
      let host : part_at l.parts (above l y) ≡ parts.Host c = ap (part_at l.parts) place_is ∙ found l.file l.parts linked.numbering (parts.Host c) tt in
      let clash : parts.Host c ≡ parts.Instance j = sym host ∙ q in cc
  no_class_above y j (Some (parts.HostClassObject c)) e h q = h
  no_class_above y j (Some (parts.Instance k)) e h q = h
  no_class_above y j (Some (parts.ClassObject k)) e h q = h
  no_class_above y j (Some (parts.Global s)) e h q = h
  no_class_above y j (Some (parts.Activation b)) e h q = h
  no_class_above y j (Some (parts.Catch b x)) e h q = h

  -- above the instances of a class are those of its base
  pub base_above : (y m b : ℕ) → m < length l.file.instances → part_at l.parts y ≡ parts.Instance m → base_named l.file m ≡ Some (named.Class b) → above l y ≡ (layout_of l (parts.Instance b)).0
  base_above y m b low e q = above_at y (Some (parts.Instance b)) (ap (parent l.file) e ∙ ap (λ (o : Option Named). Some (base_part o)) q)

  class_above : (y m j : ℕ) → m < length l.file.instances → part_at l.parts y ≡ parts.Instance m → part_at l.parts (above l y) ≡ parts.Instance j → base_named l.file m ≡ Some (named.Class j)
  class_above y m j low e q = go (base_named l.file m) refl (bases_known l linked m low)
    where
      hostly : (o : Option Named) → base_named l.file m ≡ o → IsHostly (Some (base_part o)) → ⊥
      hostly o f h = no_class_above y j (Some (base_part o)) (ap (parent l.file) e ∙ ap (λ (x : Option Named). Some (base_part x)) f) h q

      go : (o : Option Named) → base_named l.file m ≡ o → BaseKnown l o → o ≡ Some (named.Class j)
      go None f k = absurd (hostly None f tt)
      go (Some (named.Host c)) f k = absurd (hostly (Some (named.Host c)) f tt)
      go (Some named.Any) f k = absurd k
      go (Some named.Void) f k = absurd k
      go (Some (named.Class b)) f k =
          let here : part_at l.parts (above l y) ≡ parts.Instance b = ap (part_at l.parts) (base_above y m b low e f) ∙ (part_found l linked (parts.Instance b) k).1 in
          let clash : parts.Instance b ≡ parts.Instance j = sym here ∙ q in
          let same : b ≡ j = cc in ap (λ (x : ℕ). Some (named.Class x)) same

  under_next : (y k : ℕ) → y < length l.parts → Under (above l y) k → Under y k
  under_next y k low u = go (part_at l.parts y) refl
    where
      none : (q : Part) → part_at l.parts y ≡ q → IsHostly (parent l.file q) → Under y k
      none q e h = absurd (no_class_above y u.class (parent l.file q) (ap (parent l.file) e) h u.part)

      go : (q : Part) → part_at l.parts y ≡ q → Under y k
      go (parts.Host c) e = none (parts.Host c) e (host_hostly c)
      go (parts.HostClassObject c) e = none (parts.HostClassObject c) e tt
      go (parts.ClassObject j) e = none (parts.ClassObject j) e tt
      go (parts.Global s) e = none (parts.Global s) e tt
      go (parts.Activation b) e = none (parts.Activation b) e tt
      go (parts.Catch b x) e = none (parts.Catch b x) e tt
      go (parts.Instance m) e =
          let has : m < length l.file.instances = subst (HasLayout l.file) e (part_has l y linked) in
          let edge = base_edge l linked m u.class has (class_above y m u.class has e u.part) in
          record {
            class = m;
            low = has;
            part = e;
            is = elim u.is [
              | inl same ↦ inr (subst (Leads (base_graph l.file) m) same (Edge edge))
              | inr way ↦ inr (Then edge way)
            ];
          }

  under_steps : (s y k : ℕ) → y < length l.parts → k < length l.file.instances → up l s y ≡ (layout_of l (parts.Instance k)).0 → Under y k
  under_steps zero y k low has e = record { class = k; low = has; part = ap (part_at l.parts) e ∙ (part_found l linked (parts.Instance k) has).1; is = inl refl }
  under_steps (suc s) y k low has e =
      let le = above_le l linked y in
      under_next y k low (under_steps s (above l y) k (omega (arith, le, low)) has e)

  pub under_class : (y k : ℕ) → y < length l.parts → k < length l.file.instances → IsBelow l y (layout_of l (parts.Instance k)).0 → Under y k
  under_class y k low has b = under_steps b.steps y k low has b.climb

  -- a base is no interface
  pub plain_base : (k b : ℕ) → k < length l.file.instances → base_named l.file k ≡ Some (named.Class b) → is_interface l.file b ≡ false
  plain_base k b low e = sym (ap (is_interface_named l.file) e) ∙ false_from_ne_true (is_interface_named l.file (base_named l.file k)) (linked.rules rules.BaseIsInterface (record { kind = items.Class; index = k }) (record { within = low }))

-- ---- an initializer of instances is of a class that there is

module _ (v : Abc) where
  abbrev Low : Naming → Type 0
  Low n = (k : ℕ) → n.owner ≡ owners.Iinit k → k < length v.instances

  none_in : (o : Owner) (t : TraitBody) → ((k : ℕ) → o ≡ owners.Iinit k → ⊥) → Each Low (namings_in o t)
  none_in o (traits.Slot id ty value constant) g = tt
  none_in o (traits.Method disp m) g = (λ k e. absurd (g k e), tt)
  none_in o (traits.Getter disp m) g = (λ k e. absurd (g k e), tt)
  none_in o (traits.Setter disp m) g = (λ k e. absurd (g k e), tt)
  none_in o (traits.Class id j) g = tt
  none_in o (traits.Function id m) g = (λ k e. absurd (g k e), tt)

  none_among : (o : Owner) (ts : List TraitInfo) → ((k : ℕ) → o ≡ owners.Iinit k → ⊥) → Each Low (namings_among o ts)
  none_among o [] g = tt
  none_among o (t ∷ ts) g = Each-append Low (namings_in o t.body) (namings_among o ts) (none_in o t.body g) (none_among o ts g)

  all_from : {A : Type 0} (of : ℕ → A → List Naming) (k : ℕ) (xs : List A) → ((j : ℕ) (a : A) → j < k + length xs → Each Low (of j a)) → Each Low (namings_from of k xs)
  all_from of k [] g = tt
  all_from of k (x ∷ xs) g = Each-append Low (of k x) (namings_from of (k + 1) xs) (g k x (omega arith)) (all_from of (k + 1) xs (λ j a b. g j a (omega (arith, b))))

  all_low : Each Low (namings v)
  all_low =
      Each-append Low (namings_from of_instance 0 v.instances ++ namings_from of_class 0 v.classes) (namings_from of_script 0 v.scripts)
      (Each-append Low (namings_from of_instance 0 v.instances) (namings_from of_class 0 v.classes)
      (all_from of_instance 0 v.instances (λ j a b. (λ k e. let same : j ≡ k = cc in omega (arith, b, same), none_among (owners.Instance j) a.traits (λ k e. cc))))
      (all_from of_class 0 v.classes (λ j a b. (λ k e. absurd cc, none_among (owners.Static j) a.traits (λ k e. cc)))))
      (all_from of_script 0 v.scripts (λ j a b. (λ k e. absurd cc, none_among (owners.ScriptMethod j) a.traits (λ k e. cc))))

  pub iinit_low : (n k : ℕ) → owner_of v n ≡ owners.Iinit k → k < length v.instances
  iinit_low n k e = go (first (λ (x : Naming). nat_eq n x.method) (namings v)) refl e
    where
      go : (o : Option ℕ) → first (λ (x : Naming). nat_eq n x.method) (namings v) ≡ o → owner_at (namings v) o ≡ owners.Iinit k → k < length v.instances
      go None q f = absurd cc
      go (Some b) q f =
          let r = first_passed (λ (x : Naming). nat_eq n x.method) (namings v) 0 b q in
          let is = r.is in
          let same : b ≡ r.place = omega (arith, is) in
          let key : get_or (namings v) b no_naming ≡ r.key = ap (λ (i : ℕ). get_or (namings v) i no_naming) same ∙ got (namings v) r.place r.key no_naming r.at in
          Each-at Low (namings v) r.place r.key all_low r.at k (sym (ap (λ (x : Naming). x.owner) key) ∙ f)

module _ (p : Setting) (file : FileGiven p) (scopes : ScopesGiven p) where
  -- ---- what a class object keeps

  pub record Kept (w : World) (which : What → Option Place) (k : ℕ) : Type 0 where
    pub place : Place
    pub kept : place_kept_by which k w ≡ Went w place
    pub home : place.home < length p.linked.file.scripts
    pub saved : IsScope w.heap place.saved

  pub class_keeps : (w : World) (k : ℕ) → WorldSound p w → k < length p.linked.file.instances → HasClassMade w.heap k → Kept w instances_of k × Kept w statics_of k
  class_keeps w k z low made =
      let found : flat_value (slice_get w.heap.classes k) ≡ Some made.0 = ap flat_value made.1 in
      let c = class_there p file scopes w k made.0 z low found in
      let ob = object_at w.heap.objects made.0.0 in
      let at = there w.heap.objects made.0.0 c.inside in
      let names : NamesParts p.linked w.heap (whats.ClassObject k c.home c.statics c.instances) = subst (NamesParts p.linked w.heap) c.what (z.stands.objects made.0.0 ob at).what in (
        record { place = place c.home (Some c.instances); kept = kept_is instances_of k w made.0 ob (place c.home (Some c.instances)) found at (ap instances_of c.what); home = names.1; saved = names.3 },
        record { place = place c.home c.statics; kept = kept_is statics_of k w made.0 ob (place c.home c.statics) found at (ap statics_of c.what); home = names.1; saved = names.2 },
      )

  -- ---- the maker of the base

  has_some : (k : ℕ) → has_base p.linked k ≡ true → (instance_at p.linked.file k).super_name ≢ 0
  has_some k e q = let no : has_base p.linked k ≡ false = ap (ltb 0) q in cc

  maker : (w : World) (k : ℕ) (o : ObjId) → WorldSound p w → k < length p.linked.file.instances → has_base p.linked k ≡ true → IsObject w.heap o → IsBelow p.linked (object_at w.heap.objects o.0).layout (layout_of p.linked (parts.Instance k)).0 → BaseRuns p w o (base_named p.linked.file k)
  maker w k o z low has inner below = go (base_named p.linked.file k) refl (named_base p.linked file.linked k low (has_some k has))
    where
      go : (b : Option Named) → base_named p.linked.file k ≡ b → is_some_class b ≡ true → BaseRuns p w o b
      go None e s = absurd cc
      go (Some named.Any) e s = absurd cc
      go (Some named.Void) e s = absurd cc
      go (Some (named.Host c)) e s = tt
      go (Some (named.Class b)) e s =
          let l = p.linked in
          let ob = object_at w.heap.objects o.0 in
          let at = there w.heap.objects o.0 inner in
          let low_b : b < length l.file.instances = subst (BaseKnown l) e (bases_known l file.linked k low) in
          let own = iinits p file.linked b low_b (plain_base l file.linked k b low e) in
          let u = under_class l file.linked ob.layout k (z.stands.objects o.0 ob at).layout low below in
          let made : AreClassesMade l w.heap u.class = (subst (PartSound l w.heap) u.part (z.objects o.0 ob at).part).1 in
          let edge = base_edge l file.linked k b low e in
          let way : Leads (base_graph l.file) u.class b = elim u.is [ inl same ↦ subst (λ (x : ℕ). Leads (base_graph l.file) x b) (sym same) (Edge edge) | inr up ↦ leads_on (base_graph l.file) u.class k b up edge ] in
          let kept = (class_keeps w b z low_b (made.bases b way)).0 in
          let part = (part_found l file.linked (parts.Instance k) low).1 in
          let above_is : above l (layout_of l (parts.Instance k)).0 ≡ (layout_of l (parts.Instance b)).0 = base_above l file.linked (layout_of l (parts.Instance k)).0 k b low part e in
          let under : IsBelow l ob.layout (layout_of l (parts.Instance b)).0 = subst (IsBelow l ob.layout) above_is (below_above l ob.layout (layout_of l (parts.Instance k)).0 below) in
          record {
            body = own.body;
            place = kept.place;
            kept = ap (λ (x : Owner). place_of_owner x w) own.owner_is ∙ kept.kept;
            home = kept.home;
            saved = kept.saved;
            this = subst (λ (x : Owner). IsOfKind l w.heap (this_kind l x) (Obj o)) (sym own.owner_is) (record { exists = inner; kind = (inner, under) });
          }

  by_home : (w : World) (x : LayoutId) (o : ObjId) (n : ℕ) (owner : Owner) → owner_of p.linked.file n ≡ owner → WorldSound p w → home_of p.linked owner ≡ MakesInstances x → IsObject w.heap o → IsBelow p.linked (object_at w.heap.objects o.0).layout x.0 → BaseRuns p w o (base_maker p owner)
  by_home w x o n owners.Free q z e inner below = absurd cc
  by_home w x o n (owners.ScriptInit s) q z e inner below = absurd cc
  by_home w x o n (owners.ScriptMethod s) q z e inner below = absurd cc
  by_home w x o n (owners.ClassInit k) q z e inner below = absurd cc
  by_home w x o n (owners.Static k) q z e inner below = absurd cc
  by_home w x o n (owners.Instance k) q z e inner below = go (has_base p.linked k) e
    where
      go : (b : Bool) → (if b then OnInstances (layout_of p.linked (parts.Instance k)) else Elsewhere) ≡ MakesInstances x → BaseRuns p w o None
      go true f = absurd cc
      go false f = absurd cc
  by_home w x o n (owners.Iinit k) q z e inner below = go (has_base p.linked k) refl e
    where
      go : (b : Bool) → has_base p.linked k ≡ b → (if b then MakesInstances (layout_of p.linked (parts.Instance k)) else Elsewhere) ≡ MakesInstances x → BaseRuns p w o (base_named p.linked.file k)
      go true has f = let same : layout_of p.linked (parts.Instance k) ≡ x = cc in maker w k o z (iinit_low p.linked.file n k q) has inner (subst (λ (y : LayoutId). IsBelow p.linked (object_at w.heap.objects o.0).layout y.0) (sym same) below)
      go false has f = absurd cc

  pub makers_given : MakersGiven p
  makers_given = record {
    makers = λ w n r x o z e home inner below.
        let b = routine_found p file.linked n r e in
        let at : home_of p.linked (owner_of p.linked.file n) ≡ MakesInstances x = sym (ap (λ (m : ℕ). home_of p.linked (owner_of p.linked.file m)) b.is.method) ∙ sym (ap (λ (y : Routine). y.home) b.routine_is) ∙ home in
        by_home w x o n (owner_of p.linked.file n) refl z at inner below;
  }
