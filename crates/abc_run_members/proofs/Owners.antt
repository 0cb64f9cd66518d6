-- What owns a method is there: the method is one of the file, and so is where its owner keeps that it runs.
use Rattle.std.proofs.Common.{◌≡◌, ◌⊎◌, inl, inr, ℕ, suc, ◌+◌, ◌<◌, Bool, true, false, List, [], ◌∷◌, ◌++◌, length, get_or, nat_eq, eqb-true, refl, sym, ap, ◌∙◌, subst, arith}
use Rattle.std.proofs.lemmas.Option.{get_or_from_slice_get, slice_get_within}
use Rattle.std.specs.Prelude.{All, cond, slice_get, Some, None}
use Rattle.std.specs.declared.option.Option.{Option}
use Rattle.abc_heap_values.specs.declared.values.ObjId.{ObjId}
use Rattle.abc_tables.proofs.ClassesFit.{class_fits, instance_fits, script_fits}
use Rattle.abc_tables.proofs.Combined.{position_fits}
use Rattle.abc_tables.proofs.DefinitionsFit.{AreDefinitions, definitions_fit}
use Rattle.abc_tables.proofs.FileFits.{file_fits, tables_fit}
use Rattle.abc_tables.proofs.TraitsFit.{HasFields, fields_fit, trait_fits, traits_fit}
use Rattle.abc_tables.specs.Fitting.{FitTraits, FitsClass, FitsInstance, FitsScript, FitsTrait}
use Rattle.abc_heap_store.specs.Heap.{Heap, Object}
use Rattle.abc_heap_store.specs.Scopes.{scope_id}
use Rattle.abc_heap_store.specs.declared.records.What.{What}
use Rattle.abc_heap_store.specs.declared.records.What.TheVariants as whats
use Rattle.abc_base_graphs.specs.Index.{first, first_from}
use Rattle.abc_objects.specs.Stands.{IsScope, NamesParts, StandsOver}
use Rattle.abc_objects.specs.Values.{IsObject}
use Rattle.abc_objects.proofs.Opened.{scope_made}
use Rattle.abc_link_names.specs.Linked.{IsLinkedFile, LinkedFile}
use Rattle.abc_link_names.specs.Owners.{namings, namings_among, namings_from, namings_in, no_naming, of_class, of_instance, of_script, owner_at, owner_of}
use Rattle.abc_link_names.specs.declared.types.Naming.{Naming}
use Rattle.abc_link_names.specs.declared.types.Owner.{Owner}
use Rattle.abc_link_names.specs.declared.types.Owner.TheVariants as owners
use Rattle.abc_file_types.specs.Classes.{sizes_of}
use Rattle.abc_file_types.specs.declared.classes.ClassInfo.{ClassInfo}
use Rattle.abc_file_types.specs.declared.classes.Instance.{Instance}
use Rattle.abc_file_types.specs.declared.classes.Script.{Script}
use Rattle.abc_file_types.specs.declared.traits.TraitBody.{TraitBody}
use Rattle.abc_file_types.specs.declared.traits.TraitBody.TheVariants as traits
use Rattle.abc_file_types.specs.declared.traits.TraitInfo.{TraitInfo}
use Rattle.abc_verify_typing.specs.Lists.{Each}
use Rattle.abc_verify_typing.proofs.Lists.{Each-append, Each-at}
use Rattle.abc_meaning.specs.Objects.{Place, class_object, instances_of, place_kept_by, place, place_of_owner, statics_of}
use Rattle.abc_meaning.specs.World.{Went, World, and_then, object_named, some, the, ◌>>=◌}

-- ---- lists

all_each : {X : Type 0} (P : X → Type 0) (xs : List X) → All P xs → Each P xs
all_each P [] h = tt
all_each P (x ∷ xs) h = (h 0 x (omega arith), all_each P xs (λ k d b. h (suc k) d (omega (arith, b))))

passed_at : {K : Type 0} (test : K → Bool) (n : ℕ) (xs : List K) (k : ℕ) → first_from test n xs ≡ Some k → (p : ℕ) × (x : K) × (k ≡ n + p) × (slice_get xs p ≡ Some x) × (test x ≡ true)
passed_at test n [] k e = absurd cc
passed_at {K = K} test n (x ∷ xs) k e = go (λ q. passed_at test (n + 1) xs k q) (test x) refl e
  where
    go : (first_from test (n + 1) xs ≡ Some k → (p : ℕ) × (y : K) × (k ≡ n + 1 + p) × (slice_get xs p ≡ Some y) × (test y ≡ true)) → (b : Bool) → test x ≡ b → cond b (Some n) (first_from test (n + 1) xs) ≡ Some k → (p : ℕ) × (y : K) × (k ≡ n + p) × (slice_get (x ∷ xs) p ≡ Some y) × (test y ≡ true)
    go more true t q = let same : n ≡ k = cc in (0, x, omega (arith, same), refl, t)
    go more false t q =
        let r = more q in
        let is : k ≡ n + 1 + r.0 = r.2 in
        (suc r.0, r.1, omega (arith, is), r.3, r.4)

-- ---- namings

-- what an owner is of is there
abbrev pub OwnerThere : LinkedFile → Owner → Type 0
OwnerThere l owners.Free = Unit {0}
OwnerThere l (owners.ScriptInit s) = s < length l.file.scripts
OwnerThere l (owners.ScriptMethod s) = s < length l.file.scripts
OwnerThere l (owners.ClassInit k) = Unit {0}
OwnerThere l (owners.Static k) = Unit {0}
OwnerThere l (owners.Iinit k) = Unit {0}
OwnerThere l (owners.Instance k) = Unit {0}

pub record NamingThere (l : LinkedFile) (n : Naming) : Type 0 where
  pub method : n.method < length l.file.methods
  pub owner : OwnerThere l n.owner

module _ (l : LinkedFile) (linked : IsLinkedFile l) where
  definitions : AreDefinitions l.file
  definitions = (definitions_fit l.file).0 ((tables_fit l.file).0 ((file_fits l.file).0 linked.fits).1).1

  method_low : (o : Owner) (t : TraitBody) → HasFields (sizes_of l.file) t → OwnerThere l o → Each (NamingThere l) (namings_in o t)
  method_low o (traits.Slot id ty value constant) f there = tt
  method_low o (traits.Class id k) f there = tt
  method_low o (traits.Method disp m) f there = (record { method = ((position_fits (sizes_of l.file).methods m).0 f.1).0; owner = there }, tt)
  method_low o (traits.Getter disp m) f there = (record { method = ((position_fits (sizes_of l.file).methods m).0 f.1).0; owner = there }, tt)
  method_low o (traits.Setter disp m) f there = (record { method = ((position_fits (sizes_of l.file).methods m).0 f.1).0; owner = there }, tt)
  method_low o (traits.Function id m) f there = (record { method = ((position_fits (sizes_of l.file).methods m).0 f.1).0; owner = there }, tt)

  each_low : (o : Owner) (ts : List TraitInfo) → OwnerThere l o → Each (FitsTrait (sizes_of l.file)) ts → Each (NamingThere l) (namings_among o ts)
  each_low o [] there a = tt
  each_low o (t ∷ ts) there a =
      Each-append (NamingThere l) (namings_in o t.body) (namings_among o ts) (method_low o t.body ((fields_fit (sizes_of l.file) t.body).0 ((trait_fits (sizes_of l.file) t).0 a.0).2) there) (each_low o ts there a.1)

  table_low : (o : Owner) (ts : List TraitInfo) → OwnerThere l o → FitTraits (sizes_of l.file) ts → Each (NamingThere l) (namings_among o ts)
  table_low o ts there f = each_low o ts there (all_each (FitsTrait (sizes_of l.file)) ts ((traits_fit (sizes_of l.file) ts).0 f).1)

  all_low : {A : Type 0} (of : ℕ → A → List Naming) (k : ℕ) (xs : List A) → ((i : ℕ) (x : A) → slice_get xs i ≡ Some x → Each (NamingThere l) (of (k + i) x)) → Each (NamingThere l) (namings_from of k xs)
  all_low of k [] g = tt
  all_low of k (x ∷ xs) g =
      let here : k + 0 ≡ k = omega arith in
      Each-append (NamingThere l) (of k x) (namings_from of (k + 1) xs) (subst (λ (j : ℕ). Each (NamingThere l) (of j x)) here (g 0 x refl))
      (all_low of (k + 1) xs (λ i y e. let next : k + suc i ≡ (k + 1) + i = omega arith in subst (λ (j : ℕ). Each (NamingThere l) (of j y)) next (g (suc i) y e)))

  at_place : {X : Type 0} (P : X → Type 0) (xs : List X) (i : ℕ) (x : X) → All P xs → slice_get xs i ≡ Some x → P x
  at_place P xs i x a e = subst P (get_or_from_slice_get xs i x x e) (a i x (slice_get_within xs i x e))

  instance_low : (k : ℕ) (i : Instance) → slice_get l.file.instances k ≡ Some i → Each (NamingThere l) (of_instance k i)
  instance_low k i e =
      let fits = (instance_fits (sizes_of l.file) i).0 (at_place (FitsInstance (sizes_of l.file)) l.file.instances k i definitions.instances e) in
      (record { method = ((position_fits (sizes_of l.file).methods i.iinit).0 fits.5).0; owner = tt }, table_low (owners.Instance k) i.traits tt fits.6)

  class_low : (k : ℕ) (c : ClassInfo) → slice_get l.file.classes k ≡ Some c → Each (NamingThere l) (of_class k c)
  class_low k c e =
      let fits = (class_fits (sizes_of l.file) c).0 (at_place (FitsClass (sizes_of l.file)) l.file.classes k c definitions.classes e) in
      (record { method = ((position_fits (sizes_of l.file).methods c.cinit).0 fits.0).0; owner = tt }, table_low (owners.Static k) c.traits tt fits.1)

  script_low : (s : ℕ) (x : Script) → slice_get l.file.scripts s ≡ Some x → Each (NamingThere l) (of_script s x)
  script_low s x e =
      let fits = (script_fits (sizes_of l.file) x).0 (at_place (FitsScript (sizes_of l.file)) l.file.scripts s x definitions.scripts e) in
      let there = slice_get_within l.file.scripts s x e in
      (record { method = ((position_fits (sizes_of l.file).methods x.init).0 fits.0).0; owner = there }, table_low (owners.ScriptMethod s) x.traits there fits.1)

  from_zero : {A : Type 0} (of : ℕ → A → List Naming) (xs : List A) → ((i : ℕ) (x : A) → slice_get xs i ≡ Some x → Each (NamingThere l) (of i x)) → Each (NamingThere l) (namings_from of 0 xs)
  from_zero of xs g = all_low of 0 xs (λ i x e. let same : i ≡ 0 + i = omega arith in subst (λ (j : ℕ). Each (NamingThere l) (of j x)) same (g i x e))

  namings_there : Each (NamingThere l) (namings l.file)
  namings_there =
      Each-append (NamingThere l) (namings_from of_instance 0 l.file.instances ++ namings_from of_class 0 l.file.classes) (namings_from of_script 0 l.file.scripts)
      (Each-append (NamingThere l) (namings_from of_instance 0 l.file.instances) (namings_from of_class 0 l.file.classes) (from_zero of_instance l.file.instances instance_low) (from_zero of_class l.file.classes class_low))
      (from_zero of_script l.file.scripts script_low)

  -- a method that has an owner is one of the file, and what its owner is of is there
  pub owned_there : (m : ℕ) → (owner_of l.file m ≡ owners.Free) ⊎ ((m < length l.file.methods) × OwnerThere l (owner_of l.file m))
  owned_there m = go (first (λ (n : Naming). nat_eq m n.method) (namings l.file)) refl
    where
      go : (r : Option ℕ) → first (λ (n : Naming). nat_eq m n.method) (namings l.file) ≡ r → (owner_at (namings l.file) r ≡ owners.Free) ⊎ ((m < length l.file.methods) × OwnerThere l (owner_at (namings l.file) r))
      go None e = inl refl
      go (Some k) e =
          let r = passed_at (λ (n : Naming). nat_eq m n.method) 0 (namings l.file) k e in
          let is : k ≡ 0 + r.0 = r.2 in
          let place : k ≡ r.0 = omega (arith, is) in
          let there = Each-at (NamingThere l) (namings l.file) r.0 r.1 namings_there r.3 in
          let named : get_or (namings l.file) k no_naming ≡ r.1 = ap (λ (p : ℕ). get_or (namings l.file) p no_naming) place ∙ get_or_from_slice_get (namings l.file) r.0 r.1 no_naming r.3 in
          inr (
            subst (λ (n : ℕ). n < length l.file.methods) (sym (eqb-true m r.1.method r.4)) there.method,
            subst (λ (n : Naming). OwnerThere l n.owner) (sym named) there.owner,
          )

-- ---- where it runs

abbrev pub PlaceThere : LinkedFile → Heap → Place → Type 0
PlaceThere l h at = (at.home < length l.file.scripts) × IsScope h at.saved

statics_there : (l : LinkedFile) (h : Heap) (what : What) (at : Place) → NamesParts l h what → statics_of what ≡ Some at → PlaceThere l h at
statics_there l h (whats.ClassObject k s statics instances) at n e = let same : place s statics ≡ at = cc in subst (PlaceThere l h) same (n.1, n.2)
statics_there l h other at n e = absurd cc

instances_there : (l : LinkedFile) (h : Heap) (what : What) (at : Place) → NamesParts l h what → instances_of what ≡ Some at → PlaceThere l h at
instances_there l h (whats.ClassObject k s statics instances) at n e = let same : place s (Some instances) ≡ at = cc in subst (PlaceThere l h) same (n.1, n.3)
instances_there l h other at n e = absurd cc

kept_there : (l : LinkedFile) (w : World) (which : What → Option Place) (k : ℕ) (at : Place) → StandsOver l w.heap
    → ((what : What) (here : Place) → NamesParts l w.heap what → which what ≡ Some here → PlaceThere l w.heap here) → place_kept_by which k w ≡ Went w at → PlaceThere l w.heap at
kept_there l w which k at over f e = class_of (class_object k w) e
  where
    at_what : (ob : Object) (r : Option Place) → NamesParts l w.heap ob.what → which ob.what ≡ r → some r w ≡ Went w at → PlaceThere l w.heap at
    at_what ob None n q g = absurd cc
    at_what ob (Some here) n q g = let same : here ≡ at = cc in subst (PlaceThere l w.heap) same (f ob.what here n q)

    of_object : (o : ObjId) (r : Option Object) → slice_get w.heap.objects o.0 ≡ r → and_then (some r w) (λ ob. some (which ob.what)) ≡ Went w at → PlaceThere l w.heap at
    of_object o None q g = absurd cc
    of_object o (Some ob) q g = at_what ob (which ob.what) (over.objects o.0 ob q).what refl g

    class_of : (r : Option ObjId) → and_then (some r w) (λ o. the (object_named o) >>= λ ob. some (which ob.what)) ≡ Went w at → PlaceThere l w.heap at
    class_of None g = absurd cc
    class_of (Some o) g = of_object o (object_named o w) refl g

place_there : (l : LinkedFile) (w : World) (o : Owner) (at : Place) → StandsOver l w.heap → OwnerThere l o → place_of_owner o w ≡ Went w at → PlaceThere l w.heap at
place_there l w owners.Free at over there e = absurd cc
place_there l w (owners.ScriptInit s) at over there e = let same : place s None ≡ at = cc in subst (PlaceThere l w.heap) same (there, tt)
place_there l w (owners.ScriptMethod s) at over there e =
    let same : place s (Some (scope_id s)) ≡ at = cc in
    subst (PlaceThere l w.heap) same (there, slice_get_within w.heap.scopes s _ (scope_made l w.heap s over there))
place_there l w (owners.ClassInit k) at over there e = kept_there l w statics_of k at over (statics_there l w.heap) e
place_there l w (owners.Static k) at over there e = kept_there l w statics_of k at over (statics_there l w.heap) e
place_there l w (owners.Iinit k) at over there e = kept_there l w instances_of k at over (instances_there l w.heap) e
place_there l w (owners.Instance k) at over there e = kept_there l w instances_of k at over (instances_there l w.heap) e

-- a function that is bound to an object names what is there
pub closure_there : (l : LinkedFile) (w : World) (owner : Owner) (m : ℕ) (at : Place) (o : ObjId) → StandsOver l w.heap → IsObject w.heap o → owner ≡ owner_of l.file m → place_of_owner owner w ≡ Went w at
    → NamesParts l w.heap (whats.Closure m at.home at.saved (Some o))
closure_there l w owner m at o over inner is kept = elim (owned_there l over.linked m) [
  | inl free ↦
      let gone : place_of_owner owners.Free w ≡ Went w at = subst (λ (x : Owner). place_of_owner x w ≡ Went w at) (is ∙ free) kept in
      absurd cc
  | inr h ↦
      let there = place_there l w owner at over (subst (OwnerThere l) (sym is) h.1) kept in
      (h.0, there.0, there.1, inner)
]
