-- What is given of a verified file: what is named is owned by what names it, and has a body where it is run.
use Rattle.std.proofs.Common.{◌≡◌, ◌≢◌, inl, inr, ℕ, zero, suc, ◌+◌, ◌<◌, ◌≤◌, List, [], ◌∷◌, ◌++◌, length, map, get_or, refl, sym, ap, ◌∙◌, subst, arith}
use Rattle.std.proofs.lemmas.Bool.{false_from_ne_true, eq-eqb, lt-ltb, ltb-false}
use Rattle.std.proofs.lemmas.List.{map-append}
use Rattle.std.proofs.lemmas.List.Sums.{sum_by-append, sum_by-cons}
use Rattle.std.specs.Prelude.{Bool, true, false, ◌&&◌, cond, count_by, nat_eq, nat_lt, slice_get, Some, if◌then◌else◌}
use Rattle.std.specs.List.{flat_map}
use Rattle.abc_tables.proofs.ClassesFit.{class_fits, instance_fits, script_fits}
use Rattle.abc_tables.proofs.Combined.{position_fits}
use Rattle.abc_base_graphs.specs.Index.{first_from}
use Rattle.abc_link_names.specs.Instances.{instance_at, no_instance}
use Rattle.abc_link_names.specs.Linked.{IsLinkedFile}
use Rattle.abc_link_names.specs.Owners.{namings, namings_among, namings_from, namings_in, no_naming, of_class, of_instance, of_script, owner_at, owner_of}
use Rattle.abc_link_names.specs.declared.types.Naming.{Naming}
use Rattle.abc_link_names.specs.declared.types.Owner.{Owner}
use Rattle.abc_link_names.specs.declared.types.Owner.TheVariants as owners
use Rattle.abc_link_names.specs.Bases.{is_interface}
use Rattle.abc_link_names.specs.Methods.{breaks_no_body, breaks_owned_twice, methods_among, methods_in, methods_named, methods_run, methods_with_bodies, of_body, run_of_instance, times_named}
use Rattle.abc_link_names.specs.Methods as rule
use Rattle.abc_link_names.specs.PartsByNumber.{class_at, no_class, no_script, script_at}
use Rattle.abc_link_names.specs.declared.items.ItemKind.TheVariants as items
use Rattle.abc_link_names.specs.declared.items.LinkRule.TheVariants as rules
use Rattle.abc_file_types.specs.Classes.{sizes_of}
use Rattle.abc_file_types.specs.declared.tables.Abc.{Abc}
use Rattle.abc_file_types.specs.declared.traits.TraitBody.{TraitBody}
use Rattle.abc_file_types.specs.declared.traits.TraitBody.TheVariants as traits
use Rattle.abc_file_types.specs.declared.traits.TraitInfo.{TraitInfo}
use Rattle.abc_verify_typing.specs.Routines.{routine}
use Rattle.abc_verify_typing.specs.Typing.{In}
use Rattle.abc_verify_typing.proofs.Member.{in_left, in_right}
use Rattle.abc_meaning.specs.Setting.{Setting, routine_in}
use Rattle.abc_meaning_sound.specs.Given.{HasBody, IsOwned}
use Rattle.abc_meaning_sound.proofs.Indexed.{first_passed, first_there, got, is_at}
use Rattle.abc_meaning_sound.proofs.Filed.{definitions}

-- ---- counts

count_cons : {X : Type 0} (test : X → Bool) (x : X) (xs : List X) → count_by test (x ∷ xs) ≡ cond (test x) 1 0 + count_by test xs
count_cons test x xs = sum_by-cons (λ y. cond (test y) 1 0) x xs

count_append : {X : Type 0} (test : X → Bool) (xs ys : List X) → count_by test (xs ++ ys) ≡ count_by test xs + count_by test ys
count_append test xs ys = sum_by-append (λ y. cond (test y) 1 0) xs ys

count_map : (m : ℕ) (ns : List Naming) → count_by (nat_eq m) (map (λ (n : Naming). n.method) ns) ≡ count_by (λ (n : Naming). nat_eq m n.method) ns
count_map m [] = refl
count_map m (n ∷ ns) =
    count_cons (nat_eq m) n.method (map (λ (x : Naming). x.method) ns) ∙ ap (λ (k : ℕ). cond (nat_eq m n.method) 1 0 + k) (count_map m ns) ∙ sym (count_cons (λ (x : Naming). nat_eq m x.method) n ns)

one_counted : {X : Type 0} (test : X → Bool) (xs : List X) (i : ℕ) (x : X) → slice_get xs i ≡ Some x → test x ≡ true → 1 ≤ count_by test xs
one_counted test [] i x e t = absurd cc
one_counted test (y ∷ ys) zero x e t =
    let same : y ≡ x = cc in
    let u : cond {A = ℕ} (test y) 1 0 ≡ 1 = ap (λ z. cond {A = ℕ} (test z) 1 0) same ∙ ap (λ (b : Bool). cond {A = ℕ} b 1 0) t in
    let c = count_cons test y ys in
    omega (arith, u, c)
one_counted test (y ∷ ys) (suc i) x e t =
    let h = one_counted test ys i x e t in
    let c = count_cons test y ys in
    omega (arith, h, c)

-- what passes a test once passes it at one place
same_place : {X : Type 0} (test : X → Bool) (xs : List X) (i j : ℕ) (x y : X) → count_by test xs ≤ 1 → slice_get xs i ≡ Some x → test x ≡ true → slice_get xs j ≡ Some y → test y ≡ true → i ≡ j
same_place test [] i j x y c e t f u = absurd cc
same_place test (z ∷ zs) zero zero x y c e t f u = refl
same_place test (z ∷ zs) zero (suc j) x y c e t f u =
    let h = one_counted test zs j y f u in
    let same : z ≡ x = cc in
    let p : cond {A = ℕ} (test z) 1 0 ≡ 1 = ap (λ w. cond {A = ℕ} (test w) 1 0) same ∙ ap (λ (b : Bool). cond {A = ℕ} b 1 0) t in
    let d = count_cons test z zs in
    absurd (omega (arith, c, h, p, d))
same_place test (z ∷ zs) (suc i) zero x y c e t f u =
    let h = one_counted test zs i x e t in
    let same : z ≡ y = cc in
    let p : cond {A = ℕ} (test z) 1 0 ≡ 1 = ap (λ w. cond {A = ℕ} (test w) 1 0) same ∙ ap (λ (b : Bool). cond {A = ℕ} b 1 0) u in
    let d = count_cons test z zs in
    absurd (omega (arith, c, h, p, d))
same_place test (z ∷ zs) (suc i) (suc j) x y c e t f u =
    let d = count_cons test z zs in
    ap suc (same_place test zs i j x y (omega (arith, c, d)) e t f u)

counted_first : {X : Type 0} (test : X → Bool) (xs : List X) (n : ℕ) → count_by test xs ≢ 0 → (k : ℕ) × (first_from test n xs ≡ Some k)
counted_first test [] n c = absurd (c refl)
counted_first {X = X} test (x ∷ xs) n c = go (λ d. counted_first test xs (n + 1) d) (test x) refl
  where
    go : ((count_by test xs ≢ 0) → (k : ℕ) × (first_from test (n + 1) xs ≡ Some k)) → (b : Bool) → test x ≡ b → (k : ℕ) × ((if b then Some n else first_from test (n + 1) xs) ≡ Some k)
    go more true t = (n, refl)
    go more false t =
        let u : cond {A = ℕ} (test x) 1 0 ≡ 0 = ap (λ (b : Bool). cond {A = ℕ} b 1 0) t in
        let s = count_cons test x xs in
        more (λ z. c (omega (arith, s, u, z)))

-- ---- members

in_place : {X : Type 0} (x : X) (xs : List X) → In x xs → (i : ℕ) × (slice_get xs i ≡ Some x)
in_place x [] h = absurd h
in_place x (y ∷ ys) (inl e) = (0, ap Some (sym e))
in_place x (y ∷ ys) (inr h) = let r = in_place x ys h in (suc r.0, r.1)

self_is : (n : ℕ) → nat_eq n n ≡ true
self_is n = eq-eqb n n refl

in_count : (m : ℕ) (xs : List ℕ) → In m xs → 1 ≤ count_by (nat_eq m) xs
in_count m xs h = let r = in_place m xs h in one_counted (nat_eq m) xs r.0 m r.1 (self_is m)

in_flat : {X Y : Type 0} (y : Y) (f : X → List Y) (xs : List X) (i : ℕ) (x : X) → slice_get xs i ≡ Some x → In y (f x) → In y (flat_map f xs)
in_flat y f [] i x e h = absurd cc
in_flat y f (z ∷ zs) zero x e h = let same : x ≡ z = cc in in_left y (f z) (flat_map f zs) (subst (λ w. In y (f w)) same h)
in_flat y f (z ∷ zs) (suc i) x e h = in_right y (f z) (flat_map f zs) (in_flat y f zs i x e h)

in_from : {A : Type 0} (n : Naming) (of : ℕ → A → List Naming) (k : ℕ) (xs : List A) (i : ℕ) (x : A) → slice_get xs i ≡ Some x → In n (of (k + i) x) → In n (namings_from of k xs)
in_from n of k [] i x e h = absurd cc
in_from n of k (y ∷ ys) zero x e h =
    let same : x ≡ y = cc in
    let here : k + 0 ≡ k = omega arith in
    in_left n (of k y) (namings_from of (k + 1) ys) (subst (λ w. In n (of k w)) same (subst (λ (j : ℕ). In n (of j x)) here h))
in_from n of k (y ∷ ys) (suc i) x e h =
    let next : k + suc i ≡ (k + 1) + i = omega arith in
    in_right n (of k y) (namings_from of (k + 1) ys) (in_from n of (k + 1) ys i x e (subst (λ (j : ℕ). In n (of j x)) next h))

in_from_first : {A : Type 0} (n : Naming) (of : ℕ → A → List Naming) (xs : List A) (i : ℕ) (x : A) → slice_get xs i ≡ Some x → In n (of i x) → In n (namings_from of 0 xs)
in_from_first n of xs i x e h = let same : i ≡ 0 + i = omega arith in in_from n of 0 xs i x e (subst (λ (j : ℕ). In n (of j x)) same h)

-- ---- the methods of namings

abbrev methods : List Naming → List ℕ
methods ns = map (λ (n : Naming). n.method) ns

methods_append : (xs ys : List Naming) → methods (xs ++ ys) ≡ methods xs ++ methods ys
methods_append xs ys = map-append (λ (n : Naming). n.method) xs ys

in_trait : (o : Owner) (t : TraitBody) → methods (namings_in o t) ≡ methods_in t
in_trait o (traits.Slot id ty value constant) = refl
in_trait o (traits.Method disp m) = refl
in_trait o (traits.Getter disp m) = refl
in_trait o (traits.Setter disp m) = refl
in_trait o (traits.Class id k) = refl
in_trait o (traits.Function id m) = refl

in_table : (o : Owner) (ts : List TraitInfo) → methods (namings_among o ts) ≡ methods_among ts
in_table o [] = refl
in_table o (t ∷ ts) = methods_append (namings_in o t.body) (namings_among o ts) ∙ ap (λ (xs : List ℕ). xs ++ methods (namings_among o ts)) (in_trait o t.body) ∙ ap (λ (ys : List ℕ). methods_in t.body ++ ys) (in_table o ts)

in_all : {A : Type 0} (of : ℕ → A → List Naming) (of' : A → List ℕ) (k : ℕ) (xs : List A) → ((j : ℕ) (a : A) → methods (of j a) ≡ of' a) → methods (namings_from of k xs) ≡ flat_map of' xs
in_all of of' k [] g = refl
in_all of of' k (x ∷ xs) g = methods_append (of k x) (namings_from of (k + 1) xs) ∙ ap (λ (ys : List ℕ). ys ++ methods (namings_from of (k + 1) xs)) (g k x) ∙ ap (λ (ys : List ℕ). of' x ++ ys) (in_all of of' (k + 1) xs g)

of_instances : (v : Abc) → methods (namings_from of_instance 0 v.instances) ≡ flat_map rule.methods_of_instance v.instances
of_instances v = in_all of_instance rule.methods_of_instance 0 v.instances (λ j a. ap (λ (ms : List ℕ). a.iinit ∷ ms) (in_table (owners.Instance j) a.traits))

of_classes : (v : Abc) → methods (namings_from of_class 0 v.classes) ≡ flat_map rule.methods_of_class v.classes
of_classes v = in_all of_class rule.methods_of_class 0 v.classes (λ j a. ap (λ (ms : List ℕ). a.cinit ∷ ms) (in_table (owners.Static j) a.traits))

of_scripts : (v : Abc) → methods (namings_from of_script 0 v.scripts) ≡ flat_map rule.methods_of_script v.scripts
of_scripts v = in_all of_script rule.methods_of_script 0 v.scripts (λ j a. ap (λ (ms : List ℕ). a.init ∷ ms) (in_table (owners.ScriptMethod j) a.traits))

-- nothing is named oftener than the rule counts
count_named : (v : Abc) (m : ℕ) → count_by (λ (n : Naming). nat_eq m n.method) (namings v) ≤ times_named m (methods_named v)
count_named v m =
    let a = namings_from of_instance 0 v.instances in
    let b = namings_from of_class 0 v.classes in
    let c = namings_from of_script 0 v.scripts in
    let is = flat_map rule.methods_of_instance v.instances in
    let bs = flat_map rule.methods_of_class v.classes in
    let cs = flat_map rule.methods_of_script v.scripts in
    let ds = flat_map of_body v.bodies in
    let test = λ (n : Naming). nat_eq m n.method in
    let p : count_by (λ (n : Naming). nat_eq m n.method) (namings v) ≡ count_by test (a ++ b) + count_by test c = count_append test (a ++ b) c in
    let q = count_append test a b in
    let x : count_by test a ≡ count_by (nat_eq m) is = sym (count_map m a) ∙ ap (λ (ms : List ℕ). count_by (nat_eq m) ms) (of_instances v) in
    let y : count_by test b ≡ count_by (nat_eq m) bs = sym (count_map m b) ∙ ap (λ (ms : List ℕ). count_by (nat_eq m) ms) (of_classes v) in
    let z : count_by test c ≡ count_by (nat_eq m) cs = sym (count_map m c) ∙ ap (λ (ms : List ℕ). count_by (nat_eq m) ms) (of_scripts v) in
    let r : times_named m (methods_named v) ≡ count_by (nat_eq m) (is ++ bs ++ cs) + count_by (nat_eq m) ds = count_append (nat_eq m) (is ++ bs ++ cs) ds in
    let s = count_append (nat_eq m) (is ++ bs) cs in
    let t = count_append (nat_eq m) is bs in
    omega (arith, p, q, x, y, z, r, s, t)

module _ (p : Setting) (linked : IsLinkedFile p.linked) where
  abbrev v : Abc
  v = p.linked.file

  once : (m : ℕ) → m < length v.methods → times_named m (methods_named v) ≤ 1
  once m low = go (nat_lt 1 (times_named m (methods_named v))) refl (false_from_ne_true (breaks_owned_twice v m) (linked.rules rules.OwnedTwice (record { kind = items.Method; index = m }) (record { within = low })))
    where
      go : (b : Bool) → nat_lt 1 (times_named m (methods_named v)) ≡ b → b ≡ false → times_named m (methods_named v) ≤ 1
      go true q e = absurd cc
      go false q e = ltb-false 1 (times_named m (methods_named v)) q

  -- what is named is owned by what names it
  pub owned_by : (n : Naming) → n.method < length v.methods → In n (namings v) → owner_of v n.method ≡ n.owner
  owned_by n low h =
      let test = λ (x : Naming). nat_eq n.method x.method in
      let at = in_place n (namings v) h in
      let there = first_there test (namings v) 0 at.0 n at.1 (self_is n.method) in
      let r = first_passed test (namings v) 0 there.0 there.1 in
      let few = count_named v n.method in
      let most = once n.method low in
      let same = same_place test (namings v) r.place at.0 r.key n (omega (arith, few, most)) r.at r.passes at.1 (self_is n.method) in
      let is = r.is in
      let here : there.0 ≡ at.0 = omega (arith, is, same) in
      ap (owner_at (namings v)) there.1 ∙ ap (λ (x : Naming). x.owner) (ap (λ (k : ℕ). get_or (namings v) k no_naming) here ∙ got (namings v) at.0 n no_naming at.1)

  -- what is run has a body
  pub has_body : (m : ℕ) → m < length v.methods → In m (methods_run v) → HasBody p m
  has_body m low h =
      let broken = false_from_ne_true (breaks_no_body v m) (linked.rules rules.NoBody (record { kind = items.Method; index = m }) (record { within = low })) in
      let some = in_count m (methods_run v) h in
      go (nat_lt 0 (times_named m (methods_run v))) refl (nat_eq (times_named m (methods_with_bodies v)) 0) refl some broken
    where
      body : times_named m (methods_with_bodies v) ≢ 0 → HasBody p m
      body c = let f = counted_first (nat_eq m) (methods_with_bodies v) 0 c in record { routine = routine p.linked f.0; body = ap (routine_in p) f.1 }

      go : (a : Bool) → nat_lt 0 (times_named m (methods_run v)) ≡ a → (b : Bool) → nat_eq (times_named m (methods_with_bodies v)) 0 ≡ b → 1 ≤ times_named m (methods_run v) → (a && b) ≡ false → HasBody p m
      go false q b r some e = absurd (let runs : nat_lt 0 (times_named m (methods_run v)) ≡ true = lt-ltb 0 (times_named m (methods_run v)) some in cc)
      go true q true r some e = absurd cc
      go true q false r some e = body (λ z. let none : nat_eq (times_named m (methods_with_bodies v)) 0 ≡ true = ap (λ (n : ℕ). nat_eq n 0) z in cc)

  -- ---- what is named among the scripts, the classes and the instances

  pub of_script_named : (s : ℕ) (n : Naming) → s < length v.scripts → In n (of_script s (script_at v s)) → In n (namings v)
  of_script_named s n low h = in_right n (namings_from of_instance 0 v.instances ++ namings_from of_class 0 v.classes) (namings_from of_script 0 v.scripts) (in_from_first n of_script v.scripts s (script_at v s) (is_at v.scripts s no_script low) h)

  pub of_class_named : (k : ℕ) (n : Naming) → k < length v.classes → In n (of_class k (class_at v k)) → In n (namings v)
  of_class_named k n low h =
      in_left n (namings_from of_instance 0 v.instances ++ namings_from of_class 0 v.classes) (namings_from of_script 0 v.scripts)
      (in_right n (namings_from of_instance 0 v.instances) (namings_from of_class 0 v.classes) (in_from_first n of_class v.classes k (class_at v k) (is_at v.classes k no_class low) h))

  pub of_instance_named : (k : ℕ) (n : Naming) → k < length v.instances → In n (of_instance k (instance_at v k)) → In n (namings v)
  of_instance_named k n low h =
      in_left n (namings_from of_instance 0 v.instances ++ namings_from of_class 0 v.classes) (namings_from of_script 0 v.scripts)
      (in_left n (namings_from of_instance 0 v.instances) (namings_from of_class 0 v.classes) (in_from_first n of_instance v.instances k (instance_at v k) (is_at v.instances k no_instance low) h))

  pub of_script_run : (s m : ℕ) → s < length v.scripts → In m (rule.methods_of_script (script_at v s)) → In m (methods_run v)
  of_script_run s m low h =
      in_left m (flat_map run_of_instance v.instances ++ flat_map rule.methods_of_class v.classes ++ flat_map rule.methods_of_script v.scripts) (flat_map of_body v.bodies)
      (in_right m (flat_map run_of_instance v.instances ++ flat_map rule.methods_of_class v.classes) (flat_map rule.methods_of_script v.scripts) (in_flat m rule.methods_of_script v.scripts s (script_at v s) (is_at v.scripts s no_script low) h))

  pub of_class_run : (k m : ℕ) → k < length v.classes → In m (rule.methods_of_class (class_at v k)) → In m (methods_run v)
  of_class_run k m low h =
      in_left m (flat_map run_of_instance v.instances ++ flat_map rule.methods_of_class v.classes ++ flat_map rule.methods_of_script v.scripts) (flat_map of_body v.bodies)
      (in_left m (flat_map run_of_instance v.instances ++ flat_map rule.methods_of_class v.classes) (flat_map rule.methods_of_script v.scripts)
      (in_right m (flat_map run_of_instance v.instances) (flat_map rule.methods_of_class v.classes) (in_flat m rule.methods_of_class v.classes k (class_at v k) (is_at v.classes k no_class low) h)))

  pub of_instance_run : (k m : ℕ) → k < length v.instances → is_interface v k ≡ false → In m (rule.methods_of_instance (instance_at v k)) → In m (methods_run v)
  of_instance_run k m low plain h =
      in_left m (flat_map run_of_instance v.instances ++ flat_map rule.methods_of_class v.classes ++ flat_map rule.methods_of_script v.scripts) (flat_map of_body v.bodies)
      (in_left m (flat_map run_of_instance v.instances ++ flat_map rule.methods_of_class v.classes) (flat_map rule.methods_of_script v.scripts)
      (in_left m (flat_map run_of_instance v.instances) (flat_map rule.methods_of_class v.classes)
      (in_flat m run_of_instance v.instances k (instance_at v k) (is_at v.instances k no_instance low) (subst (λ (b : Bool). In m (if b then [] else rule.methods_of_instance (instance_at v k))) (sym plain) h))))

  -- ---- initializers

  pub class_count : length v.instances ≡ length v.classes
  class_count = (definitions p.linked linked).instance_count

  pub inits : (s : ℕ) → s < length v.scripts → IsOwned p (script_at v s).init (owners.ScriptInit s)
  inits s low =
      let x = script_at v s in
      let fits = (script_fits (sizes_of v) x).0 ((definitions p.linked linked).scripts s no_script low) in
      let place = ((position_fits (sizes_of v).methods x.init).0 fits.0).0 in
      record { body = has_body x.init place (of_script_run s x.init low (inl refl)); owner_is = owned_by (record { method = x.init; owner = owners.ScriptInit s }) place (of_script_named s _ low (inl refl)) }

  pub cinits : (k : ℕ) → k < length v.instances → IsOwned p (class_at v k).cinit (owners.ClassInit k)
  cinits k some =
      let x = class_at v k in
      let same = class_count in
      let low : k < length v.classes = omega (arith, some, same) in
      let fits = (class_fits (sizes_of v) x).0 ((definitions p.linked linked).classes k no_class low) in
      let place = ((position_fits (sizes_of v).methods x.cinit).0 fits.0).0 in
      record { body = has_body x.cinit place (of_class_run k x.cinit low (inl refl)); owner_is = owned_by (record { method = x.cinit; owner = owners.ClassInit k }) place (of_class_named k _ low (inl refl)) }

  pub iinits : (k : ℕ) → k < length v.instances → is_interface v k ≡ false → IsOwned p (instance_at v k).iinit (owners.Iinit k)
  iinits k low plain =
      let x = instance_at v k in
      let fits = (instance_fits (sizes_of v) x).0 ((definitions p.linked linked).instances k no_instance low) in
      let place = ((position_fits (sizes_of v).methods x.iinit).0 fits.5).0 in
      record { body = has_body x.iinit place (of_instance_run k x.iinit low plain (inl refl)); owner_is = owned_by (record { method = x.iinit; owner = owners.Iinit k }) place (of_instance_named k _ low (inl refl)) }
