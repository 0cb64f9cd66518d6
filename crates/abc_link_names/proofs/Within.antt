-- What a name of a class stands for is a class of the file, so the graphs of bases and interfaces are graphs.
use Rattle.std.proofs.Common.{◌≡◌, ℕ, ◌<◌, Bool, true, false, cond, List, [], ◌∷◌, All, Some, None, map, length, refl, sym, ap, subst, ◌∙◌, arith, get_or}
use Rattle.std.specs.declared.option.Option.{Option}
use Rattle.std.specs.List.{flat_map}
use Rattle.std.specs.Str.{bytes_eq}
use Rattle.std.specs.Prelude.{codes}
use Rattle.std.proofs.lemmas.List.{get_or-map, length-map}
use Rattle.std.proofs.lemmas.List.Elements.{All-append, All-cons}
use Rattle.abc_base.specs.Names.{class_name, host_classes}
use Rattle.abc_base.specs.declared.names.HostClass.{HostClass}
use Rattle.abc_base_graphs.specs.Graph.{IsGraph}
use Rattle.abc_base_graphs.specs.Index.{first}
use Rattle.abc_link_names.specs.Instances.{no_instance}
use Rattle.abc_link_names.specs.Meaning.{class_or_host, holds_public, host_among, host_named, is_class_named, meaning_of_name, resolve}
use Rattle.abc_link_names.specs.Pool.{name, plain_name, text}
use Rattle.abc_link_names.specs.declared.named.Named.{Named}
use Rattle.abc_link_names.specs.declared.named.Named.TheVariants as named
use Rattle.abc_link_names.specs.declared.named.PlainName.{PlainName}
use Rattle.abc_file_types.specs.declared.classes.Instance.{Instance}
use Rattle.abc_file_types.specs.declared.tables.Abc.{Abc}
use Rattle.abc_file_types.specs.Methods.{has_flag}
use Rattle.abc_link_names.specs.Bases.{base_graph, classes_named, interface_graph, interfaces_named, interfaces_of, is_interface, targets_of}
use Rattle.abc_link_names.proofs.ItemsPairs.{first_hit}

-- the host has no class of the file
no_class_among : (hosts : List HostClass) (t : List ℕ) (k : ℕ) → host_among hosts t ≡ Some (named.Class k) → ⊥
no_class_among [] t k e = go (bytes_eq t (codes "void")) e
  where
    go : (b : Bool) → cond b (Some named.Void) None ≡ Some (named.Class k) → ⊥
    go true e = cc
    go false e = cc
no_class_among (h ∷ hosts) t k e = go (no_class_among hosts t k) (bytes_eq t (class_name h)) e
  where
    go : (host_among hosts t ≡ Some (named.Class k) → ⊥) → (b : Bool) → cond b (Some (named.Host h)) (host_among hosts t) ≡ Some (named.Class k) → ⊥
    go more true e = cc
    go more false e = more e

pub resolve_within : (v : Abc) (n k : ℕ) → resolve v n ≡ Some (named.Class k) → k < length v.instances
resolve_within v n k e = go (plain_name (name v n)) e
  where
    of_host : (p : PlainName) (b : Bool) → cond b (host_named (text v p.string)) None ≡ Some (named.Class k) → k < length v.instances
    of_host p true e = absurd (no_class_among host_classes (text v p.string) k e)
    of_host p false e = cc

    of_class : (p : PlainName) (o : Option ℕ) → first (is_class_named v p) v.instances ≡ o → class_or_host v p o ≡ Some (named.Class k) → k < length v.instances
    of_class p None f e = of_host p (holds_public v p.spaces) e
    of_class p (Some j) f e = let q : j ≡ k = cc in let h = first_hit (is_class_named v p) v.instances no_instance j f in subst (λ m. m < length v.instances) q h.0

    go : (o : Option PlainName) → meaning_of_name v o ≡ Some (named.Class k) → k < length v.instances
    go None e = cc
    go (Some p) e = of_class p (first (is_class_named v p) v.instances) refl e

all_none : {A : Type 0} (P : A → Type 0) → All P []
all_none P = λ k d lt. absurd (omega arith)

classes_within : (v : Abc) (n : ℕ) (o : Option Named) → resolve v n ≡ o → All (λ y. y < length v.instances) (classes_named o)
classes_within v n None e = all_none _
classes_within v n (Some named.Any) e = all_none _
classes_within v n (Some named.Void) e = all_none _
classes_within v n (Some (named.Host h)) e = all_none _
classes_within v n (Some (named.Class b)) e = All-cons (λ y. y < length v.instances) b [] (resolve_within v n b e) (all_none _)

interfaces_within : (v : Abc) (n : ℕ) (o : Option Named) → resolve v n ≡ o → All (λ y. y < length v.instances) (interfaces_named v o)
interfaces_within v n None e = all_none _
interfaces_within v n (Some named.Any) e = all_none _
interfaces_within v n (Some named.Void) e = all_none _
interfaces_within v n (Some (named.Host h)) e = all_none _
interfaces_within v n (Some (named.Class b)) e = go (is_interface v b)
  where
    go : (c : Bool) → All (λ y. y < length v.instances) (cond c (b ∷ []) [])
    go true = All-cons (λ y. y < length v.instances) b [] (resolve_within v n b e) (all_none _)
    go false = all_none _

all_interfaces_within : (v : Abc) (names : List ℕ) → All (λ y. y < length v.instances) (flat_map (λ n. interfaces_named v (resolve v n)) names)
all_interfaces_within v [] = all_none _
all_interfaces_within v (n ∷ names) =
    All-append (λ y. y < length v.instances) (interfaces_named v (resolve v n)) (flat_map (λ n. interfaces_named v (resolve v n)) names) (interfaces_within v n (resolve v n) refl) (all_interfaces_within v names)

targets_within : (v : Abc) (i : Instance) → All (λ y. y < length v.instances) (targets_of v i)
targets_within v i = go (has_flag i.flags 0x04)
  where
    go : (c : Bool) → All (λ y. y < length v.instances) (cond c (interfaces_of v i) [])
    go true = all_interfaces_within v i.interfaces
    go false = all_none _

mapped : (v : Abc) (f : Instance → List ℕ) → ((i : Instance) → All (λ y. y < length v.instances) (f i)) → IsGraph (map f v.instances)
mapped v f h = λ k d lt.
    let len = length-map v.instances f in
    let low : k < length v.instances = omega (arith, len) in
    let e : get_or (map f v.instances) k d ≡ f (get_or v.instances k no_instance) = get_or-map f v.instances k no_instance d low in
    subst (λ (ys : List ℕ). All (λ y. y < length (map f v.instances)) ys) (sym e)
    (subst (λ n. All (λ y. y < n) (f (get_or v.instances k no_instance))) (sym len) (h (get_or v.instances k no_instance)))

pub bases_are_graph : (v : Abc) (g : List (List ℕ)) → g ≡ base_graph v → IsGraph g
bases_are_graph v g e = subst IsGraph (sym e) (mapped v (λ i. classes_named (resolve v i.super_name)) (λ i. classes_within v i.super_name (resolve v i.super_name) refl))

pub interfaces_are_graph : (v : Abc) (g : List (List ℕ)) → g ≡ interface_graph v → IsGraph g
interfaces_are_graph v g e = subst IsGraph (sym e) (mapped v (targets_of v) (targets_within v))

pub as_many_bases : (v : Abc) (g : List (List ℕ)) → g ≡ base_graph v → length g ≡ length v.instances
as_many_bases v g e = ap length e ∙ length-map v.instances (λ (i : Instance). classes_named (resolve v i.super_name))

pub as_many_interfaces : (v : Abc) (g : List (List ℕ)) → g ≡ interface_graph v → length g ≡ length v.instances
as_many_interfaces v g e = ap length e ∙ length-map v.instances (targets_of v)
