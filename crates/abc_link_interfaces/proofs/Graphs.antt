-- What classes have their interfaces of is a graph.
use Rattle.std.proofs.Common.{◌≡◌, ℕ, ◌<◌, Bool, true, false, cond, List, [], ◌∷◌, All, Some, None, map, length, get_or, refl, sym, ap, subst, ◌∙◌, arith}
use Rattle.std.specs.declared.option.Option.{Option}
use Rattle.std.specs.List.{flat_map}
use Rattle.std.proofs.lemmas.List.{get_or-map, length-map}
use Rattle.std.proofs.lemmas.List.Elements.{All-append, All-cons}
use Rattle.abc_base_graphs.specs.Graph.{IsGraph}
use Rattle.abc_link_names.specs.Instances.{no_instance}
use Rattle.abc_link_names.specs.Meaning.{resolve}
use Rattle.abc_link_names.specs.declared.named.Named.{Named}
use Rattle.abc_link_names.specs.declared.named.Named.TheVariants as named
use Rattle.abc_link_names.specs.Interfaces.{above_class, class_graph}
use Rattle.abc_link_names.proofs.Within.{resolve_within}
use Rattle.abc_link_names.specs.Bases.{classes_named, interfaces_named, interfaces_of, is_interface}
use Rattle.abc_file_types.specs.Methods.{has_flag}
use Rattle.abc_file_types.specs.declared.classes.Instance.{Instance}
use Rattle.abc_file_types.specs.declared.tables.Abc.{Abc}

all_none : {A : Type 0} (P : A → Type 0) → All P []
all_none P = λ k d lt. absurd (omega arith)

class_within : (v : Abc) (n : ℕ) (o : Option Named) → resolve v n ≡ o → All (λ y. y < length v.instances) (classes_named o)
class_within v n None e = all_none _
class_within v n (Some named.Any) e = all_none _
class_within v n (Some named.Void) e = all_none _
class_within v n (Some (named.Host h)) e = all_none _
class_within v n (Some (named.Class b)) e = All-cons (λ y. y < length v.instances) b [] (resolve_within v n b e) (all_none _)

interface_within : (v : Abc) (n : ℕ) (o : Option Named) → resolve v n ≡ o → All (λ y. y < length v.instances) (interfaces_named v o)
interface_within v n None e = all_none _
interface_within v n (Some named.Any) e = all_none _
interface_within v n (Some named.Void) e = all_none _
interface_within v n (Some (named.Host h)) e = all_none _
interface_within v n (Some (named.Class b)) e = go (is_interface v b)
  where
    go : (c : Bool) → All (λ y. y < length v.instances) (cond c (b ∷ []) [])
    go true = All-cons (λ y. y < length v.instances) b [] (resolve_within v n b e) (all_none _)
    go false = all_none _

interfaces_within : (v : Abc) (names : List ℕ) → All (λ y. y < length v.instances) (flat_map (λ n. interfaces_named v (resolve v n)) names)
interfaces_within v [] = all_none _
interfaces_within v (n ∷ names) =
    All-append (λ y. y < length v.instances) (interfaces_named v (resolve v n)) (flat_map (λ n. interfaces_named v (resolve v n)) names) (interface_within v n (resolve v n) refl) (interfaces_within v names)

above_within : (v : Abc) (i : Instance) → All (λ y. y < length v.instances) (above_class v i)
above_within v i = All-append (λ y. y < length v.instances) (interfaces_of v i) (cond (has_flag i.flags 0x04) [] (classes_named (resolve v i.super_name))) (interfaces_within v i.interfaces) (go (has_flag i.flags 0x04))
  where
    go : (c : Bool) → All (λ y. y < length v.instances) (cond c [] (classes_named (resolve v i.super_name)))
    go true = all_none _
    go false = class_within v i.super_name (resolve v i.super_name) refl

pub as_many : (v : Abc) (g : List (List ℕ)) → g ≡ class_graph v → length g ≡ length v.instances
as_many v g e = ap length e ∙ length-map v.instances (above_class v)

pub is_graph : (v : Abc) (g : List (List ℕ)) → g ≡ class_graph v → IsGraph g
is_graph v g e = subst IsGraph (sym e) (λ k d lt.
    let len = length-map v.instances (above_class v) in
    let low : k < length v.instances = omega (arith, len) in
    let at : get_or (map (above_class v) v.instances) k d ≡ above_class v (get_or v.instances k no_instance) = get_or-map (above_class v) v.instances k no_instance d low in
    subst (λ (ys : List ℕ). All (λ y. y < length (map (above_class v) v.instances)) ys) (sym at)
    (subst (λ n. All (λ y. y < n) (above_class v (get_or v.instances k no_instance))) (sym len) (above_within v (get_or v.instances k no_instance))))
