-- All parts that have layouts have numbers.
use Rattle.std.proofs.Common.{◌≡◌, ℕ, ◌+◌, ◌*◌, ◌<◌, List, ◌++◌, Contains, map, length, get_or, sym, subst, arith}
use Rattle.std.specs.List.{flat_map, range_with_len}
use Rattle.std.specs.declared.option.Option.{Option}
use Rattle.std.proofs.lemmas.List.{length-map}
use Rattle.std.proofs.lemmas.List.Elements.{Contains-append_right}
use Rattle.abc_base.specs.Names.{host_classes}
use Rattle.abc_base_graphs.specs.Orders.{IsOrder}
use Rattle.abc_link_names.specs.Meaning.{resolve}
use Rattle.abc_file_types.specs.declared.classes.Instance.{Instance}
use Rattle.abc_file_types.specs.declared.tables.Abc.{Abc}
use Rattle.abc_link_layouts.specs.Forest.{class_bases, class_in}
use Rattle.abc_link_layouts.specs.Numbering.{numbering, parts_in}
use Rattle.abc_link_names.specs.Numbering.{IsNumbering}
use Rattle.abc_link_names.specs.Parts.{HasLayout}
use Rattle.abc_link_names.specs.declared.part.Part.{Part}
use Rattle.abc_link_names.specs.declared.part.Part.TheVariants as parts
use Rattle.abc_link_layouts.proofs.Adding.{AddsBodies, AddsEach, AddsParts, adds_none, adds_then, bodies_added, class_objects_added, contains_map, globals_added, host_objects_added, instances_added}
use Rattle.abc_link_layouts.proofs.Apart.{AreApart, bodies_apart, both_apart, class_objects_apart, globals_apart, host_objects_apart, hosts_apart, instances_apart}
use Rattle.abc_link_layouts.proofs.Hosts.{has_hosts, host_known, host_parts, hosts_behind, hosts_only}

-- ---- the parts as they come, kind after kind

abbrev with_objects : List Part
with_objects = host_parts ++ map (λ h. parts.HostClassObject h) host_classes

abbrev with_instances : List ℕ → List Part
with_instances nodes = with_objects ++ map (λ k. parts.Instance k) nodes

abbrev with_class_objects : Abc → List ℕ → List Part
with_class_objects v nodes = with_instances nodes ++ map (λ k. parts.ClassObject k) (range_with_len 0 (length v.instances))

abbrev with_globals : Abc → List ℕ → List Part
with_globals v nodes = with_class_objects v nodes ++ map (λ s. parts.Global s) (range_with_len 0 (length v.scripts))

abbrev with_bodies : Abc → List ℕ → List Part
with_bodies v nodes = with_globals v nodes ++ flat_map (parts_in v) (range_with_len 0 (length v.bodies))

numbered_with : (v : Abc) (nodes : List ℕ) (places : List (Option ℕ)) → IsOrder (class_bases v) nodes places → IsNumbering v (with_bodies v nodes)
numbered_with v nodes places o = record {
  every = every;
  only = all.only (hosts_only v);
  behind = all.behind has_hosts (hosts_behind v);
  apart = apart.apart;
}
  where
    apart : AreApart 0 (5 + 2 * (0 + length v.bodies)) (with_bodies v nodes)
    apart =
        let old = both_apart 0 1 2 host_parts (map (λ h. parts.HostClassObject h) host_classes) hosts_apart host_objects_apart in
        let made = both_apart 0 2 3 with_objects (map (λ k. parts.Instance k) nodes) old (instances_apart v nodes places o) in
        let classes = both_apart 0 3 4 (with_instances nodes) (map (λ k. parts.ClassObject k) (range_with_len 0 (length v.instances))) made (class_objects_apart (length v.instances)) in
        let globals = both_apart 0 4 5 (with_class_objects v nodes) (map (λ s. parts.Global s) (range_with_len 0 (length v.scripts))) classes (globals_apart (length v.scripts)) in
        both_apart 0 5 (5 + 2 * (0 + length v.bodies)) (with_globals v nodes) (flat_map (parts_in v) (range_with_len 0 (length v.bodies))) globals (bodies_apart v 0 (length v.bodies))

    objects : AddsParts v host_parts with_objects
    objects = host_objects_added v host_parts host_parts host_classes (adds_none v host_parts)

    instances : AddsEach v with_objects (with_instances nodes) (λ q. parts.Instance (get_or nodes q 0)) (length nodes)
    instances = instances_added v nodes places with_objects o

    classes : AddsEach v (with_instances nodes) (with_class_objects v nodes) (λ k. parts.ClassObject k) (length v.instances)
    classes = class_objects_added v (with_instances nodes)

    globals : AddsEach v (with_class_objects v nodes) (with_globals v nodes) (λ k. parts.Global k) (length v.scripts)
    globals = globals_added v (with_class_objects v nodes)

    bodies : AddsBodies v (with_globals v nodes) (with_bodies v nodes) (length v.bodies)
    bodies = bodies_added v (with_globals v nodes) (length v.bodies) (omega arith)

    late : AddsParts v (with_instances nodes) (with_bodies v nodes)
    late = adds_then v (with_instances nodes) (with_class_objects v nodes) (with_bodies v nodes) classes.adds
        (adds_then v (with_class_objects v nodes) (with_globals v nodes) (with_bodies v nodes) globals.adds bodies.adds)

    all : AddsParts v host_parts (with_bodies v nodes)
    all = adds_then v host_parts with_objects (with_bodies v nodes) objects (adds_then v with_objects (with_instances nodes) (with_bodies v nodes) instances.adds late)

    of_instance : (k : ℕ) → k < length v.instances → Contains (with_bodies v nodes) (parts.Instance k)
    of_instance k lt =
        let len = length-map v.instances (λ (i : Instance). class_in (resolve v i.super_name)) in
        let h = o.all k (omega arith) in
        let t = o.placed.there k h.at h.is in
        late.keeps (parts.Instance k) (subst (λ m. Contains (with_instances nodes) (parts.Instance m)) t.1 (instances.each h.at t.0))

    every : (p : Part) → HasLayout v p → Contains (with_bodies v nodes) p
    every (parts.Host h) has = all.keeps (parts.Host h) (has_hosts.has h)
    every (parts.HostClassObject h) has =
        let there = Contains-append_right host_parts (map (λ x. parts.HostClassObject x) host_classes) (parts.HostClassObject h) (contains_map (λ x. parts.HostClassObject x) host_classes h (host_known h)) in
        late.keeps (parts.HostClassObject h) (instances.adds.keeps (parts.HostClassObject h) there)
    every (parts.Instance k) has = of_instance k has
    every (parts.ClassObject k) has = bodies.adds.keeps (parts.ClassObject k) (globals.adds.keeps (parts.ClassObject k) (classes.each k has))
    every (parts.Global s) has = bodies.adds.keeps (parts.Global s) (globals.each s has)
    every (parts.Activation b) has = bodies.activations b has.0 has.1
    every (parts.Catch b x) has = bodies.catches b x has.0 has.1

-- the numbering of a file numbers its parts
pub numbered : (v : Abc) (nodes : List ℕ) (places : List (Option ℕ)) → IsOrder (class_bases v) nodes places → IsNumbering v (numbering v)
unfolding numbering
numbered v nodes places o = subst (λ (ns : List ℕ). IsNumbering v (with_bodies v ns)) o.is (numbered_with v nodes places o)

-- the same, of parts that stand so
pub numbered_by : (v : Abc) (nodes : List ℕ) (places : List (Option ℕ)) (all : List Part) → IsOrder (class_bases v) nodes places → all ≡ numbering v → IsNumbering v all
numbered_by v nodes places all o e = subst (IsNumbering v) (sym e) (numbered v nodes places o)
