-- A file has one free form, and an accepted file has one.
use Rattle.std.proofs.Common.{◌≡◌, ℕ, List, [], ◌∷◌, map, refl, sym, ap, subst, ◌∙◌}
use Rattle.abc_tidy_refs.specs.Renumbered.{beside, new_file}
use Rattle.abc_file_types.specs.declared.tables.Abc.{Abc}
use Rattle.abc_file_types.specs.Pools.{empty}
use Rattle.abc_base_trees.specs.Trees.{Tree}
use Rattle.abc_base_trees.specs.Visits.{visit_all}
use Rattle.abc_tidy_entries.specs.Visited.{IsTidiedValue, roots_of}
use Rattle.abc_tidy.specs.Free.{Free, IsFreeForm, no_index, privates_among}
use Rattle.abc_tidy.specs.Things.{AreThings, Thing}
use Rattle.abc_tidy.proofs.Twins.{are_things, one_things, one_trees, thing_of}

pub one_free : (v : Abc) (free other : Free) → IsFreeForm v free → IsFreeForm v other → free ≡ other
one_free v free other f g =
    let trees : f.trees ≡ g.trees = one_trees f.rooted g.rooted in
    let definitions : free.definitions ≡ other.definitions = f.definitions ∙ sym g.definitions in
    let things : free.things ≡ other.things =
    one_things (subst (λ ts. AreThings v (privates_among (visit_all ts [])) (roots_of v) free.things) trees f.things) g.things in
    λ i. record { definitions = definitions i; things = things i }

pub tidied_has_free : (v t : Abc) → IsTidiedValue v t → (free : Free) × IsFreeForm v free
tidied_has_free v t is =
    let trees : List Tree = is.visited.trees in (
      record { definitions = beside (new_file no_index v) empty; things = map (thing_of v (privates_among (visit_all trees []))) trees },
      record { trees = trees; rooted = is.visited.rooted; definitions = refl; things = are_things v (privates_among (visit_all trees [])) is.visited.rooted },
    )
