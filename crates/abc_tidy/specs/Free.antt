-- The free form of a file: its definitions and bodies with things in place of indices into pools, and no pools
-- (profile: docs/TIDYING.md, "The free form").
use Rattle.std.specs.Prelude.{◌≡◌, ℕ, List, [], ◌∷◌, nat_eq, if◌then◌else◌}
use Rattle.std.specs.List.{flat_map}
use Rattle.abc_tidy_refs.specs.Renumbered.{Renumbering, beside, new_file}
use Rattle.abc_file_types.specs.declared.opcodes.Pool.{Pool}
use Rattle.abc_file_types.specs.declared.opcodes.Pool.TheVariants as pools
use Rattle.abc_file_types.specs.declared.names.NsKind.TheVariants as spaces
use Rattle.abc_file_types.specs.declared.tables.Abc.{Abc}
use Rattle.abc_file_types.specs.Pools.{empty, namespace_code}
use Rattle.abc_base_trees.specs.declared.heads.Head.{Head}
use Rattle.abc_base_trees.specs.Trees.{AreTrees, Apply, Leaf, Tree}
use Rattle.abc_base_trees.specs.Visits.{visit_all}
use Rattle.abc_tidy_entries.specs.Entries.{graph_of, heads_of}
use Rattle.abc_tidy_entries.specs.Visited.{roots_of}
use Rattle.abc_tidy.specs.Things.{AreThings, Thing}

-- ---- the Private namespaces that are visited

abbrev pub root : Tree → Head
root (Leaf h) = h
root (Apply t part) = root t

-- the place of a Private namespace, by the tree of its entry
abbrev pub private_place : Tree → List ℕ
private_place t = if nat_eq (root t).kind (namespace_code spaces.Private) then (root t).value ∷ [] else []

-- the places of those among some trees, in order
abbrev pub privates_among : List Tree → List ℕ
privates_among ts = flat_map private_place ts

-- ---- the free form

-- no index; what names nothing stays
abbrev pub no_index : Renumbering
no_index pools.NoPool i = i
no_index pools.Int i = 0
no_index pools.UInt i = 0
no_index pools.Double i = 0
no_index pools.Text i = 0
no_index pools.Space i = 0
no_index pools.Name i = 0

-- Definitions and bodies without their indices into pools, and the things that stand in the places of these, in file order.
pub record Free : Type 0 where
  pub definitions : Abc
  pub things : List Thing

-- The free form of a file. Its Private namespaces are counted in the order in which they are first visited. A file of which
-- an index leads to a name that leads back to itself has none.
pub record IsFreeForm (v : Abc) (free : Free) : Type 0 where
  pub trees : List Tree
  pub rooted : AreTrees (heads_of v) (graph_of v) (roots_of v) trees
  pub definitions : free.definitions ≡ beside (new_file no_index v) empty
  pub things : AreThings v (privates_among (visit_all trees [])) (roots_of v) free.things

-- Two files have one free form.
pub record HaveOneFree (v w : Abc) : Type 0 where
  pub free : Free
  pub first : IsFreeForm v free
  pub second : IsFreeForm w free
