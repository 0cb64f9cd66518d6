-- For the prover alone: what is noted of the indices of a file.
use Rattle.std.specs.Prelude.{ℕ, List, Bool, ◌&&◌, ◌||◌, nat_eq, not}
use Rattle.abc_tidy_refs.specs.declared.nodes.Counts.{Counts}
use Rattle.abc_tidy_refs.specs.declared.refs.Ref.{Ref}
use Rattle.abc_tidy_refs.specs.Nodes.{node_of}
use Rattle.abc_tidy_entries.specs.Once.{with_one}
use Rattle.abc_tidy_entries.specs.Rules.{names_pool}

-- the nodes of some indices, each once, and whether each index names an entry, or nothing
pub record RootsView : Type 0 where
  pub counts : Counts
  pub nodes : List ℕ
  pub are_there : Bool

-- an index that is not 0 and names no entry has node 0
abbrev pub is_root_there : ℕ → Ref → Bool
is_root_there node r = not (names_pool r.pool) || (not (nat_eq node 0) || nat_eq r.index 0)

abbrev pub with_ref : RootsView → Ref → RootsView
with_ref v r = record {
  counts = v.counts;
  nodes = with_one v.nodes (node_of v.counts r.pool r.index);
  are_there = v.are_there && is_root_there (node_of v.counts r.pool r.index) r;
}
