-- What a state doesn't hold: the formulas of the host, and what was written.
use Rattle.std.specs.Prelude.{ℕ, List}
use Rattle.abc_base.specs.declared.formula.Formula.{Formula}
use Rattle.abc_heap_store.specs.Heap.{Heap}
use Rattle.abc_link_names.specs.Linked.{LinkedFile}
use Rattle.abc_run_state.specs.declared.state.State.{State}
use Rattle.abc_meaning.specs.Setting.{Setting}
use Rattle.abc_meaning.specs.World.{World}

-- the formulas of the host, and the bytes that were written
pub record Outer : Type 0 where
  pub formulas : List Formula
  pub wrote : List ℕ

-- the file with the formulas: what is run, in the words of the meaning
abbrev pub setting_in : LinkedFile → Outer → Setting
setting_in l out = record { linked = l; formulas = out.formulas }

-- the world of a state, in the words of the meaning
abbrev pub world : State → Outer → World
world s out = record { heap = s.arena; started = s.started; wrote = out.wrote }

-- a world with another heap
abbrev pub at_heap : Heap → World → World
at_heap h w = record w { heap = h }
