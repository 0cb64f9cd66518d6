-- A machine, as its users see it.
use Rattle.std.specs.Prelude.{◌≡◌, ℕ, ◌<◌, ◌^◌, List, [], Bool, false, length, replicate, None, Some}
use Rattle.std.specs.declared.option.Option.{Option}
use Rattle.abc_base.specs.declared.formula.Formula.{Formula}
use Rattle.abc_run_finish.specs.Ending.{IsSized}
use Rattle.abc_heap_store.specs.declared.records.Limits.{Limits}
use Rattle.abc_machine.specs.declared.ends.End.{End}
use Rattle.abc_machine.specs.declared.ends.End.TheVariants.{Done}
use Rattle.abc_meaning.specs.Meaning.{first_state, first_world, runs_for, too_small}
use Rattle.abc_meaning.specs.Sound.{WorldSound}
use Rattle.abc_objects.specs.Opening.{formula_names}
use Rattle.abc_run_finish.specs.Begun.{IsBegun}
use Rattle.abc_meaning.specs.Openings.{setting}
use Rattle.abc_link_names.specs.Linked.{LinkedFile}
use Rattle.abc_run_calls.specs.Arguments.{HasArgumentRoom}
use Rattle.abc_meaning.specs.World.{World}
use Rattle.abc_run_state.specs.declared.state.State.{State}

-- what it runs, the names of its host's formulas, in order, its limits, how its run ended, if one was, whether a call failed to
-- write, which closes it, the heap and the started scripts, which are the world in which a call begins, with nothing written, and how
-- many steps its run took
pub record Opened : Type 0 where
  pub linked : LinkedFile
  pub names : List (List ℕ)
  pub limits : Limits
  pub ended : Option End
  pub closed : Bool
  pub world : World
  pub steps : ℕ

-- what a machine begins with: the state of its run, and that no script is started
pub record IsFirstState (l : LinkedFile) (formulas : List Formula) (limits : Limits) (s : State) (seen : List Bool) : Type 0 where
  pub begun : IsBegun (setting l formulas) limits s
  pub none : seen ≡ replicate (length l.file.scripts) false

-- a machine that was opened: no limit is too small, and nothing was run
pub record IsOpened (l : LinkedFile) (formulas : List Formula) (limits : Limits) (m : Opened) : Type 0 where
  pub is : m ≡ record { linked = l; names = formula_names formulas; limits = limits; ended = None; closed = false; world = first_world (setting l formulas) limits; steps = 0 }
  pub fits : too_small (first_world (setting l formulas) limits).heap ≡ None

-- the world that the run of a machine leaves, beside a host of these formulas
abbrev pub world_run : Opened → List Formula → (fuel : ℕ) → World
world_run m formulas fuel = (runs_for (setting m.linked formulas) fuel (first_state (setting m.linked formulas) m.limits)).world

-- its run was done, and no call failed to write
pub record IsReadyToCall (m : Opened) : Type 0 where
  pub done : m.ended ≡ Some Done
  pub still : m.closed ≡ false

-- before its run, a machine is in the first state of the meaning, with any formulas of these names
abbrev pub CanBeginRun : LinkedFile → State → Type 0
CanBeginRun l s = (formulas : List Formula) → formula_names formulas ≡ s.arena.formulas → IsBegun (setting l formulas) s.arena.limits s

abbrev pub kept_world : State → World
kept_world s = record { heap = s.arena; started = s.started; wrote = [] }

-- between calls its world is sound with any formulas of these names, and no frame lives
pub record CanGoOn (l : LinkedFile) (s : State) : Type 0 where
  pub sound : (formulas : List Formula) → formula_names formulas ≡ s.arena.formulas → WorldSound (setting l formulas) (kept_world s)
  pub sized : (formulas : List Formula) → IsSized (setting l formulas) s.arena.limits s.frames
  pub none : s.frames.living ≡ []
  pub known : HasArgumentRoom l s.given.limit

-- what a machine keeps, by how its run ended and whether it is closed; before its run it has seen of the scripts which are started
pub record MachineKeeps (l : LinkedFile) (s : State) (seen : List Bool) (ended : Option End) (closed : Bool) : Type 0 where
  pub begins : ended ≡ None → CanBeginRun l s × (s.arena.limits.cells < 2 ^ 32)
  pub noted : ended ≡ None → seen ≡ s.started
  pub goes_on : ended ≡ Some Done → closed ≡ false → CanGoOn l s
