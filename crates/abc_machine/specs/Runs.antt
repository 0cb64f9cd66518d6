-- Steps that went so far, and what they leave.
use Rattle.std.specs.Prelude.{◌≡◌, ℕ, zero, suc, ◌+◌, ◌-◌, ◌≤◌, List, [], IsSome}
use Rattle.std.specs.Io.KnownBytes.{append_known}
use Rattle.std.specs.declared.option.Option.{Option}
use Rattle.abc_base.specs.declared.formula.Formula.{Formula}
use Rattle.abc_meaning.specs.Calls.{replies_for}
use Rattle.abc_run_finish.specs.Ending.{IsSized}
use Rattle.abc_meaning.specs.Logs.{steps_for}
use Rattle.abc_meaning.specs.Step.{step}
use Rattle.abc_meaning.specs.Throwing.{Ends, Machine, Stepped, Steps}
use Rattle.abc_link_names.specs.Linked.{LinkedFile}
use Rattle.abc_run_state.specs.Outer.{Outer, setting_in}
use Rattle.abc_run_state.specs.declared.state.State.{State}
use Rattle.abc_run_finish.specs.Steps.{IsReached, machine}
use Rattle.abc_meaning.specs.World.{World}
use Rattle.abc_meaning.specs.Setting.{Setting}
use Rattle.abc_machine.specs.Texts.{TextsGrow}

-- a step that goes on
abbrev pub on : Stepped → Machine
on (Steps q) = q
on (Ends w e) = record { world = w; frames = [] }

-- the state after so many
abbrev pub machine_after : Setting → ℕ → Machine → Machine
machine_after p zero q = q
machine_after p (suc n) q = on (step p (machine_after p n q))

-- what steps began with: a state, and how many there may be
pub record Begun : Type 0 where
  pub formulas : List Formula
  pub first : Machine
  pub fuel : ℕ

-- what was written after all but so many steps
abbrev pub outer : LinkedFile → Begun → (left : ℕ) → Outer
outer l b left = record { formulas = b.formulas; wrote = (machine_after (record { linked = l; formulas = b.formulas }) (b.fuel - left) b.first).world.wrote }

-- all but so many steps were taken, and they go on from there
pub record IsRunAt (l : LinkedFile) (b : Begun) (left : ℕ) (s : State) (before now : Option (List ℕ)) : Type 0 where
  pub few : left ≤ b.fuel
  pub is : machine s (outer l b left) ≡ machine_after (setting_in l (outer l b left)) (b.fuel - left) b.first
  pub goes : replies_for (setting_in l (outer l b left)) b.fuel b.first ≡ replies_for (setting_in l (outer l b left)) left (machine_after (setting_in l (outer l b left)) (b.fuel - left) b.first)
  pub counts : steps_for (setting_in l (outer l b left)) b.fuel b.first ≡ (b.fuel - left) + steps_for (setting_in l (outer l b left)) left (machine_after (setting_in l (outer l b left)) (b.fuel - left) b.first)
  pub sink : IsSome before → now ≡ append_known before (outer l b left).wrote
  pub texts : TextsGrow b.first.world.heap s.arena
  pub can : IsReached l (outer l b left) s

-- the state that steps leave, where writing didn't fail: the world of the meaning, and frames that may keep what their routines say
pub record LeavesWorld (p : Setting) (w : World) (s : State) : Type 0 where
  pub heap : s.arena ≡ w.heap
  pub started : s.started ≡ w.started
  pub sized : IsSized p s.arena.limits s.frames
