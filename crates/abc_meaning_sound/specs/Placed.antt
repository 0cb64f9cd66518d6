-- Where a fault that ends a run or a call is told.
use Rattle.std.specs.Prelude.{◌≡◌, ◌≢◌, ℕ, ℤ, List, None}
use Rattle.abc_base.specs.Ranges.{IsNumber}
use Rattle.abc_base.specs.declared.names.Fault.{Fault}
use Rattle.abc_meaning.specs.Calls.{EndsAs, Replied, call_meaning}
use Rattle.abc_meaning.specs.Exports.{IsScriptMethod}
use Rattle.abc_heap_store.specs.declared.records.Limits.{Limits}
use Rattle.abc_meaning.specs.ThrowLaws.{AreCounted, IsVerifiedSetting}
use Rattle.abc_meaning.specs.Meaning.{Ran, first_state, first_world, meaning, runs_for, too_small}
use Rattle.abc_meaning.specs.Sound.{WorldSound}
use Rattle.abc_meaning.specs.Throwing.{Profile, Stuck}
use Rattle.abc_meaning.specs.Told.{IsInstruction}
use Rattle.abc_meaning.specs.World.{World}
use Rattle.abc_meaning.specs.Setting.{Setting}
use Rattle.abc_verify_typing.specs.Lists.{Each}

-- a fault that ends a run of a verified file is told at an instruction
abbrev pub FaultsArePlaced : Type 0
FaultsArePlaced = (p : Setting) (limits : Limits) (fuel : ℕ) (wrote : List ℕ) (m i : ℕ) (fault : Fault) → IsVerifiedSetting p → AreCounted limits → meaning p limits fuel ≡ Ran wrote (Profile m i fault) → IsInstruction p.linked.file m i

-- ---- calls

-- what a run of a verified file leaves is sound
abbrev pub RunsEndSound : Type 0
RunsEndSound = (p : Setting) (limits : Limits) (fuel : ℕ) → IsVerifiedSetting p → AreCounted limits → too_small (first_world p limits).heap ≡ None → WorldSound p (runs_for p fuel (first_state p limits)).world

-- what comes of a call is told: it is never stuck, and a fault has its place at an instruction; and what it leaves is sound
pub record IsToldCall (p : Setting) (r : Replied) : Type 0 where
  pub sound : WorldSound p r.world
  pub unstuck : r.reply ≢ EndsAs Stuck
  pub placed : (m i : ℕ) (fault : Fault) → r.reply ≡ EndsAs (Profile m i fault) → IsInstruction p.linked.file m i

-- a call of a script's method with numbers, in a sound world of a verified file, leaves a sound world and is never stuck;
-- a profile fault of it is at an instruction
abbrev pub CallsCanBeTold : Type 0
CallsCanBeTold = (p : Setting) (fuel : ℕ) (w : World) (m : ℕ) (args : List ℤ) → IsVerifiedSetting p → WorldSound p w → IsScriptMethod p m → Each IsNumber args → IsToldCall p (call_meaning p fuel w m args)
