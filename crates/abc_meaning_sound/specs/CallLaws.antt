-- What is promised of calls on what a run of a verified file left.
use Rattle.std.specs.Prelude.{◌≡◌, ◌≢◌, ℕ, ℤ, List}
use Rattle.abc_base.specs.Ranges.{IsNumber}
use Rattle.abc_base.specs.declared.formula.Formula.{Formula}
use Rattle.abc_heap_values.specs.declared.values.Value.{Value}
use Rattle.abc_meaning.specs.Fair.{IsFairPart}
use Rattle.abc_objects.specs.Opening.{formula_names}
use Rattle.abc_objects.specs.Values.{Exists}
use Rattle.abc_meaning.specs.Front.{IsWorldFront}
use Rattle.abc_link_names.specs.Linked.{LinkedFile}
use Rattle.abc_verify_typing.specs.Lists.{Each}
use Rattle.abc_meaning.specs.Setting.{Setting}
use Rattle.abc_meaning.specs.World.{World}
use Rattle.abc_meaning.specs.ThrowLaws.{IsVerifiedSetting}
use Rattle.abc_meaning.specs.Meaning.{runs_for}
use Rattle.abc_meaning.specs.Sound.{AreTypings, IsSound, SteppedSound, Typings, WorldSound}
use Rattle.abc_meaning.specs.Throwing.{Machine, Stuck}
use Rattle.abc_meaning.specs.Exports.{IsScriptMethod}
use Rattle.abc_meaning.specs.Calls.{EndsAs, Gives, begins_call, call_meaning, enters_call, replies_for}

-- however a run ends, what it leaves is sound
abbrev pub RunsLeaveSound : Type 0
RunsLeaveSound = (p : Setting) (typings : Typings) (fuel : ℕ) (q : Machine) → IsVerifiedSetting p → AreTypings p typings → IsSound p typings q → WorldSound p (runs_for p fuel q).world

-- a call on a sound world begins in a sound state, or ends at once, and not as Stuck
abbrev pub CallsBeginSound : Type 0
CallsBeginSound = (p : Setting) (typings : Typings) (w : World) (m : ℕ) (args : List ℤ) → IsVerifiedSetting p → AreTypings p typings → WorldSound p w → IsScriptMethod p m → Each IsNumber args → SteppedSound p typings (begins_call p w m args)

-- what a call leaves is sound, and it doesn't end as Stuck
abbrev pub CallsLeaveSound : Type 0
CallsLeaveSound = (p : Setting) (typings : Typings) (fuel : ℕ) (w : World) (m : ℕ) (args : List ℤ) → IsVerifiedSetting p → AreTypings p typings → WorldSound p w → IsScriptMethod p m → Each IsNumber args → WorldSound p (call_meaning p fuel w m args).world × ((call_meaning p fuel w m args).reply ≢ EndsAs Stuck)

-- to enter a call on a sound world leaves one, which grew, and what is thrown there is there
abbrev pub CallsAreFair : Type 0
CallsAreFair = (p : Setting) (typings : Typings) (w : World) (m : ℕ) (args : List ℤ) → IsVerifiedSetting p → AreTypings p typings → WorldSound p w → IsScriptMethod p m → Each IsNumber args → IsFairPart p w (enters_call p m args w)

-- a value that a call gives is there
abbrev pub CallsGiveThere : Type 0
CallsGiveThere = (p : Setting) (fuel : ℕ) (w : World) (m : ℕ) (args : List ℤ) (v : Value) → IsVerifiedSetting p → WorldSound p w → IsScriptMethod p m → Each IsNumber args → (call_meaning p fuel w m args).reply ≡ Gives v → Exists p.linked (call_meaning p fuel w m args).world.heap v

-- with any fuel, what was written stays in front
abbrev pub CallsAppend : Type 0
CallsAppend = (p : Setting) (fuel : ℕ) (q : Machine) → IsWorldFront q.world (replies_for p fuel q).world

-- of the host, a sound world knows the names of the formulas alone
abbrev pub NamesAloneMatter : Type 0
NamesAloneMatter = (l : LinkedFile) (fs gs : List Formula) (w : World) → formula_names fs ≡ formula_names gs → WorldSound (record { linked = l; formulas = fs }) w → WorldSound (record { linked = l; formulas = gs }) w
