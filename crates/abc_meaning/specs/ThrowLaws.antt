-- What is promised of verified files: no step is stuck. Stated here; the proofs stand above (profile: docs/THEOREMS.md, "The meaning of a run").
use Rattle.std.specs.Prelude.{◌≡◌, ◌≢◌, ℕ, ◌<◌, ◌^◌, List, length, None}
use Rattle.abc_base.specs.Hosts.{AreFormulas}
use Rattle.abc_heap_values.specs.declared.values.Value.{Value}
use Rattle.abc_heap_store.specs.declared.records.Limits.{Limits}
use Rattle.abc_objects.specs.Values.{Exists}
use Rattle.abc_link_names.specs.Linked.{IsLinkedFile}
use Rattle.abc_file_types.specs.Files.{Fits}
use Rattle.abc_verify_typing.specs.Routines.{routine}
use Rattle.abc_verify_typing.specs.Typing.{HasTyping}
use Rattle.abc_meaning.specs.Setting.{Setting}
use Rattle.abc_meaning.specs.Meaning.{Ran, first_state, first_world, meaning, too_small}
use Rattle.abc_meaning.specs.Sound.{AreTypings, IsSound, SteppedSound, Typings}
use Rattle.abc_meaning.specs.Step.{step}
use Rattle.abc_meaning.specs.Throwing.{Machine, Stuck, unwinds}

-- a linked file that some bytes spell, each of whose bodies has a typing; and the formulas of a host
pub record IsVerifiedSetting (p : Setting) : Type 0 where
  pub fits : Fits p.linked.file
  pub linked : IsLinkedFile p.linked
  pub typed : (b : ℕ) → b < length p.linked.file.bodies → HasTyping p.linked (routine p.linked b)
  pub host : AreFormulas p.formulas

-- cells are counted by 32 bits
abbrev pub AreCounted : Limits → Type 0
AreCounted limits = limits.cells < 2 ^ 32

-- the state that a run begins with is sound, where it is not too much for its limits
abbrev pub BeginsSound : Type 0
BeginsSound = (p : Setting) (typings : Typings) (limits : Limits) → IsVerifiedSetting p → AreTypings p typings → AreCounted limits → too_small (first_world p limits).heap ≡ None → IsSound p typings (first_state p limits)

-- every step from a sound state leaves a sound state, or an end that is not Stuck
abbrev pub StaysSound : Type 0
StaysSound = (p : Setting) (typings : Typings) (q : Machine) → IsVerifiedSetting p → AreTypings p typings → IsSound p typings q → SteppedSound p typings (step p q)

-- a throw from a sound state leaves a sound state, or ends as Uncaught
abbrev pub ThrowsStaySound : Type 0
ThrowsStaySound = (p : Setting) (typings : Typings) (q : Machine) (v : Value) → IsVerifiedSetting p → AreTypings p typings → IsSound p typings q → Exists p.linked q.world.heap v → SteppedSound p typings (unwinds p q.world v q.frames)

-- the meaning of a verified file is never Stuck, at any fuel, limits and host
abbrev pub IsNeverStuck : Type 0
IsNeverStuck = (p : Setting) (limits : Limits) (fuel : ℕ) (wrote : List ℕ) → IsVerifiedSetting p → AreCounted limits → meaning p limits fuel ≢ Ran wrote Stuck
