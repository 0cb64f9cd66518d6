-- What is proved: where the acts of the instructions are sound, and so is `new`, a step from a sound state leaves one.
use Rattle.std.specs.Prelude.{List}
use Rattle.abc_heap_values.specs.declared.values.Value.{Value}
use Rattle.abc_meaning.specs.Sound.{AreTypings, IsSound, SteppedSound, Typings, WorldSound}
use Rattle.abc_meaning.specs.Step.{step}
use Rattle.abc_meaning.specs.Throwing.{Machine}
use Rattle.abc_objects.specs.Values.{Exists}
use Rattle.abc_meaning_sound.specs.Given.{FileGiven, OpsGiven}
use Rattle.abc_meaning_sound.specs.Keeping.{CameSound, Fares, GroupsHold}
use Rattle.abc_verify_typing.specs.Lists.{Each}
use Rattle.abc_meaning.specs.Making.{new}
use Rattle.abc_meaning.specs.Setting.{Setting}
use Rattle.abc_meaning.specs.World.{World}

abbrev pub NewsSound : Setting → Typings → Type 0
NewsSound p typings = (w : World) (v : Value) (args : List Value) → WorldSound p w → Exists p.linked w.heap v → Each (Exists p.linked w.heap) args → Fares p w (new p v args w) (CameSound p typings)

-- where all acts are sound, and so is `new`, a step from a sound state leaves a sound one
abbrev pub StepsBySoundActs : Type 0
StepsBySoundActs = (p : Setting) (typings : Typings) (q : Machine) → FileGiven p → OpsGiven p → AreTypings p typings → GroupsHold p typings → NewsSound p typings → IsSound p typings q → SteppedSound p typings (step p q)
