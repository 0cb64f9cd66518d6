-- What is proved: the acts that jump, those that move values alone, and operations are sound.
use Rattle.std.specs.Prelude.{[]}
use Rattle.abc_meaning.specs.Table.{jumping_acts, operation_acts, plain_acts}
use Rattle.abc_meaning.specs.Sound.{AreTypings, Typings}
use Rattle.abc_meaning_sound.specs.Given.{FileGiven, OpsGiven}
use Rattle.abc_meaning_sound.specs.Keeping.{EntrySound}
use Rattle.abc_verify_typing.specs.Lists.{Each}
use Rattle.abc_meaning.specs.Setting.{Setting}

-- given the facts of the file and of operations, each act that jumps, moves values alone or is an operation is sound
abbrev pub PlainActsHold : Type 0
PlainActsHold = (p : Setting) (typings : Typings) → FileGiven p → OpsGiven p → AreTypings p typings → Each (EntrySound p typings) (jumping_acts (plain_acts (operation_acts [])))
