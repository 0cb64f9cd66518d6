use Rattle.std.specs.Prelude.{[]}
use Rattle.abc_meaning.specs.Table.{operation_acts, plain_acts}
use Rattle.abc_meaning_sound.proofs.Computing.{operations_hold}
use Rattle.abc_meaning_sound.proofs.Jumping.{jumping_hold}
use Rattle.abc_meaning_sound.proofs.Plainly.{plain_hold}
use Rattle.abc_meaning_sound.proofs.plain_laws.plain_acts_hold.Goals as goal

pub returns : goal.returns
returns c = λ p typings file ops typed. jumping_hold p file ops typings typed (plain_acts (operation_acts [])) (plain_hold p file ops typings typed (operation_acts []) (operations_hold p file ops typings typed [] tt))
