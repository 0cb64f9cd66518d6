use Rattle.abc_instr.proofs.Fronts.{plain_front}
use Rattle.abc_instr.proofs.front.put_plain_front.Goals as goal
use Rattle.abc_instr.specs.Scanning.{plain_bytes}

pub returns : goal.returns
returns c = plain_front plain_bytes c.args.bytes.now _ _ c.requires.room c.requires.form c.in_ok-put_u8.ensures
