use Rattle.abc_instr.specs.Reading.{done_in}
use Rattle.abc_instr.proofs.Fronts.{plain_front}
use Rattle.abc_instr.proofs.push.push_plain.Goals as goal

pub returns : goal.returns
returns c = plain_front done_in c.args.bytes.now _ _ c.requires.room c.requires.form c.in_ok-push.ensures.ok
