-- The law of the bodies of texts.
use Rattle.abc_disasm.proofs.Readied.{text_ready}
use Rattle.abc_disasm.proofs.range_laws.texts_have_ready_bodies.Goals as goal

pub returns : goal.returns
returns c = λ text v is. text_ready v text is
