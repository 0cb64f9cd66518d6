-- The law of the narrow text.
use Rattle.abc_disasm.proofs.Narrowing.{narrow_same}
use Rattle.abc_disasm.proofs.roundtrip_laws.texts_widened.Goals as goal

pub returns : goal.returns
returns c = narrow_same
