use Rattle.abc_meaning.proofs.Coercing.{computes_coercion}
use Rattle.abc_meaning.proofs.type_laws.coercion_is_computed.Goals as goal

pub returns : goal.returns
returns c = computes_coercion
