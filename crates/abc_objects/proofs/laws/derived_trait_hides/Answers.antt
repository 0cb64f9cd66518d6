use Rattle.abc_objects.proofs.Hiding.{hides_its_base}
use Rattle.abc_objects.proofs.laws.derived_trait_hides.Goals as goal

pub returns : goal.returns
returns c = hides_its_base
