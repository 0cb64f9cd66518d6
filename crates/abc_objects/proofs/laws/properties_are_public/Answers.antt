use Rattle.abc_objects.proofs.Hiding.{finds_traits_alone}
use Rattle.abc_objects.proofs.laws.properties_are_public.Goals as goal

pub returns : goal.returns
returns c = finds_traits_alone
