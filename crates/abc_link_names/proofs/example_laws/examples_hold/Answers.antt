use Rattle.abc_link_names.proofs.Examples.{rule_examples}
use Rattle.abc_link_names.proofs.example_laws.examples_hold.Goals as goal

pub returns : goal.returns
returns c = rule_examples
