use Rattle.abc_verify_typing.proofs.Examples.{rule_examples, typed_examples}
use Rattle.abc_verify_typing.proofs.example_laws.examples_hold.Goals as goal

pub returns-clause-typed : goal.returns-clause-typed
returns-clause-typed c = typed_examples

pub returns-clause-refuted : goal.returns-clause-refuted
returns-clause-refuted c = rule_examples
