use Rattle.std.proofs.Common.{[], refl}
use Rattle.abc_cli_answers.specs.Generated.{public_name}
use Rattle.abc_cli_answers.proofs.Listed.{one_more}
use Rattle.abc_cli_answers.proofs.making.names.Goals as goal

pub loop-string-preserved : goal.loop-string-preserved
loop-string-preserved c = one_more public_name c.loop-string.string [] _ _ _ c.in_ok-push.ensures.ok c.loop-string.invariant refl
