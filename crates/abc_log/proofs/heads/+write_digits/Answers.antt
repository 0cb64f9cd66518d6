use Rattle.abc_log.proofs.Digits.{no_digits, nothing_added}
use Rattle.abc_log.proofs.heads.+write_digits.Goals as goal

pub returns-then-count-eq0-clause-bytes : goal.returns-then-count-eq0-clause-bytes
returns-then-count-eq0-clause-bytes g t c = λ some. nothing_added _ _ (no_digits c.args.count c.args.number c.if-count-eq0.true)
