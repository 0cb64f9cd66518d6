use Rattle.std.proofs.Common.{arith, rules}
use Rattle.std.proofs.lemmas.Fmt.{length-decimal-le}
use Rattle.abc_text_writer.proofs.tokens.put_any_digits.Goals as goal

pub write_digits-at-requires : goal.write_digits-at-requires
write_digits-at-requires c = (omega (arith, length-decimal-le 10 c.args.n (omega arith) (omega arith) (omega arith)), search rules)
