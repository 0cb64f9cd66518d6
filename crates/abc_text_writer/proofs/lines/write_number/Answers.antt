use Rattle.std.proofs.Common.{◌+◌, ◌-◌, ◌/◌, ◌%◌, ◌<◌, ◌^◌, ℕ, List, ◌∷◌, ◌∙◌, drop, ap, arith}
use Rattle.std.proofs.lemmas.Fmt.{length-decimal-le}
use Rattle.abc_text_writer.proofs.Padding.{behind_zeros, four}
use Rattle.abc_text_writer.proofs.lines.write_number.Goals as goal

pub overflow_sub-result : goal.overflow_sub-result
overflow_sub-result c = omega (arith, c.count_digits.ensures, length-decimal-le 10 c.args.n (omega arith) (omega arith) (omega arith))

pub returns-clause-start : goal.returns-clause-start
returns-clause-start c = omega (arith, c.count_digits.ensures, length-decimal-le 10 c.args.n (omega arith) (omega arith) (omega arith))

pub returns-clause-room : goal.returns-clause-room
returns-clause-room c = omega (arith, c.count_digits.ensures, length-decimal-le 10 c.args.n (omega arith) (omega arith) (omega arith))

pub returns-clause-written : goal.returns-clause-written
returns-clause-written c =
    let n = c.args.n in
    let less : n < 2 ^ 32 = omega arith in
    let long = length-decimal-le 10 n (omega arith) (omega arith) (omega arith) in
    behind_zeros c.write_pair.new.piece (drop 16 c.args.piece.now) n (16 - c.count_digits.result) less
    (omega (arith, c.count_digits.ensures, long)) (omega (arith, c.count_digits.ensures, long))
    (c.write_pair.ensures ∙ ap (λ (l : List ℕ). (48 + n / 100000000 / 10) ∷ (48 + n / 100000000 % 10) ∷ l) (c.write_four-2.ensures ∙ ap (four (n / 10000 % 10000)) c.write_four.ensures))
