use Rattle.std.proofs.Common.{◌<◌, length, None, Some, arith, rules}
use Rattle.std.specs.Prelude.{codes}
use Rattle.std.proofs.lemmas.Bool.Decides.{Decides-eqb}
use Rattle.std.proofs.lemmas.Slice.Eq.{strip_prefix_is}
use Rattle.abc_log.proofs.Lined.{no_numbers, no_word, text_of, too_great}
use Rattle.abc_log.proofs.limits.limits_in.Goals as goal

pub returns-in_err-rest-clause-none : goal.returns-in_err-rest-clause-none
returns-in_err-rest-clause-none c = rw c.from_residual.ensures (no_word c.args.line.now (strip_prefix_is Decides-eqb c.args.line.now (codes "limits") None c.in_err-rest.ensures.cases))

pub returns-then-not-read_numbers-clause-none : goal.returns-then-not-read_numbers-clause-none
returns-then-not-read_numbers-clause-none c =
    no_numbers c.args.line.now c.in_ok-rest.rest.now (strip_prefix_is Decides-eqb c.args.line.now (codes "limits") (Some c.in_ok-rest.rest) c.in_ok-rest.ensures.cases) c.if-not-read_numbers.ensures.none

pub returns-then-objects-gt-GREATEST-clause-none : goal.returns-then-objects-gt-GREATEST-clause-none
returns-then-objects-gt-GREATEST-clause-none c =
    too_great c.args.line.now c.in_ok-rest.rest.now c.read_numbers.new.numbers (strip_prefix_is Decides-eqb c.args.line.now (codes "limits") (Some c.in_ok-rest.rest) c.in_ok-rest.ensures.cases)
    c.if-not-read_numbers.ensures.all (search rules) c.if-not-read_numbers.ensures.small (λ within. omega (arith, c.then-objects-gt-GREATEST.either))

pub returns-clause-some : goal.returns-clause-some
returns-clause-some c =
    text_of c.args.line.now c.in_ok-rest.rest.now c.read_numbers.new.numbers (strip_prefix_is Decides-eqb c.args.line.now (codes "limits") (Some c.in_ok-rest.rest) c.in_ok-rest.ensures.cases)
    c.if-not-read_numbers.ensures.all (search rules)

pub returns-clause-limits : goal.returns-clause-limits
returns-clause-limits c =
    let few : 0 < length c.read_numbers.new.numbers = search rules in
    record { steps = c.if-not-read_numbers.ensures.small 0 few; objects = omega arith; cells = omega arith; text = omega arith; frames = omega arith; stack = omega arith }
