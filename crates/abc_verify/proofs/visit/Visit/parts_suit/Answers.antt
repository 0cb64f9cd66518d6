use Rattle.abc_verify.proofs.Asking.{parts_suit}
use Rattle.abc_verify.specs.Visits.{here_in}
use Rattle.abc_verify.proofs.visit.Visit.parts_suit.Goals as goal

pub returns-then-one_suits : goal.returns-then-one_suits
returns-then-one_suits c = parts_suit (here_in c.args.self.now) c.args.rule c.args.parts c.args.stack.now c.args.at c.one_suits.result c.one_suits-then-one_suits.result c.in-true-true.is-0 c.in-true-true.is-1 c.one_suits.ensures c.if-one_suits.true c.one_suits-then-one_suits.ensures
