use Rattle.abc_verify_typing.specs.Effects.{stack_below}
use Rattle.abc_verify.specs.Visits.{here_in}
use Rattle.abc_verify.proofs.Plain.{plain_suits}
use Rattle.abc_verify.proofs.visit.Visit.all_suit.Goals as goal

pub returns-then-asked : goal.returns-then-asked
returns-then-asked c = plain_suits (here_in c.args.self.now) c.args.asked.now c.args.rule (stack_below (here_in c.args.self.now) c.args.state.now) c.requires c.if-asked.true
