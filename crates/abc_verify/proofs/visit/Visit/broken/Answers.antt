use Rattle.abc_verify.specs.Visits.{here_in}
use Rattle.abc_verify.proofs.Kept.{none_broken}
use Rattle.abc_verify.proofs.visit.Visit.broken.Goals as goal

pub returns-then-keeps_all : goal.returns-then-keeps_all
returns-then-keeps_all c = none_broken (here_in c.args.self.now) c.args.state.now c.keeps_all.result c.if-keeps_all.true c.keeps_all.ensures
