use Rattle.std.proofs.Common.{◌≡◌, drop}
use Rattle.abc_verify_typing.specs.Rules.{first_broken, keeps}
use Rattle.abc_verify.specs.Visits.{here_in}
use Rattle.abc_verify.proofs.visit.Visit.first_broken.Given as goal

abbrev pub invariant-loop-rule : goal.invariant-loop-rule
invariant-loop-rule l = first_broken (keeps (here_in l.self) l.state) l.rules ≡ first_broken (keeps (here_in l.self) l.state) (drop l.rule-index l.rules)
