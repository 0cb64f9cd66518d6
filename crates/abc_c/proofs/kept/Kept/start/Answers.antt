use Rattle.abc_base.specs.Hosts.{builtin_formulas}
use Rattle.abc_c.proofs.kept.Kept.start.Goals as goal

pub invariant_of-self : goal.invariant_of-self
invariant_of-self c = record {
  beside = c.sessions_stay_beside.ensures.started c.args.self.now.session c.start.new.self c.start.result c.args.fuel builtin_formulas builtin_formulas c.start.ensures.keeps c.start.ensures.leaves (λ e was. (c.start.ensures.again e was).2) c.args.self.now.beside;
}

pub returns : goal.returns
returns c = record { runs = c.start.ensures.ends c.requires; leaves = c.start.ensures.leaves c.requires; ended = c.start.ensures.keeps }
