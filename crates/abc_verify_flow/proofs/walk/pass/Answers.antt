use Rattle.std.proofs.Common.{refl}
use Rattle.abc_verify_typing.specs.Typing.{Broken}
use Rattle.abc_verify_flow.proofs.Walks.{jumps_ready, next_ready, now_seen, passed}
use Rattle.abc_verify_flow.proofs.walk.pass.Goals as goal

pub jump_if-requires-clause-ready : goal.jump_if-requires-clause-ready
jump_if-requires-clause-ready g c =
    let tried = rw c.in-Steps.is at c.in_ok-trial.ensures in
    jumps_ready _ _ _ _ _ _ _ c.requires.heads c.requires.derived tried.0 tried.1

pub arrive-requires-clause-ready : goal.arrive-requires-clause-ready
arrive-requires-clause-ready g c =
    let tried = rw c.in-Steps.is at c.in_ok-trial.ensures in
    next_ready _ _ (g.F.Flow.heads c.args.flow.now) _ _ _ _ c.requires.derived tried.0 tried.1

pub returns-in-Breaks : goal.returns-in-Breaks
returns-in-Breaks g c = Broken c.args.now.now c.in-Breaks.rule c.requires.derived (rw c.in-Breaks.is at c.in_ok-trial.ensures)

pub returns-in_ok-onward-in-Steps : goal.returns-in_ok-onward-in-Steps
returns-in_ok-onward-in-Steps g c =
    let tried = rw c.in-Steps.is at c.in_ok-trial.ensures in
    passed _ _ _ _ _ _ _ _ _ _ _ _ _ _ _ _ c.in_ok-onward-in-Steps.onward
    (now_seen _ _ _ _ _ _ _ _ _ c.requires.heads c.requires.derived tried.0 refl c.requires.pending c.note.ensures)
    c.requires.derived
    tried.0
    tried.1
    c.in_ok-jump_if-in-Steps.ensures
    c.in_ok-onward-in-Steps.ensures
