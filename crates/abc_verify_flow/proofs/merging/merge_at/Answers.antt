use Rattle.abc_verify_flow.proofs.Places.{met_first, met_joined, met_same}
use Rattle.abc_verify_flow.proofs.merging.merge_at.Goals as goal

pub returns-in_ok-add-in-First : goal.returns-in_ok-add-in-First
returns-in_ok-add-in-First g c = met_first _ _ _ _ _ _ _ _ _ c.requires.linked (rw c.in-First.is at c.in_ok-meet.ensures) c.in_ok-add-in-First.ensures c.requires.opened c.requires.ready

pub returns-in_ok-add-in-Joined : goal.returns-in_ok-add-in-Joined
returns-in_ok-add-in-Joined g c = met_joined _ _ _ _ _ _ _ _ _ (rw c.in-Joined.is at c.in_ok-meet.ensures) c.in_ok-add-in-Joined.ensures c.requires.opened c.requires.ready

pub returns-in-Same : goal.returns-in-Same
returns-in-Same g c = met_same _ _ _ _ _ c.args.work.now c.args.work.now _ _ (rw c.in-Same.is at c.in_ok-meet.ensures) c.requires.opened
