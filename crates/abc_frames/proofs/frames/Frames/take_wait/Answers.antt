use Rattle.abc_frames.proofs.FrameCalls.{wait_is, take_wait_is}
use Rattle.abc_frames.proofs.frames.Frames.take_wait.Goals as goal

pub returns-clause-wait : goal.returns-clause-wait
returns-clause-wait c =
    let i = c.self.inside in
    let l = c.self.invariant in
    let r = rw (← c.self.view_is) at c.requires in
    rw (← c.self.view_is) (wait_is i.newest i.below i.values i.scopes r)

pub returns-clause-frames : goal.returns-clause-frames
returns-clause-frames c =
    let i = c.self.inside in
    let l = c.self.invariant in
    let r = rw (← c.self.view_is) at c.requires in
    rw (← c.self.view_is) (take_wait_is i.newest i.below i.values i.scopes r)
