use Rattle.abc_frames.proofs.FrameCalls.{method_is}
use Rattle.abc_frames.proofs.frames.Frames.method.Goals as goal

pub returns : goal.returns
returns c =
    let i = c.self.inside in
    let l = c.self.invariant in
    let r = rw (← c.self.view_is) at c.requires in
    rw (← c.self.view_is) (method_is i.newest i.below i.values i.scopes r)
