use Rattle.abc_frames.proofs.FrameCalls.{home_is}
use Rattle.abc_frames.proofs.frames.Frames.home.Goals as goal

pub returns : goal.returns
returns c =
    let i = c.self.inside in
    let l = c.self.invariant in
    let r = rw (← c.self.view_is) at c.requires in
    rw (← c.self.view_is) (home_is i.newest i.below i.values i.scopes r)
