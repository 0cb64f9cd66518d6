use Rattle.abc_frames.proofs.FrameCalls.{place_is}
use Rattle.abc_frames.proofs.frames.Frames.place.Goals as goal

pub returns : goal.returns
returns c =
    let i = c.self.inside in
    let l = c.self.invariant in
    let r = rw (← c.self.view_is) at c.requires in
    rw (← c.self.view_is) (place_is i.newest i.below i.values i.scopes r)
