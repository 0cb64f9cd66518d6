use Rattle.std.proofs.Common.{sym}
use Rattle.abc_frames.proofs.FrameCalls.{depth_is}
use Rattle.abc_frames.proofs.frames.Frames.depth.Goals as goal

pub returns : goal.returns
returns c =
    let i = c.self.inside in
    let l = c.self.invariant in
    rw (c.len.ensures.len, ← c.self.view_is) (sym (depth_is i.newest i.below i.values i.scopes))
