use Rattle.abc_frames.proofs.FrameCalls.{go_is}
use Rattle.abc_frames.proofs.frames.Frames.go.Goals as goal

pub returns : goal.returns
returns c =
    let i = c.self.inside in
    let l = c.self.invariant in
    let r = rw (← c.self.view_is) at c.requires in
    rw (← c.self.view_is) (go_is i.newest i.below i.values i.scopes c.args.place r)
