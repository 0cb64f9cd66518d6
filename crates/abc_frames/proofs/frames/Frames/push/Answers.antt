use Rattle.abc_frames.proofs.FrameCalls.{push_room, push_laid, push_is}
use Rattle.abc_frames.proofs.frames.Frames.push.Goals as goal

pub push-requires : goal.push-requires
push-requires c =
    let i = c.self.inside in
    let l = c.self.invariant in
    let r = rw (← c.self.view_is) at c.requires in
    push_room i.newest i.below i.values i.scopes l r

pub invariant_of-self : goal.invariant_of-self
invariant_of-self c =
    let i = c.self.inside in
    let l = c.self.invariant in
    let r = rw (← c.self.view_is) at c.requires in
    rw c.push.ensures (push_laid i.newest i.below i.values i.scopes c.args.v l r)

pub returns : goal.returns
returns c =
    let i = c.self.inside in
    let l = c.self.invariant in
    let r = rw (← c.self.view_is) at c.requires in
    rw (c.push.ensures, ← c.self.view_is) (push_is i.newest i.below i.values i.scopes c.args.v l r)
