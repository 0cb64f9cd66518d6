use Rattle.abc_frames.proofs.FrameCalls.{catch_room, catch_laid, catch_is}
use Rattle.abc_frames.proofs.frames.Frames.catch_at.Goals as goal

pub push-requires : goal.push-requires
push-requires c =
    let i = c.self.inside in
    let l = c.self.invariant in
    let r = rw (← c.self.view_is) at c.requires in
    rw c.cut.ensures (catch_room i.newest i.below i.values i.scopes l r)

pub invariant_of-self : goal.invariant_of-self
invariant_of-self c =
    let i = c.self.inside in
    let l = c.self.invariant in
    let r = rw (← c.self.view_is) at c.requires in
    rw (c.push.ensures, c.cut-2.ensures, c.cut.ensures) (catch_laid i.newest i.below i.values i.scopes c.args.v l r)

pub returns : goal.returns
returns c =
    let i = c.self.inside in
    let l = c.self.invariant in
    let r = rw (← c.self.view_is) at c.requires in
    rw (c.push.ensures, c.cut-2.ensures, c.cut.ensures, ← c.self.view_is) (catch_is i.newest i.below i.values i.scopes c.args.v c.args.target l r)
