use Rattle.std.proofs.Common.{arith}
use Rattle.abc_frames.proofs.FrameCalls.{local_at, local_is}
use Rattle.abc_frames.proofs.frames.Frames.local.Goals as goal

pub overflow_add-self-inside : goal.overflow_add-self-inside
overflow_add-self-inside c =
    let i = c.self.inside in
    let l = c.self.invariant in
    let r = rw (← c.self.view_is) at c.requires in
    omega (arith, local_at i.newest i.below i.values i.scopes c.args.n l r, l.newest.stack, l.newest.used, l.used, l.small)

pub get-requires : goal.get-requires
get-requires c =
    let i = c.self.inside in
    let l = c.self.invariant in
    let r = rw (← c.self.view_is) at c.requires in
    omega (arith, local_at i.newest i.below i.values i.scopes c.args.n l r, l.newest.stack)

pub returns : goal.returns
returns c =
    let i = c.self.inside in
    let l = c.self.invariant in
    let r = rw (← c.self.view_is) at c.requires in
    rw (← c.self.view_is) (local_is i.newest i.below i.values i.scopes c.args.n c.get.result l r c.get.ensures)
