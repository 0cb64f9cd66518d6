use Rattle.std.proofs.Common.{arith}
use Rattle.abc_frames.proofs.FrameCalls.{operand_at, operand_is}
use Rattle.abc_frames.proofs.frames.Frames.operand.Goals as goal

pub overflow_sub-len : goal.overflow_sub-len
overflow_sub-len c =
    let i = c.self.inside in
    let l = c.self.invariant in
    let r = rw (← c.self.view_is) at c.requires in
    omega (arith, operand_at i.newest i.below i.values i.scopes c.args.n l r, c.len.ensures.len)

pub overflow_sub-len-2 : goal.overflow_sub-len-2
overflow_sub-len-2 c =
    let i = c.self.inside in
    let l = c.self.invariant in
    let r = rw (← c.self.view_is) at c.requires in
    omega (arith, operand_at i.newest i.below i.values i.scopes c.args.n l r, c.len.ensures.len)

pub get-requires : goal.get-requires
get-requires c =
    let i = c.self.inside in
    let l = c.self.invariant in
    let r = rw (← c.self.view_is) at c.requires in
    omega (arith, operand_at i.newest i.below i.values i.scopes c.args.n l r, c.len.ensures.len)

pub returns : goal.returns
returns c =
    let i = c.self.inside in
    let l = c.self.invariant in
    let r = rw (← c.self.view_is) at c.requires in
    rw (← c.self.view_is) (operand_is i.newest i.below i.values i.scopes c.args.n c.get.result l r (rw c.len.ensures.len at c.get.ensures))
