use Rattle.std.proofs.Common.{arith}
use Rattle.abc_frames.proofs.FrameCalls.{operand_at, set_laid, set_operand_is}
use Rattle.abc_frames.proofs.frames.Frames.set_operand.Goals as goal

pub overflow_sub-i : goal.overflow_sub-i
overflow_sub-i c =
    let i = c.self.inside in
    let l = c.self.invariant in
    let r = rw (← c.self.view_is) at c.requires in
    omega (arith, operand_at i.newest i.below i.values i.scopes c.args.n l r, c.len.ensures.len)

pub overflow_sub-i-2 : goal.overflow_sub-i-2
overflow_sub-i-2 c =
    let i = c.self.inside in
    let l = c.self.invariant in
    let r = rw (← c.self.view_is) at c.requires in
    omega (arith, operand_at i.newest i.below i.values i.scopes c.args.n l r, c.len.ensures.len)

pub set-requires : goal.set-requires
set-requires c =
    let i = c.self.inside in
    let l = c.self.invariant in
    let r = rw (← c.self.view_is) at c.requires in
    omega (arith, operand_at i.newest i.below i.values i.scopes c.args.n l r, c.len.ensures.len)

pub invariant_of-self : goal.invariant_of-self
invariant_of-self c =
    let i = c.self.inside in
    let l = c.self.invariant in
    let r = rw (← c.self.view_is) at c.requires in
    rw c.set.ensures (set_laid i.newest i.below i.values i.scopes _ c.args.v l)

pub returns : goal.returns
returns c =
    let i = c.self.inside in
    let l = c.self.invariant in
    let r = rw (← c.self.view_is) at c.requires in
    rw (c.set.ensures, c.len.ensures.len, ← c.self.view_is) (set_operand_is i.newest i.below i.values i.scopes c.args.n c.args.v l r)
