use Rattle.std.proofs.Common.{arith}
use Rattle.abc_frames.proofs.FrameCalls.{operands_from, cut_laid, cut_is}
use Rattle.abc_frames.proofs.frames.Frames.drop_operands.Goals as goal

pub overflow_sub-left : goal.overflow_sub-left
overflow_sub-left c =
    let i = c.self.inside in
    let l = c.self.invariant in
    let r = rw (← c.self.view_is) at c.requires.operands in
    let p = rw (← c.self.view_is) at c.requires.live in
    omega (arith, operands_from i.newest i.below i.values i.scopes c.args.count l r, c.len.ensures.len)

pub invariant_of-self : goal.invariant_of-self
invariant_of-self c =
    let i = c.self.inside in
    let l = c.self.invariant in
    let r = rw (← c.self.view_is) at c.requires.operands in
    let p = rw (← c.self.view_is) at c.requires.live in
    rw (c.cut.ensures, c.len.ensures.len) (cut_laid i.newest i.below i.values i.scopes c.args.count l r)

pub returns : goal.returns
returns c =
    let i = c.self.inside in
    let l = c.self.invariant in
    let r = rw (← c.self.view_is) at c.requires.operands in
    let p = rw (← c.self.view_is) at c.requires.live in
    rw (c.cut.ensures, c.len.ensures.len, ← c.self.view_is) (cut_is i.newest i.below i.values i.scopes c.args.count l r p)
