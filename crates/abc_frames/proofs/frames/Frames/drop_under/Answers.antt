use Rattle.std.proofs.Common.{◌+◌, arith}
use Rattle.abc_frames.proofs.FrameCalls.{operands_from, under_laid, under_is}
use Rattle.abc_frames.proofs.frames.Frames.drop_under.Goals as goal

pub overflow_sub-from : goal.overflow_sub-from
overflow_sub-from c =
    let i = c.self.inside in
    let l = c.self.invariant in
    let r = rw (← c.self.view_is) at c.requires.operands in
    let p = rw (← c.self.view_is) at c.requires.live in
    omega (arith, operands_from i.newest i.below i.values i.scopes (c.args.kept + c.args.count) l r, c.len.ensures.len)

pub overflow_sub-from-2 : goal.overflow_sub-from-2
overflow_sub-from-2 c =
    let i = c.self.inside in
    let l = c.self.invariant in
    let r = rw (← c.self.view_is) at c.requires.operands in
    let p = rw (← c.self.view_is) at c.requires.live in
    omega (arith, operands_from i.newest i.below i.values i.scopes (c.args.kept + c.args.count) l r, c.len.ensures.len)

pub take_out-requires : goal.take_out-requires
take_out-requires c =
    let i = c.self.inside in
    let l = c.self.invariant in
    let r = rw (← c.self.view_is) at c.requires.operands in
    let p = rw (← c.self.view_is) at c.requires.live in
    omega (arith, operands_from i.newest i.below i.values i.scopes (c.args.kept + c.args.count) l r, c.len.ensures.len)

pub invariant_of-self : goal.invariant_of-self
invariant_of-self c =
    let i = c.self.inside in
    let l = c.self.invariant in
    let r = rw (← c.self.view_is) at c.requires.operands in
    let p = rw (← c.self.view_is) at c.requires.live in
    rw (c.take_out.ensures, c.len.ensures.len) (under_laid i.newest i.below i.values i.scopes c.args.kept c.args.count l r)

pub returns : goal.returns
returns c =
    let i = c.self.inside in
    let l = c.self.invariant in
    let r = rw (← c.self.view_is) at c.requires.operands in
    let p = rw (← c.self.view_is) at c.requires.live in
    rw (c.take_out.ensures, c.len.ensures.len, ← c.self.view_is) (under_is i.newest i.below i.values i.scopes c.args.kept c.args.count l r p)
