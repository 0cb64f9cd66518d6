use Rattle.std.proofs.Common.{◌+◌, arith}
use Rattle.abc_frames.proofs.FrameCalls.{HasPlace, has_place, operands_from, enter_laid, enter_is}
use Rattle.abc_frames.proofs.frames.Frames.enter.Goals as goal

pub overflow_sub-at : goal.overflow_sub-at
overflow_sub-at c =
    let i = c.self.inside in
    let l = c.self.invariant in
    let q : HasPlace i.newest.marks i.below i.values c.args.entry.size = has_place i.newest i.below i.values i.scopes c.args.entry.size l (rw (← c.self.view_is) at c.requires.room) in
    let a = operands_from i.newest i.below i.values i.scopes (c.args.args + c.args.more) l (rw (← c.self.view_is) at c.requires.operands) in
    omega (arith, a, c.len.ensures.len)

pub overflow_sub-at-2 : goal.overflow_sub-at-2
overflow_sub-at-2 c =
    let i = c.self.inside in
    let l = c.self.invariant in
    let q : HasPlace i.newest.marks i.below i.values c.args.entry.size = has_place i.newest i.below i.values i.scopes c.args.entry.size l (rw (← c.self.view_is) at c.requires.room) in
    let a = operands_from i.newest i.below i.values i.scopes (c.args.args + c.args.more) l (rw (← c.self.view_is) at c.requires.operands) in
    omega (arith, a, c.len.ensures.len)

pub push-requires : goal.push-requires
push-requires c =
    let i = c.self.inside in
    let l = c.self.invariant in
    let q : HasPlace i.newest.marks i.below i.values c.args.entry.size = has_place i.newest i.below i.values i.scopes c.args.entry.size l (rw (← c.self.view_is) at c.requires.room) in
    let a = operands_from i.newest i.below i.values i.scopes (c.args.args + c.args.more) l (rw (← c.self.view_is) at c.requires.operands) in
    omega (arith, q.frames)

pub head_over-self-inside-requires-clause-locals : goal.head_over-self-inside-requires-clause-locals
head_over-self-inside-requires-clause-locals c =
    let i = c.self.inside in
    let l = c.self.invariant in
    let q : HasPlace i.newest.marks i.below i.values c.args.entry.size = has_place i.newest i.below i.values i.scopes c.args.entry.size l (rw (← c.self.view_is) at c.requires.room) in
    let a = operands_from i.newest i.below i.values i.scopes (c.args.args + c.args.more) l (rw (← c.self.view_is) at c.requires.operands) in
    omega (arith, q.values, l.newest.stack_room, l.newest.used, l.small, c.len.ensures.len)

pub head_over-self-inside-requires-clause-used : goal.head_over-self-inside-requires-clause-used
head_over-self-inside-requires-clause-used c =
    let i = c.self.inside in
    let l = c.self.invariant in
    let q : HasPlace i.newest.marks i.below i.values c.args.entry.size = has_place i.newest i.below i.values i.scopes c.args.entry.size l (rw (← c.self.view_is) at c.requires.room) in
    let a = operands_from i.newest i.below i.values i.scopes (c.args.args + c.args.more) l (rw (← c.self.view_is) at c.requires.operands) in
    omega (arith, q.values, l.small)

pub fill-requires : goal.fill-requires
fill-requires c =
    let i = c.self.inside in
    let l = c.self.invariant in
    let q : HasPlace i.newest.marks i.below i.values c.args.entry.size = has_place i.newest i.below i.values i.scopes c.args.entry.size l (rw (← c.self.view_is) at c.requires.room) in
    let a = operands_from i.newest i.below i.values i.scopes (c.args.args + c.args.more) l (rw (← c.self.view_is) at c.requires.operands) in
    omega (arith, q.values, l.newest.stack_room, l.newest.used)

pub invariant_of-self : goal.invariant_of-self
invariant_of-self c =
    let i = c.self.inside in
    let l = c.self.invariant in
    let q : HasPlace i.newest.marks i.below i.values c.args.entry.size = has_place i.newest i.below i.values i.scopes c.args.entry.size l (rw (← c.self.view_is) at c.requires.room) in
    let a = operands_from i.newest i.below i.values i.scopes (c.args.args + c.args.more) l (rw (← c.self.view_is) at c.requires.operands) in
    rw (c.head_over-self-inside.ensures, c.fill.ensures, c.push.ensures, c.paused.ensures, c.len.ensures.len, c.len-scopes_at.ensures.len) (enter_laid i.newest i.below i.values i.scopes c.args.entry.size c.args.args c.args.more c.args.wait l q a c.requires.locals)

pub returns : goal.returns
returns c =
    let i = c.self.inside in
    let l = c.self.invariant in
    let q : HasPlace i.newest.marks i.below i.values c.args.entry.size = has_place i.newest i.below i.values i.scopes c.args.entry.size l (rw (← c.self.view_is) at c.requires.room) in
    let a = operands_from i.newest i.below i.values i.scopes (c.args.args + c.args.more) l (rw (← c.self.view_is) at c.requires.operands) in
    rw (c.head_over-self-inside.ensures, c.fill.ensures, c.push.ensures, c.paused.ensures, c.len.ensures.len, c.len-scopes_at.ensures.len, ← c.self.view_is) (enter_is i.newest i.below i.values i.scopes c.args.entry c.args.args c.args.more c.args.wait l (rw (← c.self.view_is) at c.requires.operands) c.requires.locals (rw (← c.self.view_is) at c.requires.live))
