use Rattle.std.proofs.Common.{◌-◌, refl, arith, length}
use Rattle.abc_frames.proofs.FrameCalls.{HasPlace, has_place, operands_from, with_laid, with_is}
use Rattle.std.proofs.Common.{length-append, take}
use Rattle.std.proofs.lemmas.List.{length-take-le}
use Rattle.abc_frames.proofs.frames.Frames.enter_with.Goals as goal

pub overflow_sub-at : goal.overflow_sub-at
overflow_sub-at c =
    let i = c.self.inside in
    let l = c.self.invariant in
    let q : HasPlace i.newest.marks i.below i.values c.args.entry.size = has_place i.newest i.below i.values i.scopes c.args.entry.size l (rw (← c.self.view_is) at c.requires.room) in
    let a = operands_from i.newest i.below i.values i.scopes c.args.taken l (rw (← c.self.view_is) at c.requires.operands) in
    omega (arith, a, c.len.ensures.len)

pub push-requires : goal.push-requires
push-requires c =
    let i = c.self.inside in
    let l = c.self.invariant in
    let q : HasPlace i.newest.marks i.below i.values c.args.entry.size = has_place i.newest i.below i.values i.scopes c.args.entry.size l (rw (← c.self.view_is) at c.requires.room) in
    let a = operands_from i.newest i.below i.values i.scopes c.args.taken l (rw (← c.self.view_is) at c.requires.operands) in
    omega (arith, q.frames)

pub head_over-self-inside-requires-clause-locals : goal.head_over-self-inside-requires-clause-locals
head_over-self-inside-requires-clause-locals c =
    let i = c.self.inside in
    let l = c.self.invariant in
    let q : HasPlace i.newest.marks i.below i.values c.args.entry.size = has_place i.newest i.below i.values i.scopes c.args.entry.size l (rw (← c.self.view_is) at c.requires.room) in
    let a = operands_from i.newest i.below i.values i.scopes c.args.taken l (rw (← c.self.view_is) at c.requires.operands) in
    omega (arith, q.values, l.newest.stack_room, l.newest.used, l.small, c.len.ensures.len)

pub head_over-self-inside-requires-clause-used : goal.head_over-self-inside-requires-clause-used
head_over-self-inside-requires-clause-used c =
    let i = c.self.inside in
    let l = c.self.invariant in
    let q : HasPlace i.newest.marks i.below i.values c.args.entry.size = has_place i.newest i.below i.values i.scopes c.args.entry.size l (rw (← c.self.view_is) at c.requires.room) in
    let a = operands_from i.newest i.below i.values i.scopes c.args.taken l (rw (← c.self.view_is) at c.requires.operands) in
    omega (arith, q.values, l.small)

pub extend-requires : goal.extend-requires
extend-requires c =
    let i = c.self.inside in
    let l = c.self.invariant in
    let q : HasPlace i.newest.marks i.below i.values c.args.entry.size = has_place i.newest i.below i.values i.scopes c.args.entry.size l (rw (← c.self.view_is) at c.requires.room) in
    let a = operands_from i.newest i.below i.values i.scopes c.args.taken l (rw (← c.self.view_is) at c.requires.operands) in
    rw (c.cut.ensures, c.len.ensures.len) (omega (arith, a, q.values, l.newest.stack_room, l.newest.used, c.requires.locals, length-take-le (length i.values.items - c.args.taken) i.values.items (omega arith)))

pub fill-requires : goal.fill-requires
fill-requires c =
    let i = c.self.inside in
    let l = c.self.invariant in
    let q : HasPlace i.newest.marks i.below i.values c.args.entry.size = has_place i.newest i.below i.values i.scopes c.args.entry.size l (rw (← c.self.view_is) at c.requires.room) in
    let a = operands_from i.newest i.below i.values i.scopes c.args.taken l (rw (← c.self.view_is) at c.requires.operands) in
    rw (c.extend.ensures, c.cut.ensures, c.len.ensures.len) (omega (arith, a, q.values, l.newest.stack_room, l.newest.used, c.requires.locals, length-append (take (length i.values.items - c.args.taken) i.values.items) c.args.locals.now, length-take-le (length i.values.items - c.args.taken) i.values.items (omega arith)))

pub invariant_of-self : goal.invariant_of-self
invariant_of-self c =
    let i = c.self.inside in
    let l = c.self.invariant in
    let q : HasPlace i.newest.marks i.below i.values c.args.entry.size = has_place i.newest i.below i.values i.scopes c.args.entry.size l (rw (← c.self.view_is) at c.requires.room) in
    let a = operands_from i.newest i.below i.values i.scopes c.args.taken l (rw (← c.self.view_is) at c.requires.operands) in
    rw (c.head_over-self-inside.ensures, c.fill.ensures, c.extend.ensures, c.cut.ensures, c.push.ensures, c.paused.ensures, c.len.ensures.len, c.len-scopes_at.ensures.len) (with_laid i.newest i.below i.values i.scopes c.args.locals.now c.args.entry.size c.args.taken (length c.args.locals.now) c.args.wait l q a refl c.requires.locals)

pub returns : goal.returns
returns c =
    let i = c.self.inside in
    let l = c.self.invariant in
    let q : HasPlace i.newest.marks i.below i.values c.args.entry.size = has_place i.newest i.below i.values i.scopes c.args.entry.size l (rw (← c.self.view_is) at c.requires.room) in
    let a = operands_from i.newest i.below i.values i.scopes c.args.taken l (rw (← c.self.view_is) at c.requires.operands) in
    rw (c.head_over-self-inside.ensures, c.fill.ensures, c.extend.ensures, c.cut.ensures, c.push.ensures, c.paused.ensures, c.len.ensures.len, c.len-scopes_at.ensures.len, ← c.self.view_is) (with_is i.newest i.below i.values i.scopes c.args.locals.now c.args.entry c.args.taken (length c.args.locals.now) c.args.wait l (rw (← c.self.view_is) at c.requires.operands) refl c.requires.locals (rw (← c.self.view_is) at c.requires.live))
