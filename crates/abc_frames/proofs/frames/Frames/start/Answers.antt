use Rattle.std.proofs.Common.{refl, arith, length}
use Rattle.abc_frames.proofs.FrameCalls.{HasPlace, has_place, start_laid, start_is}
use Rattle.std.proofs.Common.{length-append}
use Rattle.abc_frames.specs.declared.records.Wait.TheVariants.{Not}
use Rattle.abc_heap_values.specs.declared.values.Value.{Value}
use Rattle.abc_frames.proofs.frames.Frames.start.Goals as goal

pub push-requires : goal.push-requires
push-requires c =
    let i = c.self.inside in
    let l = c.self.invariant in
    let q : HasPlace i.newest.marks i.below i.values c.args.entry.size = has_place i.newest i.below i.values i.scopes c.args.entry.size l (rw (← c.self.view_is) at c.requires.room) in
    omega (arith, q.frames)

pub head_over-self-inside-requires-clause-locals : goal.head_over-self-inside-requires-clause-locals
head_over-self-inside-requires-clause-locals c =
    let i = c.self.inside in
    let l = c.self.invariant in
    let q : HasPlace i.newest.marks i.below i.values c.args.entry.size = has_place i.newest i.below i.values i.scopes c.args.entry.size l (rw (← c.self.view_is) at c.requires.room) in
    omega (arith, q.values, l.newest.stack_room, l.newest.used, l.small, c.len-at.ensures.len)

pub head_over-self-inside-requires-clause-used : goal.head_over-self-inside-requires-clause-used
head_over-self-inside-requires-clause-used c =
    let i = c.self.inside in
    let l = c.self.invariant in
    let q : HasPlace i.newest.marks i.below i.values c.args.entry.size = has_place i.newest i.below i.values i.scopes c.args.entry.size l (rw (← c.self.view_is) at c.requires.room) in
    omega (arith, q.values, l.small)

pub extend-requires : goal.extend-requires
extend-requires c =
    let i = c.self.inside in
    let l = c.self.invariant in
    let q : HasPlace i.newest.marks i.below i.values c.args.entry.size = has_place i.newest i.below i.values i.scopes c.args.entry.size l (rw (← c.self.view_is) at c.requires.room) in
    omega (arith, q.values, l.newest.stack_room, l.newest.used, c.requires.locals)

pub fill-requires : goal.fill-requires
fill-requires c =
    let i = c.self.inside in
    let l = c.self.invariant in
    let q : HasPlace i.newest.marks i.below i.values c.args.entry.size = has_place i.newest i.below i.values i.scopes c.args.entry.size l (rw (← c.self.view_is) at c.requires.room) in
    rw c.extend.ensures (omega (arith, q.values, l.newest.stack_room, l.newest.used, c.requires.locals, length-append {A = Value}))

pub invariant_of-self : goal.invariant_of-self
invariant_of-self c =
    let i = c.self.inside in
    let l = c.self.invariant in
    let q : HasPlace i.newest.marks i.below i.values c.args.entry.size = has_place i.newest i.below i.values i.scopes c.args.entry.size l (rw (← c.self.view_is) at c.requires.room) in
    rw (c.head_over-self-inside.ensures, c.fill.ensures, c.extend.ensures, c.push.ensures, c.paused.ensures, c.len-at.ensures.len, c.len-scopes_at.ensures.len) (start_laid i.newest i.below i.values i.scopes c.args.locals.now c.args.entry.size (length c.args.locals.now) Not l q refl c.requires.locals)

pub returns : goal.returns
returns c =
    let i = c.self.inside in
    let l = c.self.invariant in
    let q : HasPlace i.newest.marks i.below i.values c.args.entry.size = has_place i.newest i.below i.values i.scopes c.args.entry.size l (rw (← c.self.view_is) at c.requires.room) in
    rw (c.head_over-self-inside.ensures, c.fill.ensures, c.extend.ensures, c.push.ensures, c.paused.ensures, c.len-at.ensures.len, c.len-scopes_at.ensures.len, ← c.self.view_is) (start_is i.newest i.below i.values i.scopes c.args.locals.now c.args.entry (length c.args.locals.now) refl c.requires.locals (rw (← c.self.view_is) at c.requires.none))
