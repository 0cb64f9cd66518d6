use Rattle.std.proofs.Common.{refl, arith}
use Rattle.abc_heap_store.proofs.Calls.{sizes_are}
use Rattle.abc_heap_store.proofs.store.Store.room.Goals as goal

pub returns-then-self-len : goal.returns-then-self-len
returns-then-self-len c =
    let s = sizes_are _ c.args.self.now c.self.inside.cells.items c.self.inside.heads.items c.self.view_is refl c.self.invariant.heads in
    omega (arith, s, c.len.ensures, c.self.invariant.limits.objects)

pub returns-then-from-cells : goal.returns-then-from-cells
returns-then-from-cells c =
    let s = sizes_are _ c.args.self.now c.self.inside.cells.items c.self.inside.heads.items c.self.view_is refl c.self.invariant.heads in
    (omega (arith, s, c.len.ensures, c.self.invariant.limits.objects), omega (arith, s, c.from.ensures, c.len-2.ensures, c.len-3.ensures, c.self.invariant.limits.within))

pub returns : goal.returns
returns c =
    let s = sizes_are _ c.args.self.now c.self.inside.cells.items c.self.inside.heads.items c.self.view_is refl c.self.invariant.heads in
    (omega (arith, s, c.len.ensures, c.self.invariant.limits.objects), omega (arith, s, c.from.ensures, c.len-2.ensures, c.len-3.ensures, c.self.invariant.limits.within))
