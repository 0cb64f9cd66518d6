use Rattle.std.proofs.Common.{ap, refl, arith}
use Rattle.abc_heap_store.specs.Heap.{Heap}
use Rattle.abc_heap_store.proofs.Calls.{used_is}
use Rattle.abc_heap_store.proofs.store.Store.push_element.Goals as goal

pub returns-then-len-self : goal.returns-then-len-self
returns-then-len-self c =
    let used = used_is _ c.args.self.now c.self.inside.cells.items c.self.inside.heads.items c.self.view_is refl c.self.invariant.heads in
    (refl, omega (arith, used, c.len.ensures.len, c.len-2.ensures.len, ap (λ (h : Heap). h.limits.cells) c.self.view_is), refl)

pub add_element-requires-clause-room : goal.add_element-requires-clause-room
add_element-requires-clause-room c =
    let used = used_is _ c.args.self.now c.self.inside.cells.items c.self.inside.heads.items c.self.view_is refl c.self.invariant.heads in
    omega (arith, used, c.self.invariant.limits.within, c.len.ensures.len, c.len-2.ensures.len, ap (λ (h : Heap). h.limits.cells) c.self.view_is)

pub returns : goal.returns
returns c =
    let used = used_is _ c.args.self.now c.self.inside.cells.items c.self.inside.heads.items c.self.view_is refl c.self.invariant.heads in
    (omega (arith, used, c.self.invariant.limits.within, c.len.ensures.len, c.len-2.ensures.len, ap (λ (h : Heap). h.limits.cells) c.self.view_is), c.add_element.ensures)
