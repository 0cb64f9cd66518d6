use Rattle.std.proofs.Common.{ap, refl, sym}
use Rattle.abc_heap_store.specs.Heap.{Heap, Object}
use Rattle.abc_heap_store.proofs.Calls.{object_in, object_seen}
use Rattle.abc_heap_store.proofs.store.Store.delegate.Goals as goal

pub head_at-requires : goal.head_at-requires
head_at-requires c = object_in c.self.inside.cells.items c.self.inside.heads.items c.args.self.now c.args.o.0 (ap (λ (h : Heap). h.objects) c.self.view_is) c.requires

pub returns : goal.returns
returns c = ap (λ (ob : Object). ob.delegate) (sym (object_seen _ c.args.self.now c.self.inside.cells.items c.self.inside.heads.items c.args.o.0 _ c.self.view_is refl c.head_at.ensures))
