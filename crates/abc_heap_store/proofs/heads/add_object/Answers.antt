use Rattle.std.proofs.Common.{◌∙◌, ap, refl, sym, subst}
use Rattle.abc_heap_values.specs.Filling.{Filling}
use Rattle.abc_heap_values.specs.Links.{links}
use Rattle.abc_heap_store.specs.declared.heads.Head.{Head}
use Rattle.abc_heap_store.specs.View.{objects, AreObjectHeads}
use Rattle.abc_heap_store.proofs.Makes.{object_added, head_added, filling_begins}
use Rattle.abc_heap_store.proofs.heads.add_object.Goals as goal

pub returns-clause-objects : goal.returns-clause-objects
returns-clause-objects c = ap (λ (f : Filling Head). objects c.args.cells.now.items 0 f.items) c.push.ensures ∙ object_added c.args.cells.now.items c.args.heads.now.items _ c.requires.heads

pub returns-clause-heads : goal.returns-clause-heads
returns-clause-heads c = subst (λ (f : Filling Head). AreObjectHeads (links c.args.cells.now.items) f.items) (sym c.push.ensures) (head_added c.args.cells.now.items c.args.heads.now.items _ c.requires.heads refl c.requires.what)

pub returns-clause-next : goal.returns-clause-next
returns-clause-next c = filling_begins c.args.cells.now.items c.args.heads.now.items c.push.new.self.items _ c.len-o.result c.requires.heads (ap (λ (f : Filling Head). f.items) c.push.ensures) c.len-o.ensures.len c.len.ensures.len
