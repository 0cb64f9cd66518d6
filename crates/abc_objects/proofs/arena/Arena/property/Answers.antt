use Rattle.std.proofs.Common.{◌∙◌, ap, sym, subst}
use Rattle.abc_heap_store.specs.Heap.{Heap}
use Rattle.abc_heap_store.specs.Texts.{IsText}
use Rattle.abc_heap_store.specs.Properties.{property_in_heap}
use Rattle.abc_objects.specs.Stands.{StandsOver}
use Rattle.abc_objects.proofs.arena.Arena.property.Goals as goal

pub property-requires-clause-name : goal.property-requires-clause-name
property-requires-clause-name c =
    let h = c.self.inside.store in
    let s = subst (StandsOver c.args.l.now) (sym c.self.view_is) c.requires.over in
    subst (λ ps. IsText ps h c.args.name) (sym s.strings) (subst (λ (y : Heap). IsText c.args.l.now.file.strings y c.args.name) (sym c.self.view_is) c.requires.name)

pub returns : goal.returns
returns c =
    let h = c.self.inside.store in
    let s = subst (StandsOver c.args.l.now) (sym c.self.view_is) c.requires.over in
    c.property.ensures ∙ (ap (λ ps. property_in_heap ps h c.args.o.0 c.args.name) s.strings ∙ ap (λ (y : Heap). property_in_heap c.args.l.now.file.strings y c.args.o.0 c.args.name) c.self.view_is)
