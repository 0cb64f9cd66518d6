use Rattle.std.proofs.Common.{◌≡◌, ◌∙◌, ap, is_some, sym, subst}
use Rattle.abc_heap_store.specs.Heap.{Heap}
use Rattle.abc_heap_store.specs.Texts.{IsText, text_of}
use Rattle.abc_heap_store.specs.Properties.{with_delete, place_of_property}
use Rattle.abc_heap_store.specs.Changes.{with_object}
use Rattle.abc_objects.specs.Stands.{StandsOver}
use Rattle.abc_objects.proofs.Kept.{over_changed}
use Rattle.abc_objects.proofs.Reshaped.{delete_reshapes}
use Rattle.abc_objects.proofs.arena.Arena.delete_property.Goals as goal

pub delete_property-requires-clause-name : goal.delete_property-requires-clause-name
delete_property-requires-clause-name c =
    let h = c.self.inside.store in
    let s = subst (StandsOver c.args.l.now) (sym c.self.view_is) c.requires.over in
    subst (λ ps. IsText ps h c.args.name) (sym s.strings) (subst (λ (y : Heap). IsText c.args.l.now.file.strings y c.args.name) (sym c.self.view_is) c.requires.name)

pub returns-clause-was : goal.returns-clause-was
returns-clause-was c =
    let h = c.self.inside.store in
    let s = subst (StandsOver c.args.l.now) (sym c.self.view_is) c.requires.over in
    c.delete_property.ensures.was ∙ (ap (λ ps. is_some (place_of_property ps h c.args.o.0 c.args.name)) s.strings ∙ ap (λ (y : Heap). is_some (place_of_property c.args.l.now.file.strings y c.args.o.0 c.args.name)) c.self.view_is)

pub returns-clause-heap : goal.returns-clause-heap
returns-clause-heap c =
    let h = c.self.inside.store in
    let s = subst (StandsOver c.args.l.now) (sym c.self.view_is) c.requires.over in
    c.delete_property.ensures.heap
    ∙ (ap (λ ps. with_object (with_delete (text_of ps h) (text_of ps h c.args.name)) c.args.o.0 h) s.strings
    ∙ ap (λ (y : Heap). with_object (with_delete (text_of c.args.l.now.file.strings y) (text_of c.args.l.now.file.strings y c.args.name)) c.args.o.0 y) c.self.view_is)

pub returns-clause-over : goal.returns-clause-over
returns-clause-over c =
    let l = c.args.l.now in
    let h = c.self.inside.store in
    let s = subst (StandsOver l) (sym c.self.view_is) c.requires.over in
    let f = text_of h.strings h in
    subst (StandsOver l) (sym c.delete_property.ensures.heap) (over_changed l h (with_delete f (f c.args.name)) c.args.o.0 s (delete_reshapes l h c.args.o.0 f (f c.args.name)))
