use Rattle.std.proofs.Common.{◌≡◌, List, ℕ, sym, subst}
use Rattle.abc_heap_store.specs.Heap.{Heap}
use Rattle.abc_heap_store.specs.Texts.{IsText, text_of}
use Rattle.abc_heap_store.specs.Properties.{with_put}
use Rattle.abc_objects.specs.Answers.{PutsProperty}
use Rattle.abc_objects.specs.Stands.{StandsOver}
use Rattle.abc_objects.specs.Values.{Exists}
use Rattle.abc_objects.proofs.Kept.{over_changed}
use Rattle.abc_objects.proofs.Reshaped.{put_reshapes}
use Rattle.abc_objects.proofs.Ways.{either_way}
use Rattle.abc_objects.proofs.arena.Arena.set_property.Goals as goal

pub set_property-requires-clause-name : goal.set_property-requires-clause-name
set_property-requires-clause-name c =
    let h = c.self.inside.store in
    let s = subst (StandsOver c.args.l.now) (sym c.self.view_is) c.requires.over in
    subst (λ ps. IsText ps h c.args.name) (sym s.strings) (subst (λ (y : Heap). IsText c.args.l.now.file.strings y c.args.name) (sym c.self.view_is) c.requires.name)

pub returns-clause-put : goal.returns-clause-put
returns-clause-put c =
    let h = c.self.inside.store in
    let n = c.args.name in
    let s = subst (StandsOver c.args.l.now) (sym c.self.view_is) c.requires.over in
    let put : List (List ℕ) → Heap → Type 0 = λ ps y. PutsProperty ps c.args.o n c.args.v y c.set_property.new.self c.set_property.result in
    subst (put c.args.l.now.file.strings) c.self.view_is (subst (λ ps. put ps h) s.strings c.set_property.ensures)

pub returns-clause-over : goal.returns-clause-over
returns-clause-over c =
    let l = c.args.l.now in
    let h = c.self.inside.store in
    let s = subst (StandsOver l) (sym c.self.view_is) c.requires.over in
    let x = subst (λ (y : Heap). Exists l y c.args.v) (sym c.self.view_is) c.requires.value in
    let t = subst (λ (y : Heap). IsText l.file.strings y c.args.name) (sym c.self.view_is) c.requires.name in
    let f = text_of h.strings h in
    either_way (StandsOver l c.set_property.new.self) c.set_property.result _ _ c.set_property.ensures
    (λ r p. subst (StandsOver l) (sym p.1) (over_changed l h (with_put f (f c.args.name) c.args.name c.args.v) c.args.o.0 s (put_reshapes l h c.args.o.0 f (f c.args.name) c.args.name c.args.v t x)))
    (λ e q. subst (StandsOver l) (sym q.2) s)
