use Rattle.std.proofs.Common.{ap, refl, subst, sym}
use Rattle.abc_heap_store.specs.Heap.{Heap}
use Rattle.abc_heap_store.specs.Properties.{with_delete}
use Rattle.abc_heap_store.specs.Texts.{text_of}
use Rattle.abc_objects.specs.Growing.{Grows}
use Rattle.abc_objects.proofs.Grown.{grows_self}
use Rattle.abc_objects.proofs.Kept.{changed_grows}
use Rattle.abc_run_state.specs.Outer.{setting_in, world}
use Rattle.abc_meaning.specs.Objects.{without_property}
use Rattle.abc_meaning.specs.World.{changes}
use Rattle.abc_run_names.proofs.Removed.{deleted_own, kept_there}
use Rattle.abc_run_names.proofs.deleting.delete_own.Goals as goal

pub returns-then-holder-o-clause-part : goal.returns-then-holder-o-clause-part
returns-then-holder-o-clause-part c = λ out. kept_there c.args.holder c.args.o (changes (without_property (setting_in c.args.linked.now out) c.args.o c.args.text) (λ h. tt)) (world c.args.s.now out) c.if-holder-o.true

pub returns-then-holder-o-clause-stays : goal.returns-then-holder-o-clause-stays
returns-then-holder-o-clause-stays c = record { over = c.requires.over; grows = grows_self c.args.s.now.arena; limits = refl; frames = refl; started = refl; given = refl }

pub returns-clause-part : goal.returns-clause-part
returns-clause-part c = λ out. deleted_own c.args.holder c.args.o (without_property (setting_in c.args.linked.now out) c.args.o c.args.text) (world c.args.s.now out) c.delete_property.new.self c.if-holder-o.false c.delete_property.ensures.heap

pub returns-clause-stays : goal.returns-clause-stays
returns-clause-stays c =
    let pool = c.args.linked.now.file.strings in
    let h = c.args.s.now.arena in
    record {
      over = c.delete_property.ensures.over;
      grows = subst (Grows h) (sym c.delete_property.ensures.heap) (changed_grows h (with_delete (text_of pool h) (text_of pool h c.args.text)) c.args.o.0 (λ ob. record { layout = refl; delegate = refl; what = refl }));
      limits = ap (λ (k : Heap). k.limits) c.delete_property.ensures.heap;
      frames = refl;
      started = refl;
      given = refl;
    }
