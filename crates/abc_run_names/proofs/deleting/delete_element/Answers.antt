use Rattle.std.proofs.Common.{ℕ, ◌<◌, ap, length, refl, subst, sym}
use Rattle.abc_heap_values.specs.declared.values.Value.TheVariants.{Undefined}
use Rattle.abc_heap_store.specs.Changes.{with_element, with_object}
use Rattle.abc_heap_store.specs.Heap.{Heap, elements_of}
use Rattle.abc_objects.specs.Growing.{Grows}
use Rattle.abc_objects.proofs.Grown.{grows_self}
use Rattle.abc_objects.proofs.Kept.{changed_grows}
use Rattle.abc_run_state.specs.Outer.{world}
use Rattle.abc_meaning.specs.World.{changes}
use Rattle.abc_run_names.proofs.Removed.{deleted_own, kept_there}
use Rattle.abc_run_names.proofs.deleting.delete_element.Goals as goal

pub returns-then-holder-o-clause-part : goal.returns-then-holder-o-clause-part
returns-then-holder-o-clause-part c = λ out. kept_there c.args.holder c.args.o (changes (with_object (with_element c.args.index Undefined) c.args.o.0) (λ h. tt)) (world c.args.s.now out) c.if-holder-o.true

pub returns-then-holder-o-clause-stays : goal.returns-then-holder-o-clause-stays
returns-then-holder-o-clause-stays c = record { over = c.requires.over; grows = grows_self c.args.s.now.arena; limits = refl; frames = refl; started = refl; given = refl }

pub set_element-requires : goal.set_element-requires
set_element-requires c = subst (λ (o : ℕ). c.args.index < length (elements_of c.args.s.now.arena.objects o)) c.if-holder-o.false c.requires.index

pub returns-clause-part : goal.returns-clause-part
returns-clause-part c = λ out. deleted_own c.args.holder c.args.o (with_object (with_element c.args.index Undefined) c.args.o.0) (world c.args.s.now out) c.set_element.new.self c.if-holder-o.false c.set_element.ensures.heap

pub returns-clause-stays : goal.returns-clause-stays
returns-clause-stays c =
    let h = c.args.s.now.arena in
    record {
      over = c.set_element.ensures.over c.args.linked.now c.requires.over tt;
      grows = subst (Grows h) (sym c.set_element.ensures.heap) (changed_grows h (with_element c.args.index Undefined) c.args.o.0 (λ ob. record { layout = refl; delegate = refl; what = refl }));
      limits = ap (λ (k : Heap). k.limits) c.set_element.ensures.heap;
      frames = refl;
      started = refl;
      given = refl;
    }
