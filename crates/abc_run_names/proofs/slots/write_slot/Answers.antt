use Rattle.std.proofs.Common.{◌∙◌, ap, refl, subst, sym}
use Rattle.std.proofs.lemmas.Result.{err_from_is_err_and}
use Rattle.abc_heap_store.specs.Changes.{with_slot}
use Rattle.abc_heap_store.specs.Heap.{Heap}
use Rattle.abc_objects.specs.Growing.{Grows}
use Rattle.abc_objects.specs.Values.{IsValueOf}
use Rattle.abc_objects.proofs.Grown.{grows_on}
use Rattle.abc_objects.proofs.Kept.{changed_grows}
use Rattle.abc_link_names.specs.Types.{kind_of_type}
use Rattle.abc_link_names.specs.declared.types.Kind.{Kind}
use Rattle.abc_run_state.specs.Outer.{setting_in, world}
use Rattle.abc_run_state.specs.Stops.{why}
use Rattle.abc_run_names.proofs.Coercing.{coercion_holds}
use Rattle.abc_run_names.proofs.Slotted.{holder_there, slot_kept, slot_stopped, slot_written, type_kept}
use Rattle.abc_run_names.proofs.slots.write_slot.Goals as goal

pub set_slot-requires-clause-slot : goal.set_slot-requires-clause-slot
set_slot-requires-clause-slot g c =
    let s = c.in_ok-coerced.ensures.stays in
    slot_kept c.args.linked.now c.args.s.now.arena c.coerce.new.s.arena c.args.o c.args.k c.requires.0 s.over s.grows c.requires.1.0

pub set_slot-requires-clause-kind : goal.set_slot-requires-clause-kind
set_slot-requires-clause-kind g c =
    let l = c.args.linked.now in
    let old = c.args.s.now.arena in
    let mid = c.coerce.new.s.arena in
    let s = c.in_ok-coerced.ensures.stays in
    let same = ap (kind_of_type l) c.type_of_slot-ty.ensures ∙ type_kept l old mid c.args.o c.args.k s.grows (holder_there old c.args.o c.args.k c.requires.1.0) in
    subst (λ (k : Kind). IsValueOf l mid k c.in_ok-coerced.coerced) same
    (coercion_holds (setting_in l g.out) c.type_of_slot-ty.result c.args.v c.in_ok-coerced.coerced (world c.args.s.now g.out) (world c.coerce.new.s g.out) c.requires.0.linked c.requires.1.1 c.in_ok-coerced.ensures.part)

pub returns-clause-part : goal.returns-clause-part
returns-clause-part g c = slot_written (setting_in c.args.linked.now g.out) c.args.o c.args.k c.args.v c.in_ok-coerced.coerced c.type_of_slot-ty.result (world c.args.s.now g.out) (world c.coerce.new.s g.out) c.set_slot.new.self c.requires.0 c.requires.1.0 c.type_of_slot-ty.ensures c.in_ok-coerced.ensures.part c.set_slot.ensures.heap

pub returns-clause-stays : goal.returns-clause-stays
returns-clause-stays g c =
    let s = c.in_ok-coerced.ensures.stays in
    let old = c.args.s.now.arena in
    let mid = c.coerce.new.s.arena in
    let f = with_slot c.args.k c.in_ok-coerced.coerced in
    record {
      over = c.set_slot.ensures.over;
      grows = subst (Grows old) (sym c.set_slot.ensures.heap) (grows_on old mid _ s.grows (changed_grows mid f c.args.o.0 (λ ob. record { layout = refl; delegate = refl; what = refl })));
      limits = ap (λ (h : Heap). h.limits) c.set_slot.ensures.heap ∙ s.limits;
      frames = s.frames;
      started = s.started;
      given = s.given;
    }

pub returns-in_err-coerced-clause-part : goal.returns-in_err-coerced-clause-part
returns-in_err-coerced-clause-part g c =
    let e = err_from_is_err_and c.from_residual.result c.from_residual.ensures.1 in
    rw (e.1, e.2) (slot_stopped (setting_in c.args.linked.now g.out) c.args.o c.args.k c.args.v c.type_of_slot-ty.result (world c.args.s.now g.out) (world c.coerce.new.s g.out) (why c.in_err-coerced.field-0.0) c.requires.0 c.requires.1.0 c.type_of_slot-ty.ensures c.in_err-coerced.ensures.part)
