use Rattle.std.proofs.Common.{◌≡◌, ◌∙◌, None, refl, sym, ap, length}
use Rattle.abc_base_graphs.proofs.Walks.{step_in}
use Rattle.abc_heap_store.specs.Heap.{object_at}
use Rattle.abc_heap_store.specs.Properties.{walked_next}
use Rattle.abc_objects.specs.Objects.{delegate_at, number_of_object}
use Rattle.abc_lookup.proofs.Along.{less_left}
use Rattle.abc_lookup.proofs.Stands.{delegates_fall, inside, object_in}
use Rattle.abc_run_names.proofs.Delegates.{first_end, first_here, first_next}
use Rattle.abc_run_names.proofs.positions.first_along.Goals as goal

pub loop-holder-init : goal.loop-holder-init
loop-holder-init c = record { inside = inside c.args.arena.now c.args.first c.requires.inside; same = refl }

pub next_position-requires : goal.next_position-requires
next_position-requires c = object_in c.args.arena.now c.loop-holder.holder c.in-Some.o c.in-Some.is c.loop-holder.invariant.inside

pub delegate-holder-requires : goal.delegate-holder-requires
delegate-holder-requires c = object_in c.args.arena.now c.loop-holder.holder c.in-Some.o c.in-Some.is c.loop-holder.invariant.inside

pub loop-holder-preserved : goal.loop-holder-preserved
loop-holder-preserved c =
    let h = c.args.arena.now in
    let f = delegates_fall c.args.linked.now h c.requires.over in
    let up : number_of_object c.delegate-holder.result ≡ delegate_at h c.in-Some.o.0 = ap number_of_object c.delegate-holder.ensures in
    let none : walked_next (object_at h.objects c.in-Some.o.0) 0 ≡ None = sym c.next_position.ensures ∙ c.in_default-next_position.is in
    record {
      inside = step_in (delegate_at h) f c.in-Some.o.0 (length h.objects) (number_of_object c.loop-holder.holder) (ap number_of_object c.in-Some.is) c.loop-holder.invariant.inside (number_of_object c.delegate-holder.result) up;
      same = first_next h c.in-Some.o.0 (number_of_object c.loop-holder.holder) (number_of_object c.delegate-holder.result) f (ap number_of_object c.in-Some.is) none up ∙ c.loop-holder.invariant.same;
    }

pub loop-holder-smaller : goal.loop-holder-smaller
loop-holder-smaller c =
    let h = c.args.arena.now in
    less_left (delegate_at h) (delegates_fall c.args.linked.now h c.requires.over) c.in-Some.o.0 (number_of_object c.loop-holder.holder) (number_of_object c.delegate-holder.result) (ap number_of_object c.in-Some.is) (ap number_of_object c.delegate-holder.ensures)

pub returns-in-Some-next_position : goal.returns-in-Some-next_position
returns-in-Some-next_position c =
    let h = c.args.arena.now in
    first_here h c.in-Some.o.0 c.in-Some-next_position.position (number_of_object c.loop-holder.holder) (delegates_fall c.args.linked.now h c.requires.over) (ap number_of_object c.in-Some.is) (sym c.next_position.ensures ∙ c.in-Some-next_position.is)
    ∙ c.loop-holder.invariant.same

pub returns : goal.returns
returns c =
    let h = c.args.arena.now in
    sym (first_end h (number_of_object c.loop-holder.holder) (ap number_of_object c.in_default.is)) ∙ c.loop-holder.invariant.same
