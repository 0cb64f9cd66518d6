use Rattle.std.proofs.Common.{◌≡◌, length}
use Rattle.abc_base_graphs.specs.Ways.{IsPlaceBelow, farthest, way}
use Rattle.abc_objects.specs.Objects.{delegate_at, number_of_object}
use Rattle.abc_run_names.specs.Walking.{first_position}
use Rattle.abc_run_names.proofs.positions.first_along.Given as goal

abbrev pub invariant-loop-holder : goal.invariant-loop-holder
invariant-loop-holder l = record {
  inside : IsPlaceBelow (number_of_object l.holder) (length l.arena.objects);
  same : first_position l.arena (way (delegate_at l.arena) (number_of_object l.holder)) ≡ first_position l.arena (way (delegate_at l.arena) (number_of_object l.fn.first));
}

abbrev pub decreases-loop-holder : goal.decreases-loop-holder
decreases-loop-holder l = farthest (number_of_object l.holder)
