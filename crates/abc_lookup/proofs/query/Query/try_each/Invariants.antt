use Rattle.std.proofs.Common.{◌≡◌, drop}
use Rattle.std.specs.List.{flat_map}
use Rattle.abc_objects.specs.Results.{or_next}
use Rattle.abc_lookup.specs.Slots.{own_at}
use Rattle.abc_lookup.specs.Steps.{gives_found}
use Rattle.abc_lookup.proofs.query.Query.try_each.Given as goal

abbrev pub invariant-loop-place : goal.invariant-loop-place
invariant-loop-place l =
    or_next l.so_far (gives_found l.self.l.now l.self.name l.self.skip l.x.0 l.held (flat_map (own_at l.self.l.now l.x.0) (drop l.place-index l.places)))
    ≡ gives_found l.self.l.now l.self.name l.self.skip l.x.0 l.held (flat_map (own_at l.self.l.now l.x.0) l.places)
