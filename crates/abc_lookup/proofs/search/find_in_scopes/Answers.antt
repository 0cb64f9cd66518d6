use Rattle.std.proofs.Common.{◌∙◌, ap}
use Rattle.abc_objects.specs.Scopes.{scope_named}
use Rattle.abc_objects.specs.Searches.{found_in_scopes}
use Rattle.abc_lookup.proofs.search.find_in_scopes.Goals as goal

pub returns : goal.returns
unfolding found_in_scopes
returns c = c.place_found.ensures ∙ ap (scope_named c.args.a.now c.args.started.now) c.find_place.ensures.first
