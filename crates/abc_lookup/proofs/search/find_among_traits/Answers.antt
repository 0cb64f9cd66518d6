use Rattle.std.proofs.Common.{◌∙◌, ap}
use Rattle.abc_objects.specs.Candidates.{answer_of_search, traits}
use Rattle.abc_objects.specs.Searches.{declared_found}
use Rattle.abc_lookup.proofs.search.find_among_traits.Goals as goal

pub returns : goal.returns
unfolding declared_found
returns c = c.find_declared.ensures ∙ ap (λ s. answer_of_search c.args.l.now c.args.a.now c.args.name.now s (traits c.args.l.now c.args.object.0 c.args.from.0)) c.skip.ensures
