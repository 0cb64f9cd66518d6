use Rattle.std.proofs.Common.{◌∙◌, ap}
use Rattle.abc_objects.specs.Candidates.{answer_of_search, candidates_on}
use Rattle.abc_objects.specs.Searches.{found_on}
use Rattle.abc_lookup.proofs.search.find_on_any.Goals as goal

pub returns : goal.returns
unfolding found_on
returns c = c.find_on.ensures ∙ ap (λ s. answer_of_search c.args.l.now c.args.a.now c.args.name.now s (candidates_on c.args.l.now c.args.a.now c.args.name.now c.args.holder)) c.skip.ensures
