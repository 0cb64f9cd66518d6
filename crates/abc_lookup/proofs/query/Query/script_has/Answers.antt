use Rattle.std.proofs.Common.{◌∙◌, ap}
use Rattle.abc_objects.specs.Candidates.{answer_of_search, traits_of_object}
use Rattle.abc_objects.specs.Scopes.{InScript}
use Rattle.abc_lookup.proofs.Places.{has_name}
use Rattle.abc_lookup.proofs.query.Query.script_has.Goals as goal

pub returns : goal.returns
returns c =
    let q = c.args.self.now in
    has_name q.l.now q.a.now q.name q.skip (InScript c.args.script) c.find_trait_of.result c.is_hit.result c.requires.nothing
    (c.find_trait_of.ensures ∙ ap (λ n. answer_of_search q.l.now q.a.now q.name q.skip (traits_of_object q.l.now q.a.now n)) c.global.ensures.number) c.is_hit.ensures
