use Rattle.std.proofs.Common.{◌∙◌, ap, List, ℕ, Some}
use Rattle.abc_lookup.proofs.TextFirst.{none_there, places_there, some_there}
use Rattle.abc_lookup.proofs.query.Query.find_in_table.Goals as goal

pub try_places-requires-clause-places : goal.try_places-requires-clause-places
try_places-requires-clause-places c =
    let q = c.args.self.now in
    places_there q.l.now c.args.x.0 q.text.now c.as_slice.result.now (ap (λ (ps : List ℕ). Some ps) c.as_slice.ensures ∙ c.in-Some.ensures q.text.now q.told)

pub returns-in-Some : goal.returns-in-Some
returns-in-Some c =
    let q = c.args.self.now in
    c.try_places.ensures ∙ some_there q.l.now q.name q.skip c.args.x.0 c.args.held q.text.now c.as_slice.result.now (ap (λ (ps : List ℕ). Some ps) c.as_slice.ensures ∙ c.in-Some.ensures q.text.now q.told)

pub returns-in-None : goal.returns-in-None
returns-in-None c =
    let q = c.args.self.now in
    none_there q.l.now q.name q.skip c.args.x.0 c.args.held q.text.now (c.in-None.ensures q.text.now q.told)
