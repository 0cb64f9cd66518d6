use Rattle.std.proofs.Common.{◌∙◌, length}
use Rattle.abc_link_names.specs.Traits.{own_table_of}
use Rattle.abc_lookup.specs.Slots.{own_at}
use Rattle.abc_lookup.proofs.TextFirst.{only_given, only_inside}
use Rattle.abc_lookup.proofs.query.Query.try_places.Goals as goal

pub try_place-requires-clause-place : goal.try_place-requires-clause-place
try_place-requires-clause-place c = only_inside c.args.places.now c.in-Some.place (length (own_table_of c.args.self.now.l.now c.args.x.0)) c.in-Some.ensures c.requires.places

pub returns-in-Some : goal.returns-in-Some
returns-in-Some c =
    let q = c.args.self.now in
    c.try_place.ensures ∙ only_given q.l.now q.name q.skip c.args.x.0 c.args.held (own_at q.l.now c.args.x.0) c.args.places.now c.in-Some.place c.in-Some.ensures
