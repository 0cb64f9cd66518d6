use Rattle.std.proofs.Common.{◌∙◌, length}
use Rattle.abc_link_names.specs.Traits.{own_table_of}
use Rattle.abc_objects.specs.Candidates.{text_of_span}
use Rattle.abc_lookup.specs.OwnTraits.{own_named}
use Rattle.abc_lookup.specs.Slots.{own_at}
use Rattle.abc_lookup.proofs.OwnFirst.{given_more}
use Rattle.abc_lookup.proofs.TextFirst.{only_given, only_inside, places_there, some_there}
use Rattle.abc_lookup.proofs.at_once.only_member.Goals as goal

pub member_here-requires-clause-place : goal.member_here-requires-clause-place
member_here-requires-clause-place c =
    let l = c.args.l.now in
    let t = text_of_span l c.args.a.now c.args.name.now.text in
    only_inside c.args.places.now c.in-Some.place (length (own_table_of l c.args.x.0)) c.in-Some.ensures (places_there l c.args.x.0 t c.args.places.now c.requires.places)

pub returns-in-Some : goal.returns-in-Some
returns-in-Some c =
    let l = c.args.l.now in
    let n = c.args.name.now in
    let x = c.args.x.0 in
    let t = text_of_span l c.args.a.now n.text in
    given_more l n x (own_at l x c.in-Some.place) (own_named l c.args.a.now x n) c.member_here.result
    (λ s held. only_given l n s x held (own_at l x) c.args.places.now c.in-Some.place c.in-Some.ensures ∙ some_there l n s x held t c.args.places.now c.requires.places)
    c.member_here.ensures
