use Rattle.std.proofs.Common.{◌∙◌, ap}
use Rattle.abc_link_names.specs.Pool.{name, qname}
use Rattle.abc_objects.specs.Traits.{members_in}
use Rattle.abc_file_types.specs.declared.tables.Abc.{Abc}
use Rattle.abc_lookup.specs.Slots.{own_at, slot_of}
use Rattle.abc_lookup.proofs.OwnFirst.{given_just}
use Rattle.abc_lookup.proofs.TextFirst.{place_is}
use Rattle.abc_lookup.proofs.at_once.member_here.Goals as goal

pub returns : goal.returns
returns c =
    let l = c.args.l.now in
    let x = c.args.x.0 in
    let t = c.index-own_table-place.result in
    let d = c.qname_at-space.result in
    let at = place_is l x c.args.place c.own_table.result.now t d c.own_table.ensures c.requires.place c.index-own_table-place.is (c.qname_at-space.ensures ∙ ap (λ (v : Abc). qname (name v t.name)) c.abc.ensures) in
    given_just l c.args.name.now x d (members_in (slot_of l x c.args.place) t.body) (own_at l x c.args.place) c.member_at.result (c.has_just.ensures c.if-not-has_just.false) c.member_at.ensures at
