use Rattle.std.proofs.Common.{◌≡◌, ◌∙◌, sym, ap}
use Rattle.abc_link_names.specs.Pool.{name, qname}
use Rattle.abc_objects.specs.Traits.{members_in, traits_named}
use Rattle.abc_file_types.specs.declared.tables.Abc.{Abc}
use Rattle.abc_lookup.specs.Slots.{members_of, own_at, slot_of}
use Rattle.abc_lookup.specs.Steps.{gives_found}
use Rattle.abc_lookup.proofs.TextFirst.{fit, place_is, unfit, unlisted}
use Rattle.abc_lookup.proofs.query.Query.try_place.Goals as goal

pub returns-then-not-fits : goal.returns-then-not-fits
returns-then-not-fits c =
    let q = c.args.self.now in
    let t = c.index-own_table-place.result in
    let d = c.qname_at.result in
    let at : own_at q.l.now c.args.x.0 c.args.place ≡ traits_named q.l.now d (members_in (slot_of q.l.now c.args.x.0 c.args.place) t.body) = place_is q.l.now c.args.x.0 c.args.place c.own_table.result.now t d c.own_table.ensures c.requires.place c.index-own_table-place.is (c.qname_at.ensures ∙ ap (λ (v : Abc). qname (name v t.name)) c.abc.ensures) in
    unfit q.l.now q.name q.skip c.args.x.0 c.args.held d (members_in (slot_of q.l.now c.args.x.0 c.args.place) t.body) (sym c.fits.ensures ∙ c.if-not-fits.true)
    ∙ ap (gives_found q.l.now q.name q.skip c.args.x.0 c.args.held) (sym at)

pub returns-in-Some : goal.returns-in-Some
returns-in-Some c =
    let q = c.args.self.now in
    let t = c.index-own_table-place.result in
    let d = c.qname_at.result in
    let at : own_at q.l.now c.args.x.0 c.args.place ≡ traits_named q.l.now d (members_in (slot_of q.l.now c.args.x.0 c.args.place) t.body) = place_is q.l.now c.args.x.0 c.args.place c.own_table.result.now t d c.own_table.ensures c.requires.place c.index-own_table-place.is (c.qname_at.ensures ∙ ap (λ (v : Abc). qname (name v t.name)) c.abc.ensures) in
    c.give.ensures
    ∙ fit q.l.now q.name q.skip c.args.x.0 c.args.held d c.in-Some.member (members_in (slot_of q.l.now c.args.x.0 c.args.place) t.body) (sym c.fits.ensures ∙ c.if-not-fits.false) (ap members_of (sym c.in-Some.is) ∙ c.member_at.ensures)
    ∙ ap (gives_found q.l.now q.name q.skip c.args.x.0 c.args.held) (sym at)

pub returns-in-None : goal.returns-in-None
returns-in-None c =
    let q = c.args.self.now in
    let t = c.index-own_table-place.result in
    let d = c.qname_at.result in
    let at : own_at q.l.now c.args.x.0 c.args.place ≡ traits_named q.l.now d (members_in (slot_of q.l.now c.args.x.0 c.args.place) t.body) = place_is q.l.now c.args.x.0 c.args.place c.own_table.result.now t d c.own_table.ensures c.requires.place c.index-own_table-place.is (c.qname_at.ensures ∙ ap (λ (v : Abc). qname (name v t.name)) c.abc.ensures) in
    unlisted q.l.now q.name q.skip c.args.x.0 c.args.held d (members_in (slot_of q.l.now c.args.x.0 c.args.place) t.body) (ap members_of (sym c.in-None.is) ∙ c.member_at.ensures)
    ∙ ap (gives_found q.l.now q.name q.skip c.args.x.0 c.args.held) (sym at)
