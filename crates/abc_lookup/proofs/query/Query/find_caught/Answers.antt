use Rattle.std.proofs.Common.{◌∙◌, ap}
use Rattle.abc_link_names.specs.Pool.{name, qname, text}
use Rattle.abc_link_names.specs.Slots.{handler_at}
use Rattle.abc_file_types.specs.declared.tables.Abc.{Abc}
use Rattle.abc_lookup.proofs.TextFirst.{caught_given, caught_none}
use Rattle.abc_lookup.proofs.query.Query.find_caught.Goals as goal

pub returns-then-index-eq0 : goal.returns-then-index-eq0
returns-then-index-eq0 c =
    let q = c.args.self.now in
    caught_none q.l.now q.text.now q.name q.skip c.args.x.0 c.args.held c.args.body c.args.exception c.caught_name-index.result c.requires.part
    (c.caught_name-index.ensures ∙ ap (λ (v : Abc). (handler_at v c.args.body c.args.exception).var_name) c.abc-abc.ensures) c.if-index-eq0.true

pub returns : goal.returns
returns c =
    let q = c.args.self.now in
    caught_given q.l.now q.text.now q.name q.skip c.args.x.0 c.args.held c.args.body c.args.exception c.caught_name-index.result c.slots_under-slot.result c.qname_at-name.result c.text_at.result.now c.try_named.result c.requires.part
    (c.caught_name-index.ensures ∙ ap (λ (v : Abc). (handler_at v c.args.body c.args.exception).var_name) c.abc-abc.ensures)
    c.if-index-eq0.false c.slots_under-slot.ensures
    (c.qname_at-name.ensures ∙ ap (λ (v : Abc). qname (name v c.caught_name-index.result)) c.abc-abc.ensures)
    (c.text_at.ensures ∙ ap (λ (v : Abc). text v c.qname_at-name.result.string) c.abc-abc.ensures)
    c.try_named.ensures
