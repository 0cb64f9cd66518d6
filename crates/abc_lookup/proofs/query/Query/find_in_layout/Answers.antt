use Rattle.std.proofs.Common.{◌∙◌}
use Rattle.abc_lookup.proofs.SlotPlaces.{few_under}
use Rattle.abc_lookup.proofs.TextFirst.{table_given}
use Rattle.abc_lookup.proofs.query.Query.find_in_layout.Goals as goal

pub find_in_host_class-requires-clause-few : goal.find_in_host_class-requires-clause-few
find_in_host_class-requires-clause-few c = few_under c.args.self.now.l.now c.linked_law.ensures c.slots_law.ensures c.args.x.0 c.requires

pub find_caught-requires-clause-few : goal.find_caught-requires-clause-few
find_caught-requires-clause-few c = few_under c.args.self.now.l.now c.linked_law.ensures c.slots_law.ensures c.args.x.0 c.requires

pub returns-in_default : goal.returns-in_default
returns-in_default c =
    let q = c.args.self.now in
    table_given q.l.now q.text.now q.name q.skip c.args.x.0 c.args.held c.find_in_table.result (λ e. c.in_default.not-Host _ (c.part_of.ensures ∙ e)) (λ b h e. c.in_default.not-Catch b h (c.part_of.ensures ∙ e)) c.find_in_table.ensures
