use Rattle.abc_lookup.proofs.TextFirst.{prototype_given}
use Rattle.abc_lookup.proofs.query.Query.find_prototype.Goals as goal

pub returns : goal.returns
returns c =
    let q = c.args.self.now in
    prototype_given q.l.now q.text.now q.name q.skip c.args.x.0 c.args.held c.slots_under-slot.result c.try_named.result c.requires.part c.slots_under-slot.ensures c.try_named.ensures
