use Rattle.abc_lookup.proofs.TextFirst.{host_table}
use Rattle.abc_lookup.proofs.query.Query.find_in_host_class.Goals as goal

pub returns-in_default : goal.returns-in_default
returns-in_default c =
    let q = c.args.self.now in
    host_table q.l.now q.text.now q.name q.skip c.args.x.0 c.args.held c.args.class c.find_in_table.result c.requires.part c.in_default.not-Class c.find_in_table.ensures
