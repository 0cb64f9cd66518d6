use Rattle.std.proofs.Common.{◌∙◌, sym, ap}
use Rattle.abc_lookup.proofs.Things.{properties_all, property_found}
use Rattle.abc_lookup.proofs.query.Query.find_property.Goals as goal

pub returns-in-Some : goal.returns-in-Some
returns-in-Some c = let q = c.args.self.now in ap (property_found c.args.o.0) c.in-Some.ensures ∙ sym (properties_all q.l.now q.a.now q.name q.skip c.args.o.0)

pub returns-in-None : goal.returns-in-None
returns-in-None c = let q = c.args.self.now in ap (property_found c.args.o.0) c.in-None.ensures ∙ sym (properties_all q.l.now q.a.now q.name q.skip c.args.o.0)
