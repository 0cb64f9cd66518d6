use Rattle.std.proofs.Common.{◌∙◌}
use Rattle.abc_lookup.proofs.Along.{declared_all}
use Rattle.abc_lookup.proofs.query.Query.find_declared.Goals as goal

pub returns : goal.returns
returns c =
    let q = c.args.self.now in
    c.find_from.ensures ∙ declared_all q.l.now q.a.now q.name q.skip c.args.object.0 c.args.from.0 c.holds_below-held.result q.text.now q.texted c.holds_below-held.ensures
