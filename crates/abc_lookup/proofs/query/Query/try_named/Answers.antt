use Rattle.std.proofs.Common.{◌∙◌, sym}
use Rattle.abc_lookup.proofs.TextFirst.{named_hit, not_false}
use Rattle.abc_lookup.proofs.query.Query.try_named.Goals as goal

pub returns : goal.returns
returns c =
    let q = c.args.self.now in
    c.try_declared.ensures ∙ named_hit q.l.now q.name q.skip c.args.x.0 c.args.held q.text.now c.args.text.now c.args.declared (not_false _ (sym c.ne.ensures ∙ c.if-ne.false))
