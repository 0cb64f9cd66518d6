use Rattle.std.proofs.Common.{◌∙◌, sym}
use Rattle.abc_lookup.proofs.Places.{global_scope, other_scope, with_scope}
use Rattle.abc_lookup.proofs.query.Query.find_thing_in.Goals as goal

pub returns-then-entry : goal.returns-then-entry
returns-then-entry c = let q = c.args.self.now in c.find_own.ensures ∙ sym (with_scope q.l.now q.a.now q.name q.skip c.args.entry c.if-entry.true)

pub returns-in-Global : goal.returns-in-Global
returns-in-Global c = let q = c.args.self.now in c.find_along.ensures ∙ sym (global_scope q.l.now q.a.now q.name q.skip c.args.entry _ c.if-entry.false (sym c.what.ensures ∙ c.in-Global.is))

pub returns-in_default : goal.returns-in_default
returns-in_default c = let q = c.args.self.now in sym (other_scope q.l.now q.a.now q.name q.skip c.args.entry c.if-entry.false (λ k e. c.in_default.not-Global k (c.what.ensures ∙ e)))
