use Rattle.std.proofs.Common.{◌∙◌, sym}
use Rattle.abc_objects.specs.Scopes.{scope_things}
use Rattle.abc_lookup.proofs.Things.{not_public_all, public_all}
use Rattle.abc_lookup.proofs.query.Query.find_public_in.Goals as goal

pub returns-then-not-self : goal.returns-then-not-self
returns-then-not-self c = let q = c.args.self.now in sym (not_public_all q.l.now q.a.now q.name q.skip (scope_things q.a.now c.args.entry) (q.held ∙ c.if-not-self.true))

pub returns : goal.returns
returns c = let q = c.args.self.now in c.find_thing_in.ensures ∙ sym (public_all q.l.now q.a.now q.name q.skip (scope_things q.a.now c.args.entry) (q.held ∙ c.if-not-self.false))
