use Rattle.abc_objects.specs.Scopes.{InScope}
use Rattle.abc_lookup.proofs.Places.{has_name}
use Rattle.abc_lookup.proofs.query.Query.scope_has.Goals as goal

pub returns : goal.returns
returns c = let q = c.args.self.now in has_name q.l.now q.a.now q.name q.skip (InScope c.args.entry) c.find_in_scope.result c.is_hit.result c.requires.nothing c.find_in_scope.ensures c.is_hit.ensures
