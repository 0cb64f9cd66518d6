use Rattle.abc_objects.specs.Scopes.{InHost}
use Rattle.abc_lookup.proofs.Places.{has_name}
use Rattle.abc_lookup.proofs.query.Query.host_has.Goals as goal

pub returns : goal.returns
returns c = let q = c.args.self.now in has_name q.l.now q.a.now q.name q.skip InHost c.find_in_host.result c.is_hit.result c.requires.nothing c.find_in_host.ensures c.is_hit.ensures
