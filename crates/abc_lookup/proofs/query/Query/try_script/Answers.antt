use Rattle.std.proofs.Common.{sym}
use Rattle.abc_objects.specs.Scopes.{has}
use Rattle.abc_lookup.proofs.ScriptsFirst.{tried_not}
use Rattle.abc_lookup.proofs.query.Query.try_script.Goals as goal

pub returns-then-is_tried : goal.returns-then-is_tried
returns-then-is_tried c = let q = c.args.self.now in sym (tried_not (has q.l.now q.a.now q.name) c.args.tried c.args.script c.requires.tried (c.is_tried.ensures c.if-is_tried.true))
