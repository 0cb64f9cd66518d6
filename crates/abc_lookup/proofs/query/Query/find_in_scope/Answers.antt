use Rattle.std.proofs.Common.{sym}
use Rattle.abc_objects.specs.Candidates.{traits_of_object, where_public}
use Rattle.abc_objects.specs.Scopes.{scope_things}
use Rattle.abc_objects.proofs.Joins.{ends, goes_on}
use Rattle.abc_lookup.proofs.query.Query.find_in_scope.Goals as goal

pub returns-then-is_hit : goal.returns-then-is_hit
returns-then-is_hit c =
    let q = c.args.self.now in
    ends q.l.now q.a.now q.name q.skip (traits_of_object q.l.now q.a.now c.args.entry.object.0) (where_public q.l.now q.name (scope_things q.a.now c.args.entry)) _ c.find_trait_of-declared.ensures (sym c.if-is_hit.ensures)

pub returns : goal.returns
returns c =
    let q = c.args.self.now in
    goes_on q.l.now q.a.now q.name q.skip (traits_of_object q.l.now q.a.now c.args.entry.object.0) (where_public q.l.now q.name (scope_things q.a.now c.args.entry)) _ _ _ c.find_trait_of-declared.ensures c.find_public_in.ensures c.or.ensures
