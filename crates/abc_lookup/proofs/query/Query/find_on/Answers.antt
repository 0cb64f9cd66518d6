use Rattle.std.proofs.Common.{sym}
use Rattle.abc_objects.specs.Candidates.{holder_of, things_along, traits_on, where_public}
use Rattle.abc_objects.proofs.Joins.{ends, goes_on}
use Rattle.abc_lookup.proofs.query.Query.find_on.Goals as goal

pub returns-then-is_hit : goal.returns-then-is_hit
returns-then-is_hit c =
    let q = c.args.self.now in
    ends q.l.now q.a.now q.name q.skip (traits_on q.l.now q.a.now c.args.holder) (where_public q.l.now q.name (things_along q.a.now (holder_of q.a.now c.args.holder))) _ c.find_trait_on-declared.ensures (sym c.if-is_hit.ensures)

pub returns : goal.returns
returns c =
    let q = c.args.self.now in
    goes_on q.l.now q.a.now q.name q.skip (traits_on q.l.now q.a.now c.args.holder) (where_public q.l.now q.name (things_along q.a.now (holder_of q.a.now c.args.holder))) _ _ _ c.find_trait_on-declared.ensures c.find_public_on.ensures c.or.ensures
