use Rattle.abc_lookup.proofs.NoTraits.{first_found}
use Rattle.abc_lookup.proofs.search.find_by_traits.Goals as goal

pub returns-then-is_hit : goal.returns-then-is_hit
returns-then-is_hit c = first_found c.args.l.now c.args.a.now c.args.o c.args.name.now c.first_of_traits-first.result c.args.want c.first_of_traits-first.ensures c.if-is_hit.ensures
