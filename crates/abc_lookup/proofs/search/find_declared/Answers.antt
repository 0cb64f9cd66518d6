use Rattle.abc_lookup.proofs.NoTraits.{none_declared}
use Rattle.abc_lookup.proofs.search.find_declared.Goals as goal

pub returns-then-has_no_traits : goal.returns-then-has_no_traits
returns-then-has_no_traits c = none_declared c.args.l.now c.args.a.now c.args.object.0 c.args.from.0 c.args.name.now c.args.want (c.has_no_traits.ensures c.if-has_no_traits.true)
