use Rattle.abc_lookup.proofs.SameSpace.{same_where_equal}
use Rattle.abc_lookup.proofs.name_spaces.is_same_space.Goals as goal

pub returns-then-a-b : goal.returns-then-a-b
returns-then-a-b c = same_where_equal c.args.l.now.file c.args.a c.args.b c.if-a-b.true
