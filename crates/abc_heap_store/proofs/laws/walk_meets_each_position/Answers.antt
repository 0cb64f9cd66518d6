use Rattle.abc_heap_store.proofs.Meeting.{meets_each_position}
use Rattle.abc_heap_store.proofs.laws.walk_meets_each_position.Goals as goal

pub returns : goal.returns
returns c = meets_each_position
