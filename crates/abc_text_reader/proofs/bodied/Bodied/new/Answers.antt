use Rattle.abc_text_reader.proofs.Rising.{none_below, none_yet}
use Rattle.abc_text_reader.proofs.bodied.Bodied.new.Goals as goal

pub returns : goal.returns
returns c = none_yet c.new.result.items c.new-2.result c.new.ensures.items c.new-2.ensures.empty

pub invariant_of-result : goal.invariant_of-result
invariant_of-result c = none_below 0 c.new.result.items c.new.ensures.items
