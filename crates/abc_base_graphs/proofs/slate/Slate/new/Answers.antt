use Rattle.abc_base_graphs.proofs.Slated.{as_many, none_later}
use Rattle.abc_base_graphs.proofs.slate.Slate.new.Goals as goal

pub invariant_of-result : goal.invariant_of-result
invariant_of-result c = none_later c.args.count 0 c.in_ok-marks.marks c.in_ok-marks.ensures

pub returns : goal.returns
returns c = as_many c.args.count 0 c.in_ok-marks.marks c.in_ok-marks.ensures
