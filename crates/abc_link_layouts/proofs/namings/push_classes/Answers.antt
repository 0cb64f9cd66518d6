use Rattle.std.proofs.Common.{arith}
use Rattle.abc_link_names.specs.Owners.{of_class}
use Rattle.abc_link_layouts.proofs.Rest.{rest_next}
use Rattle.abc_link_layouts.proofs.namings.push_classes.Goals as goal

pub loop-k-preserved : goal.loop-k-preserved
loop-k-preserved c = rest_next of_class _ _ _ _ _ _ (omega arith) c.get-class.ensures c.loop-k.invariant c.in_ok-push_part.ensures
