use Rattle.std.proofs.Common.{arith}
use Rattle.abc_link_names.specs.Owners.{of_script}
use Rattle.abc_link_layouts.proofs.Rest.{rest_next}
use Rattle.abc_link_layouts.proofs.namings.push_scripts.Goals as goal

pub loop-s-preserved : goal.loop-s-preserved
loop-s-preserved c = rest_next of_script _ _ _ _ _ _ (omega arith) c.get-script.ensures c.loop-s.invariant c.in_ok-push_part.ensures
