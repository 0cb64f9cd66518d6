use Rattle.std.proofs.Common.{◌∙◌, ◌++◌, ℕ, List, ap}
use Rattle.abc_objects.specs.Fixed.{fixed_bytes}
use Rattle.abc_objects.proofs.Steps.{bytes_on}
use Rattle.abc_objects.proofs.texts.part_zero.Goals as goal

pub loop-name-preserved : goal.loop-name-preserved
loop-name-preserved c = bytes_on fixed_bytes _ _ c.args.names.now c.loop-name.name-index _ c.loop-name-test.true c.loop-name.invariant (c.in_ok-extend_from_slice.ensures.ok ∙ ap (λ (t : List ℕ). c.loop-name.bytes ++ t) (c.as_slice.ensures ∙ c.name-item.is))
