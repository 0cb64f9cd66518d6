use Rattle.std.proofs.Common.{◌∙◌, arith}
use Rattle.abc_objects.proofs.Steps.{name_on}
use Rattle.abc_objects.proofs.texts.formula_names.Goals as goal

pub loop-id-preserved : goal.loop-id-preserved
loop-id-preserved g c = name_on _ _ (g.H.Host.formulas c.args.host.now) c.loop-id.id _ (omega (arith, c.count-id-end.ensures)) c.loop-id.invariant (c.in_ok-from_slice.ensures ∙ c.name.ensures) c.in_ok-push.ensures.ok
