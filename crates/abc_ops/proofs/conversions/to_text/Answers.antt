use Rattle.std.proofs.Common.{refl}
use Rattle.abc_ops.specs.Conversions.{spelling}
use Rattle.abc_ops.specs.Left.{text_value}
use Rattle.abc_ops.proofs.Staying.{then_err, then_ok}
use Rattle.abc_ops.proofs.conversions.to_text.Goals as goal

pub returns-in-Ok-clause-left : goal.returns-in-Ok-clause-left
returns-in-Ok-clause-left c =
    let l = c.args.l.now in
    then_ok (spelling l c.args.a.now c.args.v) c.in-Ok.s c.spell.new.a text_value _ c.spell.new.a c.in-Ok.ensures.left (refl, refl)

pub returns-in-Err-clause-left : goal.returns-in-Err-clause-left
returns-in-Err-clause-left c =
    let l = c.args.l.now in
    then_err (spelling l c.args.a.now c.args.v) c.in-Err.end c.spell.new.a text_value c.in-Err.ensures.left
