use Rattle.std.proofs.Common.{◌++◌, refl}
use Rattle.abc_heap_store.specs.Texts.{text_of}
use Rattle.abc_ops.specs.Left.{text_made, text_value}
use Rattle.abc_ops.proofs.Staying.{then_err, then_ok}
use Rattle.abc_ops.proofs.operations.join_texts.Goals as goal

pub returns-in-Ok-clause-left : goal.returns-in-Ok-clause-left
returns-in-Ok-clause-left c =
    let pool = c.args.l.now.file.strings in
    let bytes = text_of pool c.args.a.now c.args.s ++ text_of pool c.args.a.now c.args.t in
    then_ok (text_made c.args.a.now bytes) c.in-Ok.both c.make_joined.new.a text_value _ c.make_joined.new.a c.in-Ok.ensures.left (refl, refl)

pub returns-in-Err-clause-left : goal.returns-in-Err-clause-left
returns-in-Err-clause-left c =
    let pool = c.args.l.now.file.strings in
    let bytes = text_of pool c.args.a.now c.args.s ++ text_of pool c.args.a.now c.args.t in
    then_err (text_made c.args.a.now bytes) c.in-Err.end c.make_joined.new.a text_value c.in-Err.ensures.left
