use Rattle.std.proofs.Common.{◌++◌}
use Rattle.abc_heap_store.specs.Texts.{text_of}
use Rattle.abc_ops.proofs.Making.{full_is, length_of_both, made_is}
use Rattle.abc_ops.proofs.made.make_joined_as.Goals as goal

pub returns-in-Ok : goal.returns-in-Ok
returns-in-Ok c =
    let pool = c.args.l.now.file.strings in
    let h = c.args.a.now in
    made_is h c.text_join.new.self c.in-Ok.s (text_of pool h c.args.s ++ text_of pool h c.args.t) c.in-Ok.ensures.made

pub returns-in-Err : goal.returns-in-Err
returns-in-Err c =
    let pool = c.args.l.now.file.strings in
    let h = c.args.a.now in
    full_is h c.text_join.new.self (text_of pool h c.args.s ++ text_of pool h c.args.t) _ c.in-Err.full (length_of_both pool h c.args.s c.args.t c.requires.left c.requires.right) c.in-Err.ensures.made
