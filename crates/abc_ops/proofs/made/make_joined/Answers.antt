use Rattle.std.proofs.Common.{◌++◌}
use Rattle.abc_heap_store.specs.Texts.{text_of}
use Rattle.abc_ops.specs.Left.{text_made}
use Rattle.abc_ops.proofs.Staying.{made_stays, stays_left}
use Rattle.abc_ops.proofs.made.make_joined.Goals as goal

pub returns-clause-over : goal.returns-clause-over
returns-clause-over c =
    let l = c.args.l.now in
    let h = c.args.a.now in
    let bytes = text_of l.file.strings h c.args.s ++ text_of l.file.strings h c.args.t in
    (stays_left l h c.make_joined_as.new.a (text_made h bytes) c.make_joined_as.result c.make_joined_as.ensures (made_stays l h bytes c.requires.over)).over

pub returns-clause-grows : goal.returns-clause-grows
returns-clause-grows c =
    let l = c.args.l.now in
    let h = c.args.a.now in
    let bytes = text_of l.file.strings h c.args.s ++ text_of l.file.strings h c.args.t in
    (stays_left l h c.make_joined_as.new.a (text_made h bytes) c.make_joined_as.result c.make_joined_as.ensures (made_stays l h bytes c.requires.over)).grows

pub returns-clause-there : goal.returns-clause-there
returns-clause-there c =
    let l = c.args.l.now in
    let h = c.args.a.now in
    let bytes = text_of l.file.strings h c.args.s ++ text_of l.file.strings h c.args.t in
    (stays_left l h c.make_joined_as.new.a (text_made h bytes) c.make_joined_as.result c.make_joined_as.ensures (made_stays l h bytes c.requires.over)).there
