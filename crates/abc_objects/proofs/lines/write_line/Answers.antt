use Rattle.std.proofs.Common.{◌∙◌, sym, ap}
use Rattle.abc_objects.specs.Lines.{texts_line}
use Rattle.abc_objects.proofs.Lined.{line_parts}
use Rattle.abc_objects.proofs.lines.write_line.Goals as goal

pub returns-in-Some-clause-bytes : goal.returns-in-Some-clause-bytes
returns-in-Some-clause-bytes g c = λ some.
    let strings = c.args.linked.now.file.strings in
    let h = c.args.arena.now in
    let whole = ap (texts_line strings h) c.in-Some.ensures.cases.0 ∙ sym (line_parts strings h c.in-Some.first.now c.in-Some.rest.now) in
    rw whole (c.write_texts.ensures.bytes some)
