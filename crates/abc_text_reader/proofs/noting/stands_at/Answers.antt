use Rattle.std.proofs.Common.{sym, ◌∙◌, arith}
use Rattle.abc_text_reader.proofs.Seen.{first_at}
use Rattle.abc_text_reader.proofs.noting.stands_at.Goals as goal

pub returns-in-Some : goal.returns-in-Some
returns-in-Some c is =
    let lt = c.if-place-len.false in
    let small = c.len.ensures.small in
    first_at c.args.names.now c.args.place (c.in-Some.other.now, c.in-Some.field-0-1.now) c.args.name.now c.len.ensures.unique (sym c.in-Some.ensures.entry) (sym c.eq.ensures ∙ is) (omega (arith, lt, small))
