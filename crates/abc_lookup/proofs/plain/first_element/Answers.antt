use Rattle.std.proofs.Common.{◌∙◌, sym, ap, arith}
use Rattle.abc_objects.specs.ElementNames.{element_number}
use Rattle.abc_lookup.proofs.NoTraits.{own_element}
use Rattle.abc_lookup.proofs.Stands.{delegates_fall}
use Rattle.abc_lookup.proofs.plain.first_element.Goals as goal

pub returns-then-index-length : goal.returns-then-index-length
returns-then-index-length c = λ want.
    own_element c.args.l.now c.args.a.now c.args.o c.args.name.now want c.in-Some.index c.requires.plain (delegates_fall c.args.l.now c.args.a.now c.requires.over) c.requires.array
    (ap element_number (sym c.text_bytes.ensures) ∙ sym c.in-Some.ensures)
    (omega (arith, c.if-index-length.true, c.length.ensures))
