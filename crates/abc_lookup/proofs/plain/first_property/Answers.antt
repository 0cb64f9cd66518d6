use Rattle.std.proofs.Common.{sym}
use Rattle.abc_lookup.proofs.NoTraits.{own_property}
use Rattle.abc_lookup.proofs.Stands.{delegates_fall}
use Rattle.abc_lookup.proofs.plain.first_property.Goals as goal

pub returns-in-Some : goal.returns-in-Some
returns-in-Some c = λ want.
    own_property c.args.l.now c.args.a.now c.args.o c.args.name.now want c.in-Some.value c.requires.plain (delegates_fall c.args.l.now c.args.a.now c.requires.over) c.requires.no_array (sym c.in-Some.ensures)
