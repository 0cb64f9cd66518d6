use Rattle.std.proofs.Common.{◌≡◌, eq-eqb}
use Rattle.abc_link_names.specs.Numbers.{number_of_text}
use Rattle.abc_link_known.proofs.Telling.{alike}
use Rattle.abc_link_known.proofs.known.are_alike.Goals as goal

pub returns-then-number : goal.returns-then-number
returns-then-number c = λ e.
    let names = c.args.names.now in
    let numbers = names.tables.now.numbers in
    let same : number_of_text numbers c.args.a.string ≡ number_of_text numbers c.args.b.string = cc in
    alike names.abc.now names.tables.now c.args.a c.args.b names.sound (eq-eqb (number_of_text numbers c.args.a.string) (number_of_text numbers c.args.b.string) same) (c.are_same.ensures e)
