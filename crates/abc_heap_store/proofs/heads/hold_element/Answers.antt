use Rattle.std.proofs.Common.{◌∙◌, ap, sym, rules, arith}
use Rattle.std.proofs.lemmas.Int.{ints, to_z-of_z}
use Rattle.std.specs.Int.{w64}
use Rattle.std.specs.Prelude.{FitsSigned}
use Rattle.abc_heap_values.specs.Filling.{Filling}
use Rattle.abc_heap_values.specs.Links.{held_at}
use Rattle.abc_heap_values.specs.declared.cell.Held.TheVariants.{Element}
use Rattle.abc_heap_values.specs.declared.cell.Cell.{Cell}
use Rattle.abc_heap_values.specs.declared.values.Value.{Value}
use Rattle.abc_heap_values.specs.declared.values.Value.TheVariants.{Num}
use Rattle.abc_heap_store.proofs.heads.hold_element.Goals as goal

pub returns-in-Num : goal.returns-in-Num
returns-in-Num c =
    let old = c.args.cells.now in
    let with : Value → Filling Cell = λ x. record { items = held_at old.items c.args.place (Element x); limit = old.limit } in
    let fits : FitsSigned w64 c.in-Num.n = first_of (search rules, omega (arith, ints), grind (arith, ints)) in
    c.hold.ensures ∙ ap (λ n. with (Num n)) (to_z-of_z w64 c.in-Num.n fits) ∙ ap with (sym c.in-Num.is)
