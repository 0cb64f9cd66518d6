use Rattle.std.proofs.Common.{◌∙◌, rules, subst, sym}
use Rattle.abc_objects.specs.Stands.{NamesParts}
use Rattle.abc_objects.specs.Values.{IsObject}
use Rattle.abc_tests_heap.proofs.Parts.{parts_named}
use Rattle.abc_tests_heap.proofs.searches.kept_by.Goals as goal

pub returns-in-Closure : goal.returns-in-Closure
returns-in-Closure c =
    let there : IsObject c.args.a.now c.args.o = search rules in
    let named = parts_named c.args.l.now c.args.a.now c.args.o c.requires there in
    let at = subst (NamesParts c.args.l.now c.args.a.now) (sym c.what.ensures ∙ c.in-Closure.is) named in
    at.2
