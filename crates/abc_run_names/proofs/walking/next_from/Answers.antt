use Rattle.std.proofs.Common.{◌∙◌, ap, subst, sym}
use Rattle.abc_heap_values.specs.declared.values.Value.{Value}
use Rattle.abc_objects.specs.Values.{Exists}
use Rattle.abc_meaning.specs.Walking.{next_along, object_number, position}
use Rattle.abc_run_names.proofs.Walks.{along_is}
use Rattle.abc_run_names.proofs.walking.next_from.Goals as goal

pub next_along-requires-clause-object : goal.next_along-requires-clause-object
next_along-requires-clause-object c = subst (Exists c.args.linked.now c.args.s.now.arena) c.in-Obj.is c.requires.object

pub returns-in-Obj : goal.returns-in-Obj
returns-in-Obj c =
    let h = c.args.s.now.arena in
    along_is h c.in-Obj.o.0 c.args.after c.next_along.result c.next_along.ensures ∙ ap (λ (v : Value). next_along (object_number v) (position c.args.after) h) (sym c.in-Obj.is)
