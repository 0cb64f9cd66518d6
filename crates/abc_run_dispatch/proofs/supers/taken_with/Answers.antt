use Rattle.std.proofs.Common.{[], arith}
use Rattle.abc_run_members.proofs.Parts.{few_parts}
use Rattle.abc_run_names.specs.Named.{name_form_at}
use Rattle.abc_run_state.specs.Outer.{Outer, setting_in}
use Rattle.abc_run_dispatch.proofs.supers.taken_with.Goals as goal

-- how many parts a name has is no matter of what is outside
nothing : Outer
nothing = record { formulas = []; wrote = [] }

pub overflow_add-result : goal.overflow_add-result
overflow_add-result c =
    let few = few_parts (name_form_at (setting_in c.args.linked.now nothing) c.args.n) in
    omega (arith, few, c.parts_of.ensures nothing, c.requires)

pub overflow_add-result-2 : goal.overflow_add-result-2
overflow_add-result-2 c =
    let few = few_parts (name_form_at (setting_in c.args.linked.now nothing) c.args.n) in
    omega (arith, few, c.parts_of.ensures nothing, c.requires)
