use Rattle.abc_tidy.proofs.tidying.make_plan.Goals as goal

pub class_entries-requires-clause-operands : goal.class_entries-requires-clause-operands
class_entries-requires-clause-operands c = c.in_ok-check_indices.ensures.0

pub class_entries-requires-clause-param_names : goal.class_entries-requires-clause-param_names
class_entries-requires-clause-param_names c = c.in_ok-check_indices.ensures.1

pub returns : goal.returns
returns c =
    let k = c.in_ok-classed.ensures in
    record { operands = c.in_ok-check_indices.ensures.0; param_names = c.in_ok-check_indices.ensures.1; names = k.names; value = c.in_ok-plan.ensures }
