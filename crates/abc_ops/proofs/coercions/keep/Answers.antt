use Rattle.abc_ops.proofs.coercions.keep.Goals as goal

pub returns-clause-kept : goal.returns-clause-kept
returns-clause-kept c = record { is = c.is_of-is.result; tells = c.is_of-is.ensures; kept = c.keep_by.ensures.value }
