use Rattle.std.proofs.Common.{◌++◌, ◌∷◌, [], ap, length, ◌∙◌}
use Rattle.abc_base_trees.proofs.InRows.{pushed_ends, pushed_rows}
use Rattle.abc_base_trees.proofs.rows.Rows.push.Goals as goal

pub invariant_of-self-2 : goal.invariant_of-self-2
invariant_of-self-2 g c =
    pushed_ends c.self.inside.ends.items c.push_reserved.new.self.items c.self.inside.items.items c.extend_from_slice.new.self.items c.args.row.now (length c.as_slice-end.result.now) c.self.invariant
    (c.push_reserved.ensures.items ∙ ap (λ es. es ++ length c.as_slice-end.result.now ∷ []) c.in_ok-reserve.ensures.items) c.in_ok-extend_from_slice.ensures.items (ap length c.as_slice-end.ensures.value)

pub returns-clause-ok : goal.returns-clause-ok
returns-clause-ok g c =
    pushed_rows c.self.inside.ends.items c.push_reserved.new.self.items c.self.inside.items.items c.extend_from_slice.new.self.items c.args.row.now (length c.as_slice-end.result.now) c.args.self.now c.self.invariant c.self.view_is
    (c.push_reserved.ensures.items ∙ ap (λ es. es ++ length c.as_slice-end.result.now ∷ []) c.in_ok-reserve.ensures.items) c.in_ok-extend_from_slice.ensures.items (ap length c.as_slice-end.ensures.value)
