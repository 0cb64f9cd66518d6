use Rattle.std.proofs.Common.{◌<◌, ◌++◌, ◌∷◌, [], ap, length, subst, ◌∙◌}
use Rattle.abc_tidy_entries.proofs.Building.{space_head_next}
use Rattle.abc_tidy_entries.proofs.heads.add_spaces.Goals as goal

pub loop-i-preserved : goal.loop-i-preserved
loop-i-preserved c =
    let lt : c.loop-i.i < length c.args.spaces.now = subst (λ n. c.loop-i.i < n) c.len-i-end.ensures c.loop-i-test.true in
    space_head_next c.args.spaces.now c.loop-i.i c.get.result.now c.args.heads.now c.loop-i.heads c.push.new.self c.loop-i.invariant lt c.get.ensures (c.in_ok-push.ensures.ok ∙ ap (λ h. c.loop-i.heads ++ h ∷ []) c.head_of_space.ensures)
