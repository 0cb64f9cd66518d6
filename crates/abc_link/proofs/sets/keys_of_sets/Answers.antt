use Rattle.std.proofs.Common.{◌∙◌, ◌+◌, ◌<◌, ◌++◌, ℕ, List, length, get_or, map, ap, arith}
use Rattle.abc_link.specs.SetKeys.{set_key}
use Rattle.abc_link.proofs.SetSearch.{keys_next}
use Rattle.abc_link.proofs.sets.keys_of_sets.Goals as goal

pub loop-i-preserved : goal.loop-i-preserved
loop-i-preserved c =
    let v = c.args.names.now.abc.now in
    let numbers = c.args.names.now.tables.now.numbers in
    let s = c.set-item.result in
    let lt : c.loop-i.i < length v.sets = omega (arith, c.loop-i-test.true, ap length c.as_slice-set-items.ensures) in
    keys_next v numbers c.loop-i.keys.items c.push_set.new.keys.items v.sets c.loop-i.i s lt
    (c.set-item.is ∙ ap (λ (rs : List (List ℕ)). get_or rs c.loop-i.i s) c.as_slice-set-items.ensures)
    c.loop-i.invariant
    (c.in_ok-push_set.ensures ∙ ap (λ (us : List ℕ). c.loop-i.keys.items ++ map (set_key v numbers (c.loop-i.i + 1)) us) c.as_slice.ensures)
