use Rattle.std.proofs.Common.{◌<◌, ◌≤◌, length, subst, arith}
use Rattle.abc_tidy_refs.specs.Nodes.{new_index}
use Rattle.abc_tidy_refs.proofs.Reading.{put_all, put_next}
use Rattle.abc_tidy_refs.proofs.indexed.renumber_each.Goals as goal

pub loop-i-preserved : goal.loop-i-preserved
loop-i-preserved c =
    let lt : c.loop-i.i < length c.args.indices.now = subst (λ n. c.loop-i.i < n) c.len-i-end.ensures c.loop-i-test.true in
    put_next (new_index c.args.numbers.now c.args.pool) c.args.indices.now c.loop-i.indices c.set.new.self c.loop-i.i c.get-index.result.now c.number.result c.loop-i.invariant lt c.get-index.ensures c.number.ensures c.set.ensures

pub returns : goal.returns
returns c =
    let all : length c.args.indices.now ≤ c.loop-i.i = omega (arith, c.loop-i-test.false, c.len-i-end.ensures) in
    put_all (new_index c.args.numbers.now c.args.pool) c.args.indices.now c.loop-i.indices c.loop-i.i c.loop-i.invariant all
