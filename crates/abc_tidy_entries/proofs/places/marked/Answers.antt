use Rattle.std.proofs.Common.{ap, length, arith}
use Rattle.abc_tidy_entries.proofs.Placing.{held_all, holds_next, holds_none, many_next}
use Rattle.abc_tidy_entries.proofs.places.marked.Goals as goal

pub loop-i-init : goal.loop-i-init
loop-i-init g c = record {
  many = let none = ap length c.new-kept.ensures in omega (arith, none);
  holds = holds_none c.args.marks.now c.args.begin c.args.values.now c.new-kept.result;
}

pub loop-i-preserved : goal.loop-i-preserved
loop-i-preserved g c = record {
  many = many_next c.loop-i.kept c.keep.new.kept c.loop-i.i c.index-values-i.result c.has_mark-is_marked.result c.loop-i.invariant.many c.in_ok-keep.ensures.added c.in_ok-keep.ensures.same;
  holds = holds_next c.args.marks.now c.args.begin c.args.values.now c.loop-i.kept c.keep.new.kept c.loop-i.i c.index-values-i.result c.has_mark-is_marked.result c.loop-i.invariant.holds c.loop-i-test.true c.index-values-i.is c.has_mark-is_marked.ensures c.in_ok-keep.ensures.added c.in_ok-keep.ensures.same;
}

pub returns-clause-many : goal.returns-clause-many
returns-clause-many g c = omega (arith, c.loop-i.invariant.many, c.loop-i.auto.i-end)

pub returns-clause-holds : goal.returns-clause-holds
returns-clause-holds g c = held_all c.args.marks.now c.args.begin c.args.values.now c.loop-i.kept c.loop-i.i c.loop-i.invariant.holds c.loop-i-test.false
