use Rattle.std.proofs.Common.{◌<◌, ◌≤◌, ap, length, subst, arith}
use Rattle.abc_tidy_entries.proofs.Placing.{held_all, holds_next, holds_none, many_next, read_at}
use Rattle.abc_tidy_entries.proofs.places.marked_texts.Goals as goal

pub loop-i-init : goal.loop-i-init
loop-i-init c = record {
  many = let none = ap length c.new-kept.ensures in omega (arith, none);
  holds = holds_none c.args.marks.now c.args.begin c.args.strings.now c.new-kept.result;
}

pub loop-i-preserved : goal.loop-i-preserved
loop-i-preserved c =
    let lt : c.loop-i.i < length c.args.strings.now = subst (λ n. c.loop-i.i < n) c.len-i-end.ensures c.loop-i-test.true in
    record {
      many = many_next c.loop-i.kept c.keep_text.new.kept c.loop-i.i c.as_slice.result.now c.has_mark-is_marked.result c.loop-i.invariant.many c.in_ok-keep_text.ensures.added c.in_ok-keep_text.ensures.same;
      holds = holds_next c.args.marks.now c.args.begin c.args.strings.now c.loop-i.kept c.keep_text.new.kept c.loop-i.i c.as_slice.result.now c.has_mark-is_marked.result c.loop-i.invariant.holds lt
          (read_at c.args.strings.now c.loop-i.i c.get.result.now c.as_slice.result.now c.as_slice.ensures c.get.ensures) c.has_mark-is_marked.ensures c.in_ok-keep_text.ensures.added c.in_ok-keep_text.ensures.same;
    }

pub returns-clause-many : goal.returns-clause-many
returns-clause-many c = omega (arith, c.loop-i.invariant.many, c.loop-i.auto.i-end, c.len-i-end.ensures)

pub returns-clause-holds : goal.returns-clause-holds
returns-clause-holds c =
    let all : length c.args.strings.now ≤ c.loop-i.i = omega (arith, c.loop-i-test.false, c.len-i-end.ensures) in
    held_all c.args.marks.now c.args.begin c.args.strings.now c.loop-i.kept c.loop-i.i c.loop-i.invariant.holds all
