use Rattle.std.proofs.Common.{◌<◌, ◌≤◌, length, sym, subst, arith}
use Rattle.abc_tidy_refs.specs.Nodes.{new_index}
use Rattle.abc_tidy_refs.proofs.Reading.{put_all, put_next, set_again, set_same}
use Rattle.abc_tidy_refs.proofs.indexed.TableIndexed.renumber.Goals as goal
use Rattle.abc_tidy_refs.proofs.indexed.TableIndexed.renumber.Goals.{then-may_change, else-may_change}

pub loop-i-preserved : goal.loop-i-preserved
loop-i-preserved g c =
    let lt : c.loop-i.i < length c.args.self.now = subst (λ n. c.loop-i.i < n) c.len-i-end.ensures c.loop-i-test.true in
    elim c.if-may_change.branch [
      | then-may_change w ↦
          rw w.self-is
          (put_next (g.T.Indexed.renumbered (new_index c.args.numbers.now)) c.args.self.now c.loop-i.self w.set.new.self c.loop-i.i w.replace-item.result w.renumber.new.self c.loop-i.invariant lt w.replace-item.ensures.is w.renumber.ensures
          (set_again c.loop-i.self w.replace-item.new.self w.set.new.self c.loop-i.i w.blank.result w.renumber.new.self w.replace-item.ensures.list w.set.ensures))
      | else-may_change w ↦
          let same = c.may_change.ensures w.if-may_change.false in
          rw w.self-is
          (put_next (g.T.Indexed.renumbered (new_index c.args.numbers.now)) c.args.self.now c.loop-i.self c.loop-i.self c.loop-i.i c.get.result.now c.get.result.now c.loop-i.invariant lt c.get.ensures (sym same) (set_same c.loop-i.self c.loop-i.i c.get.result.now c.get.ensures))
    ]

pub returns : goal.returns
returns g c =
    let all : length c.args.self.now ≤ c.loop-i.i = omega (arith, c.loop-i-test.false, c.len-i-end.ensures) in
    put_all (g.T.Indexed.renumbered (new_index c.args.numbers.now)) c.args.self.now c.loop-i.self c.loop-i.i c.loop-i.invariant all
