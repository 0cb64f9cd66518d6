use Rattle.std.proofs.Common.{◌<◌, ◌≤◌, true, false, get_or, length, sym, ap, subst, ◌∙◌, arith}
use Rattle.std.proofs.Math.ListN.{length-set}
use Rattle.std.proofs.lemmas.List.{length-replicate}
use Rattle.abc_tidy_entries.proofs.Marked.{marked_all, marked_next}
use Rattle.abc_tidy_entries.proofs.marks.marks_of.Goals as goal

pub loop-node-preserved : goal.loop-node-preserved
loop-node-preserved c =
    let i = c.loop-node.node-index in
    let items = c.as_slice-node-items.ensures in
    let x = get_or c.as_slice-node-items.result.now i 0 in
    record {
      many = ap length c.mark.ensures ∙ length-set c.loop-node.marks x true ∙ c.loop-node.invariant.many;
      marked = marked_next c.args.nodes.now i x c.loop-node.marks c.mark.new.marks c.loop-node.invariant.marked
          (subst (λ ys. i < length ys) items c.loop-node-test.true) (ap (λ ys. get_or ys i 0) items) c.mark.ensures;
    }

pub loop-node-init : goal.loop-node-init
loop-node-init c = record {
  many = ap length c.in_ok-marks.ensures ∙ length-replicate _ false;
  marked = λ y h l. absurd h;
}

pub returns-clause-marked : goal.returns-clause-marked
returns-clause-marked c = λ y h l.
    let same = ap length c.as_slice-node-items.ensures in
    let all : length c.args.nodes.now ≤ c.loop-node.node-index = omega (arith, same, c.loop-node-test.false) in
    marked_all c.args.nodes.now c.loop-node.node-index c.loop-node.marks c.loop-node.invariant.marked all y h (subst (λ n. y < n) (sym c.loop-node.invariant.many) l)
