use Rattle.std.proofs.Common.{get_or, false, ap, ◌∙◌, sym, length, true≢false}
use Rattle.std.proofs.lemmas.List.{length-replicate}
use Rattle.abc_base_trees.specs.Walks.{with_entries}
use Rattle.abc_base_trees.proofs.Visited.{no_marks}
use Rattle.abc_base_trees.proofs.Walked.{ordered, walk_begun}
use Rattle.abc_base_trees.proofs.order.parts_first.Goals as goal

pub loop-task-init : goal.loop-task-init
loop-task-init c =
    let marks = c.in_ok-add_all.ensures.entered ∙ c.in_ok-entered.ensures.items_if_clones_equal (λ y e. e) in
    record {
      marks = ap length marks ∙ length-replicate _ false ∙ c.len.ensures;
      walk = λ never. rw (c.in_ok-add_all.ensures.order ∙ c.new-2.ensures)
          (walk_begun c.args.graph.now c.args.roots.now c.add_all.new.self.entered.items c.add_all.new.self.todo
          (λ x e. true≢false (sym e ∙ ap (λ ms. get_or ms x false) marks ∙ no_marks _ x))
          (c.in_ok-add_all.ensures.todo ∙ (λ i. with_entries (c.as_slice.ensures i) (c.new.ensures i))));
    }

pub returns : goal.returns
returns c = ordered c.args.graph.now c.args.roots.now c.loop-task.walk.entered.items c.loop-task.walk.order c.loop-task.walk.todo c.in_default.ensures.0 c.loop-task.invariant.walk
