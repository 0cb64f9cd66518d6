use Rattle.std.proofs.Common.{replicate, false, ◌++◌, ap, ◌∙◌}
use Rattle.abc_base_trees.proofs.Visited.{visit_begun}
use Rattle.abc_base_trees.proofs.visit.visit_order.Goals as goal

pub loop-node-init : goal.loop-node-init
loop-node-init c =
    visit_begun c.args.heads.now c.args.graph.now c.args.classes.now.keys.keys c.args.classes.now.classes c.args.roots.now c.add_all.new.self.todo c.add_all.new.self.seen c.add_all.new.self.met.items c.add_all.new.self.opened.items
    c.requires.valid c.requires.roots
    (c.in_ok-add_all.ensures.met ∙ c.in_ok-met.ensures.items_if_clones_equal (λ y e. e) ∙ ap (λ n. replicate n false) c.len.ensures.len)
    (c.in_ok-add_all.ensures.opened ∙ c.in_ok-opened.ensures.items_if_clones_equal (λ y e. e) ∙ ap (λ n. replicate n false) c.len-2.ensures)
    (c.in_ok-add_all.ensures.todo ∙ (λ i. c.as_slice.ensures i ++ c.new-2.ensures i)) (c.in_ok-add_all.ensures.seen ∙ c.new.ensures)
