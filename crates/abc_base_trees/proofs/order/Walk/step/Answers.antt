use Rattle.std.proofs.Common.{get_or, true, length, ap, ◌∙◌, ◌∷◌, arith}
use Rattle.abc_base_graphs.specs.Graph.{leads_to}
use Rattle.abc_base_trees.specs.Walks.{leave}
use Rattle.abc_base_trees.proofs.Efforts.{entered_less, unmarked_within}
use Rattle.abc_base_trees.proofs.Walked.{length_pushed, step_enters, step_leaves, step_skips}
use Rattle.abc_base_trees.proofs.order.Walk.step.Goals as goal

pub returns-then-task-clause-walk : goal.returns-then-task-clause-walk
returns-then-task-clause-walk c = λ never w.
    step_leaves c.args.graph.now c.args._roots.now c.args.self.now.entered.items c.args.self.now.order c.push.new.self c.args.task c.args.self.now.todo c.if-task.true c.in_ok-push.ensures.ok never w

pub returns-then-has_mark-clause-walk : goal.returns-then-has_mark-clause-walk
returns-then-has_mark-clause-walk c = λ never w.
    step_skips c.args.graph.now c.args._roots.now c.args.self.now.entered.items c.args.self.now.order c.args.task c.args.self.now.todo c.requires.in_range c.requires.roots c.requires.marks c.if-task.false
    (c.if-has_mark.ensures ∙ ap (λ ms. get_or ms c.args.task.node true) c.deref.ensures.value) never w

pub returns-clause-walk : goal.returns-clause-walk
returns-clause-walk c = λ never w.
    step_enters c.args.graph.now c.args._roots.now c.args.self.now.entered.items c.enter.new.self.entered.items c.args.self.now.order c.enter.new.self.order c.args.task c.args.self.now.todo c.enter.new.self.todo c.if-task.false
    (c.if-has_mark.ensures ∙ ap (λ ms. get_or ms c.args.task.node true) c.deref.ensures.value) c.in_ok-enter.ensures.marks c.in_ok-enter.ensures.todo c.in_ok-enter.ensures.order never w

pub returns-clause-less : goal.returns-clause-less
returns-clause-less c =
    entered_less c.args.graph.now c.args.self.now.entered.items c.enter.new.self.entered.items c.args.task.node (length c.enter.new.self.todo) (length c.args.self.now.todo) c.requires.marks
    (c.if-has_mark.ensures ∙ ap (λ ms. get_or ms c.args.task.node true) c.deref.ensures.value) c.in_ok-enter.ensures.marks
    (ap length c.in_ok-enter.ensures.todo ∙ length_pushed (leads_to c.args.graph.now c.args.task.node) (leave c.args.task.node ∷ c.args.self.now.todo))

pub enter-requires-clause-within : goal.enter-requires-clause-within
enter-requires-clause-within c =
    unmarked_within c.args.self.now.entered.items c.args.task.node (c.if-has_mark.ensures ∙ ap (λ ms. get_or ms c.args.task.node true) c.deref.ensures.value)

pub enter-requires-clause-known : goal.enter-requires-clause-known
enter-requires-clause-known c =
    let within = unmarked_within c.args.self.now.entered.items c.args.task.node (c.if-has_mark.ensures ∙ ap (λ ms. get_or ms c.args.task.node true) c.deref.ensures.value) in
    omega (arith, within, c.requires.marks)
