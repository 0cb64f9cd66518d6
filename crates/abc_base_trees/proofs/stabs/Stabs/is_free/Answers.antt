use Rattle.std.proofs.Common.{◌∙◌, sym}
use Rattle.abc_base_trees.proofs.Paths.{passed_all, passed_more, passed_stop}
use Rattle.abc_base_trees.proofs.stabs.Stabs.is_free.Goals as goal

pub returns-then-first-ne0-clause-taken : goal.returns-then-first-ne0-clause-taken
returns-then-first-ne0-clause-taken c = λ off. passed_stop c.args.self.now c.args.place c.loop-node.node c.args.self.now.whole (λ e. c.if-first-ne0.true (c.first.ensures ∙ e)) c.loop-node.invariant

pub loop-node-preserved : goal.loop-node-preserved
loop-node-preserved c = passed_more _ _ _ c.loop-node.invariant (sym c.first.ensures ∙ c.if-first-ne0.false)

pub returns-clause-free : goal.returns-clause-free
returns-clause-free c = λ on. passed_all c.args.self.now c.args.place c.loop-node.node c.args.self.now.whole c.loop-node-test.false c.loop-node.invariant
