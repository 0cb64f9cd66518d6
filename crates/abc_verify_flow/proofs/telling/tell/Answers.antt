use Rattle.abc_verify_flow.proofs.Told.{telling_first, telling_inside, telling_last, telling_more, telling_ready}
use Rattle.abc_verify_flow.proofs.telling.tell.Goals as goal

pub loop-node-init : goal.loop-node-init
loop-node-init g c = telling_first _ _ _ c.args.stabs.now c.args.place c.leaf-node.result c.args.seen.now.locals _ _ c.args.told.now c.leaf-node.ensures.is c.requires.opened c.requires.kept

pub tell_at-requires-clause-inside : goal.tell_at-requires-clause-inside
tell_at-requires-clause-inside g c = telling_inside _ _ _ c.args.stabs.now c.args.place c.loop-node.node c.args.seen.now.locals _ _ _ _ _ c.loop-node.invariant

pub tell_at-requires-clause-ready : goal.tell_at-requires-clause-ready
tell_at-requires-clause-ready g c = λ h here. telling_ready _ _ _ c.args.stabs.now c.args.place c.loop-node.node c.args.seen.now.locals _ _ _ _ _ h c.requires.hung c.requires.ready c.loop-node.invariant here

pub loop-node-preserved : goal.loop-node-preserved
loop-node-preserved g c = telling_more _ _ _ c.args.stabs.now c.args.place c.loop-node.node c.args.seen.now.locals _ _ _ _ _ _ _ _ c.loop-node.invariant c.in_ok-tell_at.ensures

pub returns : goal.returns
returns g c = telling_last _ _ _ c.args.stabs.now c.args.place c.loop-node.node c.args.seen.now.locals _ _ _ _ _ c.args.stabs.now.whole.root c.requires.hung c.loop-node-test.false c.loop-node.invariant
