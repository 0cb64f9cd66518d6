use Rattle.abc_verify_flow.proofs.Cut.{cut_behind}
use Rattle.abc_verify_flow.proofs.locals.add_locals.Goals as goal

pub loop-index-preserved : goal.loop-index-preserved
loop-index-preserved c = cut_behind c.args.blocks.now c.loop-index.blocks c.push.new.self c.loop-index.index c.args.locals.now _ c.loop-index.invariant c.in_ok-push.ensures.ok c.block_in.ensures
