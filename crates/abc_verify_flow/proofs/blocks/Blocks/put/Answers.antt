use Rattle.std.proofs.Common.{sym}
use Rattle.abc_verify_flow.proofs.Alone.{put_blocks}
use Rattle.abc_verify_flow.proofs.Parts.{set_same}
use Rattle.abc_verify_flow.proofs.blocks.Blocks.put.Goals as goal

pub returns-then-has-clause-ok : goal.returns-then-has-clause-ok
returns-then-has-clause-ok c = sym (set_same c.args.self.now c.args.index c.args.kinds.now (c.has.ensures c.if-has.true))

pub returns-then-is_free-clause-ok : goal.returns-then-is_free-clause-ok
returns-then-is_free-clause-ok c = put_blocks c.self.inside.blocks.items c.self.inside.kinds.items c.put_all.new.list.items c.args.self.now c.args.index c.block_at-block.result c.args.kinds.now c.self.invariant c.block_at-block.ensures (c.is_free.ensures c.if-is_free.true) c.put_all.ensures c.self.view_is
