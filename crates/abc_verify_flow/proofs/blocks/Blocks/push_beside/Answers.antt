use Rattle.std.proofs.Common.{List, length, sym, ap, ◌∙◌, subst}
use Rattle.abc_verify_flow.specs.Blocks.{AreAlone, blocks_of}
use Rattle.abc_verify_flow.specs.declared.blocks.Block.{Block}
use Rattle.abc_verify_flow.proofs.Alone.{beside_alone, beside_blocks, block_inside, marked_blocks, marked_stays}
use Rattle.abc_verify_flow.proofs.Parts.{got_inside, on_err}
use Rattle.abc_verify_flow.proofs.blocks.Blocks.push_beside.Goals as goal

pub mark_shared-span-requires : goal.mark_shared-span-requires
mark_shared-span-requires c = block_inside c.self.inside.blocks.items c.self.inside.kinds.items c.self.inside.kinds.items c.args.self.now c.args.index c.self.view_is (got_inside c.args.self.now c.args.index c.args.kinds.now c.requires)

pub invariant_of-self : goal.invariant_of-self
invariant_of-self c =
    subst (λ (bs : List Block). AreAlone bs (length c.self.inside.kinds.items)) (sym c.in_err-add_block.ensures.err)
    (marked_stays c.self.inside.blocks.items c.mark_shared-span.new.blocks.items c.args.index c.mark_shared-span.result c.mark_shared-span.ensures (length c.self.inside.kinds.items) c.self.invariant)

pub returns-in_err-add_block-clause-err : goal.returns-in_err-add_block-clause-err
returns-in_err-add_block-clause-err c =
    on_err c.from_residual.result _ (
    ap (blocks_of c.self.inside.kinds.items) c.in_err-add_block.ensures.err
    ∙ marked_blocks c.self.inside.blocks.items c.mark_shared-span.new.blocks.items c.args.index c.mark_shared-span.result c.mark_shared-span.ensures c.self.inside.kinds.items
    ∙ c.self.view_is
    )

pub invariant_of-self-2 : goal.invariant_of-self-2
invariant_of-self-2 c =
    subst (λ (bs : List Block). AreAlone bs (length c.self.inside.kinds.items)) (sym c.in_ok-add_block.ensures.ok)
    (beside_alone c.self.inside.blocks.items c.mark_shared-span.new.blocks.items c.args.index c.mark_shared-span.result c.mark_shared-span.ensures (length c.self.inside.kinds.items) c.self.invariant)

pub returns-clause-ok : goal.returns-clause-ok
returns-clause-ok c =
    ap (blocks_of c.self.inside.kinds.items) c.in_ok-add_block.ensures.ok
    ∙ beside_blocks c.self.inside.blocks.items c.mark_shared-span.new.blocks.items c.args.index c.mark_shared-span.result c.mark_shared-span.ensures c.self.inside.kinds.items c.args.self.now c.args.kinds.now c.self.view_is c.requires
