use Rattle.std.proofs.Common.{◌≡◌, ℕ, take, ap, ◌∙◌, arith}
use Rattle.abc_link_names.specs.Kinds.{IsAtMost}
use Rattle.abc_verify_flow.specs.Blocks.{blocks_of_64}
use Rattle.abc_verify_flow.specs.Kept.{concat_blocks, part}
use Rattle.abc_verify_flow.proofs.Cut.{each_block, joined_cut, part_all}
use Rattle.abc_verify_flow.proofs.Lists.{each_along}
use Rattle.abc_verify_flow.proofs.locals.are_locals_below.Goals as goal

pub loop-index-preserved : goal.loop-index-preserved
loop-index-preserved g c =
    each_block (IsAtMost (g.F.Flow.file c.args.flow.now)) c.args.locals.now c.args.span c.args.blocks.now c.loop-index.index c.block_in.result.now c.get.result.now c.block_in.ensures c.get.ensures (omega arith) c.loop-index.invariant (c.are_below.ensures c.if-not-are_below.false)

pub returns : goal.returns
returns g c = λ yes.
    let end : c.loop-index.index ≡ c.args.span.count = omega arith in
    each_along (IsAtMost (g.F.Flow.file c.args.flow.now)) (concat_blocks (blocks_of_64 c.loop-index.index c.args.locals.now)) (concat_blocks (take c.loop-index.index (part c.args.span c.args.blocks.now))) c.args.locals.now (concat_blocks (part c.args.span c.args.blocks.now)) c.loop-index.invariant
    (ap (λ (n : ℕ). concat_blocks (blocks_of_64 n c.args.locals.now)) end ∙ joined_cut c.args.span.count c.args.locals.now (c.are_blocks.ensures c.if-not-are_blocks.false))
    (ap (λ (n : ℕ). concat_blocks (take n (part c.args.span c.args.blocks.now))) end ∙ ap concat_blocks (part_all c.args.span c.args.blocks.now c.requires.inside))
