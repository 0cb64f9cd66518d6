use Rattle.std.proofs.Common.{◌++◌, List, take, sym, ap, ◌∙◌, arith}
use Rattle.abc_link_names.specs.declared.types.Kind.{Kind}
use Rattle.abc_verify_flow.specs.Kept.{concat_blocks, part}
use Rattle.abc_verify_flow.proofs.Cut.{joined_last, part_more_at}
use Rattle.abc_verify_flow.proofs.locals.load_locals.Goals as goal

pub loop-index-preserved : goal.loop-index-preserved
loop-index-preserved c =
    c.in_ok-extend_from_slice.ensures.ok
    ∙ ap (λ (xs : List Kind). xs ++ c.get.result.now) c.loop-index.invariant
    ∙ sym (joined_last (take c.loop-index.index (part c.args.span c.args.blocks.now)) c.get.result.now)
    ∙ ap concat_blocks (sym (part_more_at c.args.span c.args.blocks.now c.loop-index.index c.get.result.now c.get.ensures (omega arith)))
