use Rattle.std.proofs.Common.{◌+◌, set, ap, ◌∙◌, arith}
use Rattle.abc_link_names.specs.declared.types.Kind.{Kind}
use Rattle.abc_link_names.specs.declared.types.Kind.TheVariants.{Any}
use Rattle.abc_verify_flow.proofs.Lists.{pasted_next}
use Rattle.abc_verify_flow.proofs.kept.put_operands.Goals as goal

pub loop-depth-preserved : goal.loop-depth-preserved
loop-depth-preserved c =
    let inside = c.requires.inside in
    let counted = c.requires.counted in
    pasted_next c.args.list.now c.args.stack.now c.loop-depth.list c.set.new.self c.args.span.first c.loop-depth.depth Any (omega (arith, inside, counted)) (omega (arith, counted)) c.loop-depth.invariant
    (c.set.ensures ∙ ap (λ (k : Kind). set c.loop-depth.list (c.args.span.first + c.loop-depth.depth) k) c.get_or.ensures)
