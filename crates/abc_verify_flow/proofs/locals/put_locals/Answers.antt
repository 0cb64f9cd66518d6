use Rattle.std.proofs.Common.{length, ◌+◌, List, [], set, sym, ap, ◌∙◌, arith}
use Rattle.abc_link_names.specs.declared.types.Kind.{Kind}
use Rattle.abc_verify_flow.specs.Blocks.{blocks_of_64}
use Rattle.abc_verify_flow.proofs.Cut.{cut_at, length-cut, pasted_length, pasted_over}
use Rattle.abc_verify_flow.proofs.Lists.{pasted_next}
use Rattle.abc_verify_flow.proofs.locals.put_locals.Goals as goal

pub loop-index-preserved : goal.loop-index-preserved
loop-index-preserved c =
    let long = length-cut c.args.span.count c.args.locals.now in
    let inside = c.requires in
    pasted_next c.args.blocks.now (blocks_of_64 c.args.span.count c.args.locals.now) c.loop-index.blocks c.put.new.self c.args.span.first c.loop-index.index [] (omega (arith, long, inside)) (omega (arith, long)) c.loop-index.invariant
    (c.in_ok-put.ensures.ok ∙ ap (λ (k : List Kind). set c.loop-index.blocks (c.args.span.first + c.loop-index.index) k) (c.block_in.ensures ∙ sym (cut_at c.args.span.count c.loop-index.index c.args.locals.now [] (omega arith))))

pub put-requires : goal.put-requires
put-requires c =
    let long = pasted_length c.args.blocks.now c.loop-index.blocks c.args.span c.args.locals.now c.loop-index.index c.loop-index.invariant c.requires (omega arith) in
    let inside = c.requires in
    omega (arith, long, inside)

pub returns-in_err-put-clause-as_many : goal.returns-in_err-put-clause-as_many
returns-in_err-put-clause-as_many c =
    ap (λ (xs : List (List Kind)). length xs) c.in_err-put.ensures.err ∙ pasted_length c.args.blocks.now c.loop-index.blocks c.args.span c.args.locals.now c.loop-index.index c.loop-index.invariant c.requires (omega arith)

pub returns-clause-as_many : goal.returns-clause-as_many
returns-clause-as_many c = pasted_length c.args.blocks.now c.loop-index.blocks c.args.span c.args.locals.now c.loop-index.index c.loop-index.invariant c.requires (omega arith)

pub returns-clause-ok : goal.returns-clause-ok
returns-clause-ok c = pasted_over c.args.blocks.now c.loop-index.blocks c.args.span c.args.locals.now c.loop-index.index c.loop-index.invariant (omega arith)
