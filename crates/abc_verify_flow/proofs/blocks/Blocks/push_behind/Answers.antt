use Rattle.std.proofs.Common.{List, length, refl, sym, ap, ◌∙◌, subst}
use Rattle.abc_verify_flow.specs.Blocks.{AreAlone, blocks_of}
use Rattle.abc_verify_flow.specs.declared.blocks.Block.{Block}
use Rattle.abc_verify_flow.proofs.Alone.{longer_alone, longer_blocks, pushed_alone, pushed_blocks, span_along}
use Rattle.abc_verify_flow.proofs.Parts.{on_err}
use Rattle.abc_verify_flow.proofs.blocks.Blocks.push_behind.Goals as goal

pub invariant_of-self : goal.invariant_of-self
invariant_of-self c = longer_alone c.self.inside.blocks.items c.self.inside.kinds.items c.add_all.new.list.items c.args.self.now c.self.invariant c.add_all.ensures.longer

pub returns-in_err-add_all-clause-err : goal.returns-in_err-add_all-clause-err
returns-in_err-add_all-clause-err c = on_err c.from_residual-in_err-add_all.result _ (longer_blocks c.self.inside.blocks.items c.self.inside.kinds.items c.add_all.new.list.items c.args.self.now c.self.invariant c.add_all.ensures.longer c.self.view_is)

pub invariant_of-self-in_err-add_block : goal.invariant_of-self-in_err-add_block
invariant_of-self-in_err-add_block c =
    subst (λ (bs : List Block). AreAlone bs (length c.add_all.new.list.items)) (sym c.in_err-add_block.ensures.err)
    (longer_alone c.self.inside.blocks.items c.self.inside.kinds.items c.add_all.new.list.items c.args.self.now c.self.invariant c.add_all.ensures.longer)

pub returns-in_err-add_block-clause-err : goal.returns-in_err-add_block-clause-err
returns-in_err-add_block-clause-err c =
    on_err c.from_residual-in_err-add_block.result _ (
    ap (blocks_of c.add_all.new.list.items) c.in_err-add_block.ensures.err
    ∙ longer_blocks c.self.inside.blocks.items c.self.inside.kinds.items c.add_all.new.list.items c.args.self.now c.self.invariant c.add_all.ensures.longer c.self.view_is
    )

pub invariant_of-self-2 : goal.invariant_of-self-2
invariant_of-self-2 c =
    subst (λ (bs : List Block). AreAlone bs (length c.add_all.new.list.items)) (sym c.in_ok-add_block.ensures.ok)
    (pushed_alone c.self.inside.blocks.items c.self.inside.kinds.items c.add_all.new.list.items c.args.self.now _ c.args.kinds.now c.self.invariant (span_along _ _ _ _ c.in_ok-span.span c.in_ok-span.ensures (c.len.ensures ∙ c.self.inside.kinds.ok.0) refl) c.in_ok-add_all.ensures.ok)

pub returns-clause-ok : goal.returns-clause-ok
returns-clause-ok c =
    ap (blocks_of c.add_all.new.list.items) c.in_ok-add_block.ensures.ok
    ∙ pushed_blocks c.self.inside.blocks.items c.self.inside.kinds.items c.add_all.new.list.items c.args.self.now _ c.args.kinds.now c.self.invariant (span_along _ _ _ _ c.in_ok-span.span c.in_ok-span.ensures (c.len.ensures ∙ c.self.inside.kinds.ok.0) refl) c.in_ok-add_all.ensures.ok c.self.view_is
