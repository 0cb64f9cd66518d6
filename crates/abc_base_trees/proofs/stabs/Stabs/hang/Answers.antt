use Rattle.std.proofs.Common.{arith}
use Rattle.std.proofs.lemmas.Bool.{eqb-false, eqb-true}
use Rattle.abc_base_trees.proofs.Adding.{hanging_last, hanging_more}
use Rattle.abc_base_trees.proofs.stabs.Stabs.hang.Goals as goal

pub loop-low-preserved : goal.loop-low-preserved
loop-low-preserved c =
    hanging_more c.args.number c.args.from c.args.to c.args.self.now c.loop-low.self c.hang_if.new.self c.hang_if-in-loop-low.new.self c.loop-low.low c.loop-low.high _ _ c.requires.from c.requires.to c.loop-low-test.true
    (λ e. eqb-true _ _ e)
    (λ e. let ne = eqb-false _ _ e in omega arith)
    (λ e. eqb-true _ _ e)
    (λ e. let ne = eqb-false _ _ e in omega arith)
    c.loop-low.invariant
    c.in_ok-hang_if.ensures
    c.in_ok-hang_if-2.ensures

pub returns : goal.returns
returns c = hanging_last c.args.number c.args.from c.args.to c.args.self.now c.loop-low.self c.loop-low.low c.loop-low.high c.loop-low-test.false c.loop-low.invariant
