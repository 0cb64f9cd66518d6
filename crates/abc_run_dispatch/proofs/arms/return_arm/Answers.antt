use Rattle.std.proofs.Common.{refl, ◌∙◌}
use Rattle.abc_run_dispatch.proofs.Dispatched.{dispatches_left}
use Rattle.abc_run_dispatch.proofs.Led.{returned_finishes}
use Rattle.abc_file_types.specs.declared.code.Instr.TheVariants.{Plain}
use Rattle.abc_run_dispatch.proofs.arms.return_arm.Goals as goal

pub returns-then-run_return_fast : goal.returns-then-run_return_fast
returns-then-run_return_fast g c = record {
  leaves = c.run_return_fast.ensures.leaves c.if-run_return_fast.true;
  finishes = returned_finishes c.args.linked.now c.run_return_fast.new.left c.args.s.now (c.run_return_fast.ensures.returns c.if-run_return_fast.true);
  goes = λ e. absurd cc;
  limit = refl;
}

pub leaves-requires : goal.leaves-requires
leaves-requires g c = record { none = c.run_return_fast.ensures.undone c.if-run_return_fast.false ∙ c.requires.0.none }

pub returns : goal.returns
returns g c = dispatches_left c.args.linked.now g.out c.args.s.now (Plain c.args.op) c.run_return.new.s _ _ c.leaves.ensures.goes c.run_return.result c.run_return.ensures.leaves (returned_finishes c.args.linked.now c.run_return.result c.run_return.new.s c.run_return.ensures.returns) c.leaves.ensures.left
