use Rattle.std.proofs.Common.{subst}
use Rattle.abc_run_finish.specs.Ending.{IsUnstuck}
use Rattle.abc_run_finish.proofs.Unwound.{only_full}
use Rattle.abc_heap_store.specs.declared.records.What.TheVariants.{Plain}
use Rattle.abc_meaning.specs.Throwing.{stops}
use Rattle.abc_run_state.specs.Outer.{setting_in, world}
use Rattle.abc_run_state.specs.Stops.{why}
use Rattle.abc_run_state.specs.declared.state.Stop.{Stop}
use Rattle.abc_meaning.specs.Objects.{new_of_host}
use Rattle.abc_run_finish.proofs.stopping.stopped.Goals as goal

pub limit_of-requires : goal.limit_of-requires
limit_of-requires g c =
    let p = setting_in c.args.linked.now g.out in
    let w = world c.args.s.now g.out in
    let fs = c.args.s.now.frames.living in
    only_full p fs (new_of_host p c.in-Errs.class Plain w) (world c.make_of_host.new.s g.out) c.in-Err.stop (c.in-Err.ensures.part g.out) (subst (λ (e : Stop). IsUnstuck (stops p w fs (why e))) c.in-Errs.is c.requires.1.1.1.1)
