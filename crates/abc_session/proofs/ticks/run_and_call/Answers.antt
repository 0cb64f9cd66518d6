use Rattle.std.proofs.Common.{◌∙◌}
use Rattle.abc_session.proofs.TicksFollowing.{causes, gets_ready, method_stays, names_stay, not_run, run_only, run_then_calls, same_names}
use Rattle.abc_session.proofs.ticks.run_and_call.Goals as goal

pub start-requires : goal.start-requires
start-requires g c = λ begun. same_names c.args.session.now (g.H.Host.formulas c.args.host.now) c.requires.opened

pub call_each-requires : goal.call_each-requires
call_each-requires g c =
    let fs = g.H.Host.formulas c.args.host.now in
    record {
      ready = gets_ready c.args.session.now c.start.new.self fs c.args.fuel c.args.method c.start.result c.requires.opened c.start.ensures.keeps.ended c.in-Done.is c.start.ensures.keeps.closed;
      names = names_stay c.args.session.now c.start.new.self fs c.args.fuel c.args.method c.start.result c.requires.opened c.in-Done.is (λ e. (c.start.ensures.leaves e).names);
      method = method_stays c.args.session.now c.start.new.self fs c.args.fuel c.args.method c.start.result c.requires.opened c.start.ensures.keeps.linked c.requires.method;
    }

pub returns-in-Done-clause-runs : goal.returns-in-Done-clause-runs
returns-in-Done-clause-runs g c =
    run_then_calls c.args.session.now c.start.new.self (g.H.Host.formulas c.args.host.now) c.args.fuel c.args.method c.start.result c.requires.opened c.args.times (g.K.Sink.written c.args.out.now) (g.K.Sink.written c.start.new.out)
    (g.K.Sink.written c.call_each.new.out) c.call_each.result c.in-Done.is c.start.ensures.keeps.linked c.start.ensures.ends (λ e. (c.start.ensures.leaves e).world) c.call_each.ensures.runs

pub returns-in-Done-clause-cause : goal.returns-in-Done-clause-cause
returns-in-Done-clause-cause g c =
    causes (g.K.Sink.faults c.args.out.now) (g.K.Sink.faults c.start.new.out) (g.K.Sink.faults c.call_each.new.out) c.start.result c.call_each.result
    (c.start.ensures.cause (not_run c.args.session.now (g.H.Host.formulas c.args.host.now) c.requires.opened)) c.call_each.ensures.cause

pub returns-in-Done-clause-linked : goal.returns-in-Done-clause-linked
returns-in-Done-clause-linked g c = c.call_each.ensures.linked ∙ c.start.ensures.keeps.linked

pub returns-in_default-clause-runs : goal.returns-in_default-clause-runs
returns-in_default-clause-runs g c =
    run_only c.args.session.now c.start.new.self (g.H.Host.formulas c.args.host.now) c.args.fuel c.args.method c.start.result c.requires.opened c.args.times (g.K.Sink.written c.args.out.now) (g.K.Sink.written c.start.new.out) c.in_default.not-Done
    c.start.ensures.ends

pub returns-in_default-clause-cause : goal.returns-in_default-clause-cause
returns-in_default-clause-cause g c = c.start.ensures.cause (not_run c.args.session.now (g.H.Host.formulas c.args.host.now) c.requires.opened)
