use Rattle.std.proofs.Common.{◌∙◌}
use Rattle.abc_base.specs.Hosts.{plain_arguments}
use Rattle.abc_run_state.specs.Outer.{setting_in, world}
use Rattle.abc_run_state.specs.Stops.{why}
use Rattle.abc_run_finish.proofs.Begun.{call_open, can_end, goes_is, goes_sized, stops_is}
use Rattle.abc_run_finish.proofs.Listed.{few_given, first_listed, given_exist}
use Rattle.abc_run_finish.proofs.calling.begin_call.Goals as goal

pub enter_alone-requires : goal.enter_alone-requires
enter_alone-requires g c =
    let l = c.args.linked.now in
    let s = c.args.s.now in
    let m = c.args.method in
    let args = c.args.args.now in
    let given = c.first_values-given.result.now in
    let can = c.requires in
    let ns = plain_arguments args in
    let is = first_listed args c.four_values-values.result given c.four_values-values.ensures c.first_values-given.ensures in
    (can.over, (given_exist (setting_in l g.out) (world s g.out) args given is, (few_given args given is, (can.none, (can.known, (can.scripts, (can.few, call_open l g.out m s ns given can is)))))))

pub returns-in-Ok-clause-step : goal.returns-in-Ok-clause-step
returns-in-Ok-clause-step g c =
    let args = c.args.args.now in
    let given = c.first_values-given.result.now in
    let is = first_listed args c.four_values-values.result given c.four_values-values.ensures c.first_values-given.ensures in
    goes_is c.args.linked.now g.out c.args.method c.args.s.now (plain_arguments args) given c.requires is c.enter_alone.new.s c.in-Ok.ensures.begins

pub returns-in-Ok-clause-sized : goal.returns-in-Ok-clause-sized
returns-in-Ok-clause-sized g c =
    let args = c.args.args.now in
    let given = c.first_values-given.result.now in
    let is = first_listed args c.four_values-values.result given c.four_values-values.ensures c.first_values-given.ensures in
    goes_sized c.args.linked.now g.out c.args.method c.args.s.now (plain_arguments args) given c.requires is c.enter_alone.new.s c.in-Ok.ensures.begins

pub call_stopped-requires : goal.call_stopped-requires
call_stopped-requires g c =
    let l = c.args.linked.now in
    let s = c.args.s.now in
    let m = c.args.method in
    let args = c.args.args.now in
    let given = c.first_values-given.result.now in
    let can = c.requires in
    let is = first_listed args c.four_values-values.result given c.four_values-values.ensures c.first_values-given.ensures in
    let end = can_end l g.out m s (plain_arguments args) given can is c.enter_alone.new.s c.in-Err.stop c.in-Err.ensures.begins in
    (end.over, (can.scripts, (end.none, (end.value, (end.sized, end.free)))))

pub returns-in-Err-clause-step : goal.returns-in-Err-clause-step
returns-in-Err-clause-step g c =
    let args = c.args.args.now in
    let given = c.first_values-given.result.now in
    let is = first_listed args c.four_values-values.result given c.four_values-values.ensures c.first_values-given.ensures in
    stops_is c.args.linked.now g.out c.args.method c.args.s.now (plain_arguments args) given c.requires is c.enter_alone.new.s (why c.in-Err.stop) c.in-Err.ensures.begins
    ∙ c.call_stopped.ensures.step
