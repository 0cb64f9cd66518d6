use Rattle.std.proofs.Common.{rules}
use Rattle.std.proofs.lemmas.Result.{err_from_is_err_and}
use Rattle.abc_frames.specs.Frame.{newest}
use Rattle.abc_run_state.specs.Outer.{setting_in, world}
use Rattle.abc_run_state.specs.Settling.{given_by_how, settles_how, taken_by}
use Rattle.abc_run_state.specs.Stops.{why}
use Rattle.abc_run_members.proofs.Settled.{came_goes, came_stops}
use Rattle.abc_meaning.specs.Calling.{got}
use Rattle.abc_run_members.specs.Members.{value_read}
use Rattle.abc_run_members.proofs.Parts.{part_open, ready_stays}
use Rattle.abc_run_members.proofs.found.read_value.Goals as goal

pub value_of-requires : goal.value_of-requires
value_of-requires g c =
    (search rules, (search rules, (search rules, (part_open (value_read (setting_in c.args.linked.now g.out) c.args.found c.args.v) (λ x. got x) (settles_how c.args.how (newest c.args.s.now.frames)) (world c.args.s.now g.out) c.requires.1.1.1.1))))

pub settle-requires : goal.settle-requires
settle-requires g c = ready_stays (taken_by c.args.how) (given_by_how c.args.how) c.args.s.now.frames c.value_of.new.s.frames c.in_ok-value.ensures.stays.frames c.requires.1.0

pub returns : goal.returns
returns g c = record {
  runs =
      let p = setting_in c.args.linked.now g.out in
      came_goes p c.args.s.now.frames c.value_of.new.s.frames c.settle.new.frames c.args.how (value_read p c.args.found c.args.v) (λ x. x) (world c.args.s.now g.out) (world c.value_of.new.s g.out) c.in_ok-value.value c.in_ok-value.ensures.part c.in_ok-value.ensures.stays.frames c.settle.ensures;
  limit = search rules;
}

pub returns-in_err-value : goal.returns-in_err-value
returns-in_err-value g c = record {
  runs =
      let p = setting_in c.args.linked.now g.out in
      let e = err_from_is_err_and c.from_residual.result c.from_residual.ensures.1 in
      rw (e.1, e.2) (came_stops p c.args.s.now.frames c.value_of.new.s.frames c.args.how (value_read p c.args.found c.args.v) (λ x. x) (world c.args.s.now g.out) (world c.value_of.new.s g.out) (why c.in_err-value.field-0.0) c.in_err-value.ensures.part c.in_err-value.ensures.stays.frames);
  limit = search rules;
}
