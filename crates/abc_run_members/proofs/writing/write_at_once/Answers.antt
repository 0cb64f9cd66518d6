use Rattle.std.proofs.Common.{rules}
use Rattle.std.proofs.lemmas.Result.{err_from_is_err_and}
use Rattle.abc_heap_values.specs.declared.values.Value.TheVariants.{Undefined}
use Rattle.abc_frames.specs.Frame.{newest}
use Rattle.abc_run_state.specs.Outer.{setting_in, world}
use Rattle.abc_run_state.specs.Settling.{given_by_how, settles_how, taken_by}
use Rattle.abc_run_state.specs.Stops.{why}
use Rattle.abc_run_members.proofs.Settled.{came_goes, came_stops}
use Rattle.abc_meaning.specs.Calling.{got}
use Rattle.abc_run_members.specs.Members.{value_written}
use Rattle.abc_run_members.proofs.Parts.{part_open, ready_stays}
use Rattle.abc_run_members.proofs.writing.write_at_once.Goals as goal

pub write_value-requires : goal.write_value-requires
write_value-requires g c =
    (search rules, (search rules, (search rules, (search rules, (part_open (value_written (setting_in c.args.linked.now g.out) c.args.o c.args.name.now c.args.v c.args.initial c.args.found) (λ u. got Undefined) (settles_how c.args.how (newest c.args.s.now.frames)) (world c.args.s.now g.out) c.requires.1.1.1.1.1)))))

pub settle-requires : goal.settle-requires
settle-requires g c = ready_stays (taken_by c.args.how) (given_by_how c.args.how) c.args.s.now.frames c.write_value.new.s.frames c.in_ok-write_value.ensures.stays.frames c.requires.1.0

pub returns : goal.returns
returns g c = record {
  runs =
      let p = setting_in c.args.linked.now g.out in
      came_goes p c.args.s.now.frames c.write_value.new.s.frames c.settle.new.frames c.args.how (value_written p c.args.o c.args.name.now c.args.v c.args.initial c.args.found) (λ u. Undefined) (world c.args.s.now g.out) (world c.write_value.new.s g.out) tt c.in_ok-write_value.ensures.part c.in_ok-write_value.ensures.stays.frames c.settle.ensures;
  limit = search rules;
}

pub returns-in_err-write_value : goal.returns-in_err-write_value
returns-in_err-write_value g c = record {
  runs =
      let p = setting_in c.args.linked.now g.out in
      let e = err_from_is_err_and c.from_residual.result c.from_residual.ensures.1 in
      rw (e.1, e.2) (came_stops p c.args.s.now.frames c.write_value.new.s.frames c.args.how (value_written p c.args.o c.args.name.now c.args.v c.args.initial c.args.found) (λ u. Undefined) (world c.args.s.now g.out) (world c.write_value.new.s g.out) (why c.in_err-write_value.field-0.0) c.in_err-write_value.ensures.part c.in_err-write_value.ensures.stays.frames);
  limit = search rules;
}
