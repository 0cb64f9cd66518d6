use Rattle.std.proofs.Common.{rules}
use Rattle.std.specs.Prelude.{◌≤◌, length}
use Rattle.std.proofs.Common.{arith}
use Rattle.abc_heap_values.specs.declared.values.Value.TheVariants.{Obj, Undefined}
use Rattle.abc_objects.specs.declared.found.Found.TheVariants.{Missing}
use Rattle.abc_frames.specs.Frame.{arguments, newest}
use Rattle.abc_run_state.specs.Outer.{setting_in, world}
use Rattle.abc_run_state.specs.Settling.{settles_how}
use Rattle.abc_meaning.specs.Calling.{got}
use Rattle.abc_meaning.specs.Members.{write_found}
use Rattle.abc_meaning.specs.World.{◌>>=◌}
use Rattle.abc_run_members.specs.Members.{enters_on, value_written}
use Rattle.abc_run_members.proofs.Cases.{missing_written, setter_written, value_is_written}
use Rattle.abc_run_members.proofs.Settled.{came_open, came_same}
use Rattle.abc_run_members.proofs.writing.write_found.Goals as goal

pub enter_on-requires : goal.enter_on-requires
enter_on-requires g c = (
  record {
    set = search rules;
    known = search rules;
    free =
        let p = setting_in c.args.linked.now g.out in
        let f = newest c.args.s.now.frames in
        let w = world c.args.s.now g.out in
        let some : 1 ≤ length f.stack = omega (arith, c.requires.1.1.0, c.requires.1.0.operands) in
        came_open (settles_how c.args.how f) (write_found p c.args.o c.args.name.now c.args.v c.args.initial c.args.found) (enters_on p c.in-Setter.method (Obj c.args.o) (arguments 1 f)) w
        (setter_written p c.args.o c.args.name.now c.args.v c.args.initial c.args.found c.in-Setter.method f w some c.requires.1.1.1.1.1.1 c.in-Setter.is) c.requires.0.free;
  },
  search rules,
)

pub returns-in-Setter : goal.returns-in-Setter
returns-in-Setter g c = record {
  runs =
      let p = setting_in c.args.linked.now g.out in
      let q = c.args.s.now.frames in
      let f = newest q in
      let w = world c.args.s.now g.out in
      let some : 1 ≤ length f.stack = omega (arith, c.requires.1.1.0, c.requires.1.0.operands) in
      came_same p q (settles_how c.args.how f) (write_found p c.args.o c.args.name.now c.args.v c.args.initial c.args.found) (enters_on p c.in-Setter.method (Obj c.args.o) (arguments 1 f)) w _
      (setter_written p c.args.o c.args.name.now c.args.v c.args.initial c.args.found c.in-Setter.method f w some c.requires.1.1.1.1.1.1 c.in-Setter.is) c.enter_on.ensures.runs;
  limit = search rules;
}

pub write_at_once-requires : goal.write_at_once-requires
write_at_once-requires g c = (
  search rules,
  (
    search rules,
    (
      search rules,
      (
        search rules,
        (
          search rules,
          (let p = setting_in c.args.linked.now g.out in
              let w = world c.args.s.now g.out in
              came_open (settles_how c.args.how (newest c.args.s.now.frames)) (write_found p c.args.o c.args.name.now c.args.v c.args.initial c.args.found) (value_written p c.args.o c.args.name.now c.args.v c.args.initial Missing >>= λ u. got Undefined) w
              (missing_written p c.args.o c.args.name.now c.args.v c.args.initial c.args.found w c.in-Missing.is) c.requires.0.free),
        ),
      ),
    ),
  ),
)

pub returns-in-Missing : goal.returns-in-Missing
returns-in-Missing g c = record {
  runs =
      let p = setting_in c.args.linked.now g.out in
      let q = c.args.s.now.frames in
      let w = world c.args.s.now g.out in
      came_same p q (settles_how c.args.how (newest q)) (write_found p c.args.o c.args.name.now c.args.v c.args.initial c.args.found) (value_written p c.args.o c.args.name.now c.args.v c.args.initial Missing >>= λ u. got Undefined) w _
      (missing_written p c.args.o c.args.name.now c.args.v c.args.initial c.args.found w c.in-Missing.is) c.write_at_once.ensures.runs;
  limit = search rules;
}

pub write_declared-requires : goal.write_declared-requires
write_declared-requires g c = (
  search rules,
  (
    search rules,
    (
      search rules,
      (
        search rules,
        (
          search rules,
          (let p = setting_in c.args.linked.now g.out in
              let w = world c.args.s.now g.out in
              came_open (settles_how c.args.how (newest c.args.s.now.frames)) (write_found p c.args.o c.args.name.now c.args.v c.args.initial c.args.found) (value_written p c.args.o c.args.name.now c.args.v c.args.initial c.args.found >>= λ u. got Undefined) w
              (value_is_written p c.args.o c.args.name.now c.args.v c.args.initial c.args.found w (λ m e. c.in_default.not-Setter m e)) c.requires.0.free),
        ),
      ),
    ),
  ),
)

pub returns-in_default : goal.returns-in_default
returns-in_default g c = record {
  runs =
      let p = setting_in c.args.linked.now g.out in
      let q = c.args.s.now.frames in
      let w = world c.args.s.now g.out in
      came_same p q (settles_how c.args.how (newest q)) (write_found p c.args.o c.args.name.now c.args.v c.args.initial c.args.found) (value_written p c.args.o c.args.name.now c.args.v c.args.initial c.args.found >>= λ u. got Undefined) w _
      (value_is_written p c.args.o c.args.name.now c.args.v c.args.initial c.args.found w (λ m e. c.in_default.not-Setter m e)) c.write_declared.ensures.runs;
  limit = search rules;
}
