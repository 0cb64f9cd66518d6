use Rattle.std.proofs.Common.{rules, ◌∙◌, ap}
use Rattle.abc_objects.specs.declared.found.Found.{Found}
use Rattle.abc_frames.specs.Frame.{arguments, newest}
use Rattle.abc_run_state.specs.Outer.{setting_in, world}
use Rattle.abc_run_state.specs.Settling.{settles_how}
use Rattle.abc_meaning.specs.Calling.{calls}
use Rattle.abc_meaning.specs.Members.{call_found, value_found}
use Rattle.abc_meaning.specs.World.{◌>>=◌}
use Rattle.abc_run_members.specs.Members.{enters_on}
use Rattle.abc_run_members.proofs.Cases.{call_open, getter_called, method_at, value_called}
use Rattle.abc_run_members.proofs.Settled.{came_halts, came_open, came_same}
use Rattle.abc_run_members.proofs.found.call_found.Goals as goal

pub call_method-requires : goal.call_method-requires
call_method-requires g c = (
  record {
    set = search rules;
    known = search rules;
    free =
        let p = setting_in c.args.linked.now g.out in
        let f = newest c.args.s.now.frames in
        let w = world c.args.s.now g.out in
        let args = arguments c.args.count f in
        came_open (settles_how c.args.how f) (call_found p c.args.found c.args.v c.args.receiver args) (enters_on p c.in-Method.method c.args.v args) w
        (method_at p c.args.found _ c.in-Method.method c.args.v c.args.receiver args w c.in-Method.is) c.requires.0.free;
  },
  search rules,
)

pub returns-in-Method : goal.returns-in-Method
returns-in-Method g c = record {
  leaves =
      let p = setting_in c.args.linked.now g.out in
      let q = c.args.s.now.frames in
      let w = world c.args.s.now g.out in
      let args = arguments c.args.count (newest q) in
      came_same p q (settles_how c.args.how (newest q)) (call_found p c.args.found c.args.v c.args.receiver args) (enters_on p c.in-Method.method c.args.v args) w _
      (method_at p c.args.found _ c.in-Method.method c.args.v c.args.receiver args w c.in-Method.is) c.call_method.ensures.leaves;
  finishes = search rules;
  limit = search rules;
}

pub returns-in-Getter : goal.returns-in-Getter
returns-in-Getter g c = record {
  leaves =
      let p = setting_in c.args.linked.now g.out in
      let q = c.args.s.now.frames in
      let w = world c.args.s.now g.out in
      let args = arguments c.args.count (newest q) in
      let m = c.in-Getter.field-0 in
      came_halts p q (settles_how c.args.how (newest q)) (call_found p c.args.found c.args.v c.args.receiver args) w w _
      (ap (λ (x : Found). call_found p x c.args.v c.args.receiver args w) c.in-Getter.is ∙ getter_called p m c.args.v c.args.receiver args w (call_open p c.args.found m c.args.v c.args.receiver args c.args.how (newest q) w c.in-Getter.is c.requires.0.free));
  finishes = search rules;
  limit = search rules;
}

pub call_value_found-requires : goal.call_value_found-requires
call_value_found-requires g c = (
  record {
    set = search rules;
    known = search rules;
    free =
        let p = setting_in c.args.linked.now g.out in
        let f = newest c.args.s.now.frames in
        let w = world c.args.s.now g.out in
        let args = arguments c.args.count f in
        came_open (settles_how c.args.how f) (call_found p c.args.found c.args.v c.args.receiver args) (value_found p c.args.found c.args.v >>= λ x. calls p x c.args.receiver args) w
        (value_called p c.args.found c.args.v c.args.receiver args w (λ owner m e. c.in_default.not-Method owner m e) (λ m e. c.in_default.not-Getter m e)) c.requires.0.free;
  },
  search rules,
)

pub returns-in_default : goal.returns-in_default
returns-in_default g c = record {
  leaves =
      let p = setting_in c.args.linked.now g.out in
      let q = c.args.s.now.frames in
      let w = world c.args.s.now g.out in
      let args = arguments c.args.count (newest q) in
      came_same p q (settles_how c.args.how (newest q)) (call_found p c.args.found c.args.v c.args.receiver args) (value_found p c.args.found c.args.v >>= λ x. calls p x c.args.receiver args) w _
      (value_called p c.args.found c.args.v c.args.receiver args w (λ owner m e. c.in_default.not-Method owner m e) (λ m e. c.in_default.not-Getter m e)) c.call_value_found.ensures.leaves;
  finishes = search rules;
  limit = search rules;
}
