use Rattle.std.proofs.Common.{rules, ◌∙◌, ap, arith, subst, sym}
use Rattle.abc_frames.specs.Ready.{HasFrameRoom}
use Rattle.abc_frames.specs.Frame.{newest}
use Rattle.abc_run_state.specs.Outer.{setting_in, world}
use Rattle.abc_run_state.specs.Settling.{given_by_how}
use Rattle.abc_run_state.specs.Stops.{IsOpen}
use Rattle.abc_run_state.specs.Turns.{turn_of}
use Rattle.abc_run_members.proofs.AtOnce.{whole_called}
use Rattle.abc_run_members.proofs.fast_paths.call_on_object.Goals as goal

pub call_object_method-requires : goal.call_object_method-requires
call_object_method-requires g c = (
  record {
    set = c.requires.0.set;
    known = c.requires.0.known;
    free =
        let p = setting_in c.args.linked.now g.out in
        let q = c.args.s.now.frames in
        let w = world c.args.s.now g.out in
        subst IsOpen (whole_called p c.args.name c.args.wanted.now c.args.o c.in-Some.ensures.0 c.in-Some.method c.args.count c.args.lexical c.args.how (newest q) w c.requires.1.1.1.1.0 c.requires.1.1.1.1.1.1.0 c.in-Some.ensures.1) c.requires.0.free;
  },
  ((subst (λ n. HasFrameRoom n (given_by_how c.args.how) c.args.s.now.frames) (sym c.requires.1.1.1.0) c.requires.1.0), ((omega (arith, c.requires.1.1.1.0)), c.requires.1.1.1.1.1.1.1.1)),
)

pub returns-in-Some : goal.returns-in-Some
returns-in-Some g c = record {
  leaves =
      let p = setting_in c.args.linked.now g.out in
      let q = c.args.s.now.frames in
      let w = world c.args.s.now g.out in
      ap (turn_of p q) (whole_called p c.args.name c.args.wanted.now c.args.o c.in-Some.ensures.0 c.in-Some.method c.args.count c.args.lexical c.args.how (newest q) w c.requires.1.1.1.1.0 c.requires.1.1.1.1.1.1.0 c.in-Some.ensures.1) ∙ c.call_object_method.ensures.leaves;
  finishes = search rules;
  goes = search rules;
  limit = search rules;
}

pub call_searching-requires : goal.call_searching-requires
call_searching-requires g c = (c.requires.0, (c.requires.1.0, (c.requires.1.1.0, (c.requires.1.1.1.0, c.requires.1.1.1.1.1.1.1.1))))
