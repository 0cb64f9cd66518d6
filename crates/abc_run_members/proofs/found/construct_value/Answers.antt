use Rattle.std.proofs.Common.{rules, ◌+◌, ◌∙◌}
use Rattle.std.proofs.lemmas.Result.{err_from_is_err_and}
use Rattle.abc_run_state.proofs.Keeping.{set_stays}
use Rattle.abc_frames.specs.Frame.{newest}
use Rattle.abc_run_state.specs.Outer.{setting_in, world}
use Rattle.abc_run_state.specs.Stops.{why}
use Rattle.abc_meaning.specs.Calling.{got}
use Rattle.abc_run_members.specs.Members.{constructs_of, value_read}
use Rattle.abc_run_members.proofs.Parts.{known_stays, limit_stays, next_open, next_turns, part_halts, part_open, ready_stays}
use Rattle.abc_run_members.proofs.found.construct_value.Goals as goal

pub value_of-requires : goal.value_of-requires
value_of-requires g c = (
  search rules,
  (
    search rules,
    (
      search rules,
      (let p = setting_in c.args.linked.now g.out in
          part_open (value_read p c.args.found c.args.v) (λ x. got x) (constructs_of p c.args.under c.args.count (newest c.args.s.now.frames)) (world c.args.s.now g.out) c.requires.0.free),
    ),
  ),
)

pub make-requires : goal.make-requires
make-requires g c = (
  record {
    set = (set_stays c.args.linked.now c.args.s.now c.value_of.new.s c.in_ok-of.ensures.stays c.requires.0.set);
    known = (known_stays c.args.linked.now c.args.s.now c.value_of.new.s c.in_ok-of.ensures.stays c.requires.0.known);
    free = (let p = setting_in c.args.linked.now g.out in
        next_open c.args.s.now.frames c.value_of.new.s.frames (value_read p c.args.found c.args.v) (λ f x. got x) (constructs_of p c.args.under c.args.count) (world c.args.s.now g.out) (world c.value_of.new.s g.out) c.in_ok-of.of c.in_ok-of.ensures.part c.in_ok-of.ensures.stays.frames c.requires.0.free);
  },
  ((ready_stays (c.args.count + c.args.under) 1 c.args.s.now.frames c.value_of.new.s.frames c.in_ok-of.ensures.stays.frames c.requires.1.0), (search rules, (c.in_ok-of.ensures.there))),
)

pub returns : goal.returns
returns g c = record {
  runs =
      let p = setting_in c.args.linked.now g.out in
      next_turns p c.args.s.now.frames c.value_of.new.s.frames (value_read p c.args.found c.args.v) (λ f x. got x) (constructs_of p c.args.under c.args.count) (world c.args.s.now g.out) (world c.value_of.new.s g.out) c.in_ok-of.of _ c.in_ok-of.ensures.part c.in_ok-of.ensures.stays.frames c.make.ensures.runs;
  limit = c.make.ensures.limit ∙ limit_stays c.args.linked.now c.args.s.now c.value_of.new.s c.in_ok-of.ensures.stays;
}

pub returns-in_err-of : goal.returns-in_err-of
returns-in_err-of g c = record {
  runs =
      let p = setting_in c.args.linked.now g.out in
      let q = c.args.s.now.frames in
      let e = err_from_is_err_and c.from_residual.result c.from_residual.ensures.1 in
      rw (e.1, e.2) (part_halts p q c.value_of.new.s.frames (value_read p c.args.found c.args.v) (λ x. got x) (constructs_of p c.args.under c.args.count (newest q)) (world c.args.s.now g.out) (world c.value_of.new.s g.out) (why c.in_err-of.field-0.0) c.in_err-of.ensures.part c.in_err-of.ensures.stays.frames);
  limit = search rules;
}
