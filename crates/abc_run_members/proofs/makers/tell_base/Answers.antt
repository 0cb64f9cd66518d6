use Rattle.std.proofs.Common.{◌∙◌, ◌+◌, ap, arith}
use Rattle.std.proofs.lemmas.Result.{err_from_is_err_and}
use Rattle.abc_heap_values.specs.declared.values.Value.TheVariants.{Undefined}
use Rattle.abc_frames.specs.Frame.{arguments, newest}
use Rattle.abc_run_calls.specs.Calls.{message_texts}
use Rattle.abc_run_state.proofs.Keeping.{set_stays}
use Rattle.abc_run_members.proofs.Parts.{limit_stays, ready_stays}
use Rattle.abc_run_members.proofs.Settled.{value_halts, value_runs}
use Rattle.abc_run_state.specs.Outer.{setting_in, world}
use Rattle.abc_run_state.specs.Stops.{why}
use Rattle.abc_run_state.specs.declared.state.How.TheVariants.{Drop}
use Rattle.abc_meaning.specs.Calling.{got}
use Rattle.abc_meaning.specs.Making.{host_arguments, set_message}
use Rattle.abc_meaning.specs.World.{◌>>=◌}
use Rattle.abc_run_members.specs.Supers.{told_base}
use Rattle.abc_run_members.proofs.Made.{told_is, told_stopped, told_went, untold}
use Rattle.abc_run_members.proofs.makers.tell_base.Goals as goal

pub overflow_add-count : goal.overflow_add-count
overflow_add-count g c = omega (arith, c.requires.1.1.0)

pub message_of-requires : goal.message_of-requires
message_of-requires g c = (c.requires.0, omega (arith, c.requires.1.0.operands))

pub set_message-requires-clause-set : goal.set_message-requires-clause-set
set_message-requires-clause-set g c = set_stays c.args.linked.now c.args.s.now c.message_of.new.s c.in_ok-message.ensures.stays c.requires.0

pub set_message-requires-clause-inside : goal.set_message-requires-clause-inside
set_message-requires-clause-inside g c = (c.in_ok-message.ensures.stays.grows.objects c.args.o.0 c.requires.1.1.1).0

pub settle-requires : goal.settle-requires
settle-requires g c = ready_stays (c.args.count + 1) 0 c.args.s.now.frames c.set_message.new.s.frames (c.in_ok-set_message.ensures.stays.frames ∙ c.in_ok-message.ensures.stays.frames) c.requires.1.0

pub returns : goal.returns
returns g c = record {
  runs =
      let p = setting_in c.args.linked.now g.out in
      let q = c.args.s.now.frames in
      let w = world c.args.s.now g.out in
      let a = world c.message_of.new.s g.out in
      let b = world c.set_message.new.s g.out in
      value_runs p (Drop (c.args.count + 1)) q c.set_message.new.s.frames c.settle.new.frames (told_base p c.args.o c.args.class c.args.count (newest q)) (host_arguments p c.args.class (arguments c.args.count (newest q)) >>= set_message p c.args.o) (λ u. Undefined) w b tt
      (told_is p c.args.o c.args.class c.args.count (newest q) w) (told_went p c.args.o c.args.class c.args.count (newest q) w a b (message_texts c.in_ok-message.message) c.in_ok-message.ensures.part (c.in_ok-set_message.ensures.part g.out))
      (c.in_ok-set_message.ensures.stays.frames ∙ c.in_ok-message.ensures.stays.frames) c.settle.ensures;
  limit = ap (λ x. x.limit) (c.in_ok-set_message.ensures.stays.given ∙ c.in_ok-message.ensures.stays.given);
}

pub returns-in_err-message : goal.returns-in_err-message
returns-in_err-message g c = record {
  runs =
      let p = setting_in c.args.linked.now g.out in
      let q = c.args.s.now.frames in
      let w = world c.args.s.now g.out in
      let a = world c.message_of.new.s g.out in
      let s = why c.in_err-message.field-0.0 in
      let e = err_from_is_err_and c.from_residual.result c.from_residual.ensures.1 in
      rw (e.1, e.2) (value_halts p (Drop (c.args.count + 1)) q c.message_of.new.s.frames (told_base p c.args.o c.args.class c.args.count (newest q)) (host_arguments p c.args.class (arguments c.args.count (newest q)) >>= set_message p c.args.o) (λ u. got Undefined) w a s
      (told_is p c.args.o c.args.class c.args.count (newest q) w) (untold p c.args.o c.args.class c.args.count (newest q) w a s c.in_err-message.ensures.part) c.in_err-message.ensures.stays.frames);
  limit = limit_stays c.args.linked.now c.args.s.now c.message_of.new.s c.in_err-message.ensures.stays;
}

pub returns-in_err-set_message : goal.returns-in_err-set_message
returns-in_err-set_message g c = record {
  runs =
      let p = setting_in c.args.linked.now g.out in
      let q = c.args.s.now.frames in
      let w = world c.args.s.now g.out in
      let a = world c.message_of.new.s g.out in
      let b = world c.set_message.new.s g.out in
      let s = why c.in_err-set_message.field-0.0 in
      let e = err_from_is_err_and c.from_residual-in_err-set_message.result c.from_residual-in_err-set_message.ensures.1 in
      rw (e.1, e.2) (value_halts p (Drop (c.args.count + 1)) q c.set_message.new.s.frames (told_base p c.args.o c.args.class c.args.count (newest q)) (host_arguments p c.args.class (arguments c.args.count (newest q)) >>= set_message p c.args.o) (λ u. got Undefined) w b s
      (told_is p c.args.o c.args.class c.args.count (newest q) w) (told_stopped p c.args.o c.args.class c.args.count (newest q) w a b (message_texts c.in_ok-message.message) s c.in_ok-message.ensures.part (c.in_err-set_message.ensures.part g.out))
      (c.in_err-set_message.ensures.stays.frames ∙ c.in_ok-message.ensures.stays.frames));
  limit = ap (λ x. x.limit) (c.in_err-set_message.ensures.stays.given ∙ c.in_ok-message.ensures.stays.given);
}
