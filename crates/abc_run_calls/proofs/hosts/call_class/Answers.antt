use Rattle.std.proofs.Common.{rules, ◌≤◌, length, arith}
use Rattle.abc_base.specs.declared.names.HostClass.TheVariants.{ArgumentError}
use Rattle.abc_frames.specs.Frame.{arguments, newest}
use Rattle.abc_run_state.specs.Outer.{setting_in, world}
use Rattle.abc_meaning.specs.Calling.{got, only_argument}
use Rattle.abc_meaning.specs.Ops.{coerces}
use Rattle.abc_meaning.specs.World.{Errs, ◌>>=◌}
use Rattle.abc_run_calls.proofs.Alone.{only_refused}
use Rattle.abc_run_calls.proofs.Settled.{none_came}
use Rattle.abc_run_calls.proofs.hosts.call_class.Goals as goal

pub returns-then-count-ne1 : goal.returns-then-count-ne1
returns-then-count-ne1 g c = record {
  runs =
      let p = setting_in c.args.linked.now g.out in
      let q = c.args.s.now.frames in
      let f = newest q in
      let w = world c.args.s.now g.out in
      let there = c.requires.1.0.operands in
      let within = c.requires.1.1 in
      let le : c.args.count ≤ length f.stack = omega (arith, there, within) in
      none_came p q c.args.how (only_argument (arguments c.args.count f) (λ v. coerces p c.args.ty v >>= got)) w w (Errs ArgumentError) (only_refused f c.args.count (λ v. coerces p c.args.ty v >>= got) w c.if-count-ne1.true le);
  limit = search rules;
}

pub coerce-requires : goal.coerce-requires
coerce-requires g c = (c.requires.0.over, c.operand-v.ensures.there c.args.linked.now c.args.s.now.arena c.requires.0.frame.stack)
