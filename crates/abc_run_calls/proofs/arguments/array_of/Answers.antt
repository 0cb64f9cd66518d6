use Rattle.std.proofs.Common.{◌≡◌, ◌-◌, ◌∙◌, length, sym, arith}
use Rattle.abc_frames.specs.Frame.{newest}
use Rattle.abc_run_state.specs.Outer.{setting_in, world}
use Rattle.abc_run_calls.proofs.Operands.{rest_is}
use Rattle.abc_run_calls.proofs.arguments.array_of.Goals as goal

pub returns-then-has_flag-clause-part : goal.returns-then-has_flag-clause-part
returns-then-has_flag-clause-part c = λ out.
    let m = c.args.method.now in
    let more : c.saturating_sub-more.result ≡ c.args.count - length m.params = omega (arith, c.saturating_sub-more.ensures, c.len.ensures) in
    rest_is (setting_in c.args.linked.now out) m (newest c.args.s.now.frames) c.args.count c.saturating_sub-more.result (world c.args.s.now out) (sym c.has_flag.ensures ∙ c.if-has_flag.true) c.requires.there more
    ∙ c.array_with.ensures.part out
