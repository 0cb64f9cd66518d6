use Rattle.std.proofs.Common.{◌≤◌, ◌<◌, ◌∙◌, ap, subst, sym, arith}
use Rattle.std.proofs.lemmas.Result.{err_from_is_err_and}
use Rattle.abc_heap_values.specs.declared.values.Value.{Value}
use Rattle.abc_frames.specs.Frame.{newest}
use Rattle.abc_run_state.specs.Outer.{setting_in, world}
use Rattle.abc_run_state.specs.Stops.{why}
use Rattle.abc_meaning.specs.Ops.{spells}
use Rattle.abc_run_calls.proofs.Told.{message_made, message_stops}
use Rattle.abc_run_calls.proofs.messages.message_of.Goals as goal

pub returns-in_err-text-clause-part : goal.returns-in_err-text-clause-part
returns-in_err-text-clause-part g c =
    let p = setting_in c.args.linked.now g.out in
    let w = world c.args.s.now g.out in
    let e = err_from_is_err_and c.from_residual.result c.from_residual.ensures.1 in
    let none = c.if-count-eq0.false in
    let some : 0 < c.args.count = omega (arith, none) in
    rw (e.1, e.2) (message_stops p c.args.class (newest c.args.s.now.frames) c.args.count w (world c.spell.new.s g.out) (why c.in_err-text.field-0.0) some c.requires.1 (subst (λ n. c.args.count ≤ n) c.most_of.ensures c.if-count-most_of.false)
    (ap (λ (v : Value). spells p v w) (sym c.operand-first.ensures.is) ∙ c.in_err-text.ensures.part))

pub returns-clause-part : goal.returns-clause-part
returns-clause-part g c =
    let p = setting_in c.args.linked.now g.out in
    let w = world c.args.s.now g.out in
    let none = c.if-count-eq0.false in
    let some : 0 < c.args.count = omega (arith, none) in
    message_made p c.args.class (newest c.args.s.now.frames) c.args.count w (world c.spell.new.s g.out) c.in_ok-text.text some c.requires.1 (subst (λ n. c.args.count ≤ n) c.most_of.ensures c.if-count-most_of.false)
    (ap (λ (v : Value). spells p v w) (sym c.operand-first.ensures.is) ∙ c.in_ok-text.ensures.part)
