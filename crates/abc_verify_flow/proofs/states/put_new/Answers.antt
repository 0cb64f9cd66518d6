use Rattle.std.proofs.Common.{ℕ, ◌+◌, ap, ◌∙◌}
use Rattle.abc_verify_flow.proofs.Numbers.{new_view}
use Rattle.abc_verify_flow.proofs.states.put_new.Goals as goal

pub returns-clause-known : goal.returns-clause-known
returns-clause-known c = new_view c.args.numbers.now c.put.new.self c.args.known.now c.push.new.self c.args.place c.in_ok-number.number c.args.state.now c.requires.numbers c.in_ok-push.ensures.ok (c.in_ok-number.ensures ∙ ap (λ (n : ℕ). n + 1) c.len.ensures) c.in_ok-put.ensures.ok
