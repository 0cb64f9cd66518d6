-- The name has a value already, or none.
use Rattle.std.proofs.Common.{sym, ◌∙◌}
use Rattle.abc_text_tokens.proofs.Keeping.{given_again, given_new}
use Rattle.abc_text_tokens.proofs.noting.note.Goals as goal

pub returns-in_ok-give-in-Some : goal.returns-in_ok-give-in-Some
returns-in_ok-give-in-Some g c =
    given_again c.args.values.now c.give.new.values c.give-in-Some.new.values c.args.name.now c.args.value c.in-Some.first (sym c.in-Some.is ∙ c.in_ok-first.ensures.had) c.in_ok-first.ensures.gives c.in_ok-give-in-Some.ensures.gives

pub returns-in-None : goal.returns-in-None
returns-in-None g c = given_new c.args.values.now c.give.new.values c.args.name.now c.args.value (sym c.in-None.is ∙ c.in_ok-first.ensures.had) c.in_ok-first.ensures.gives
