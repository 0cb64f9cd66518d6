-- No value, and a kind behind a value.
use Rattle.std.proofs.Common.{◌≡◌, ℕ, Some, Ok, Err, sym, subst}
use Rattle.abc_text_lines.specs.Lineforms.{slot_rest, slot_value_of_parts}
use Rattle.abc_text_operands.specs.Joined.{line_result, map_operand}
use Rattle.abc_text_tokens.specs.Walks.{tokens_of}
use Rattle.abc_text_operands.proofs.Sloted.{known_bad, known_good}
use Rattle.abc_text_operands.proofs.slots.known.Goals as goal

pub returns-then-value-eq0 : goal.returns-then-value-eq0
returns-then-value-eq0 c labels =
    subst (λ (n : ℕ). c.no_value.result ≡ map_operand (λ o. slot_value_of_parts (n, o)) (line_result (slot_rest c.args.sizes.now (Some n)) labels (tokens_of c.args.kinds.now))) (sym c.if-value-eq0.true) (c.no_value.ensures labels c.args.sizes.now)

pub returns-in_default : goal.returns-in_default
returns-in_default c labels = known_bad c.args.sizes.now labels c.args.value c.args.kinds.now c.if-value-eq0.false c.in_default.ensures

pub returns-in-Ok : goal.returns-in-Ok
returns-in-Ok c labels = known_good c.args.sizes.now labels c.args.value c.args.kinds.now c.in-Some.kind (Ok c.in-Ok.kind) c.if-value-eq0.false c.in-Some.ensures c.in-Ok.ensures

pub returns-in-Err : goal.returns-in-Err
returns-in-Err c labels = known_good c.args.sizes.now labels c.args.value c.args.kinds.now c.in-Some.kind (Err c.in-Err.reason) c.if-value-eq0.false c.in-Some.ensures c.in-Err.ensures
