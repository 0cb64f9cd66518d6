use Rattle.std.proofs.Common.{ℕ, Ok, Err, sym, ap, ◌∙◌}
use Rattle.std.specs.declared.result.Result.{Result}
use Rattle.abc_text_lines.specs.declared.reason.AsmReason.{AsmReason}
use Rattle.abc_file_types.specs.declared.traits.TraitBody.{TraitBody}
use Rattle.abc_text_operands.specs.Joined.{map_operand}
use Rattle.abc_text_tokens.specs.Walks.{tokens_of}
use Rattle.abc_text_operands.specs.Numbered.{numbered_trait, pair_result}
use Rattle.abc_text_operands.proofs.Traitlemmas.{numbered_is}
use Rattle.abc_text_operands.proofs.traits.numbered.Goals as goal

abbrev as_body : TraitBody → Result TraitBody AsmReason
as_body b = Ok b

pub returns-in-Ok : goal.returns-in-Ok
returns-in-Ok c labels =
    ap as_body c.made.ensures
    ∙ ap (map_operand (λ (y : ℕ × ℕ). numbered_trait c.args.kind y.0 y.1)) (c.in-Ok.ensures labels ∙ ap (λ (n : ℕ). pair_result n labels (tokens_of c.args.fields.now)) c.size_of.ensures)
    ∙ sym (numbered_is c.args.sizes.now c.args.kind labels (tokens_of c.args.fields.now) c.requires)

pub returns-in-Err : goal.returns-in-Err
returns-in-Err c labels =
    ap (map_operand (λ (y : ℕ × ℕ). numbered_trait c.args.kind y.0 y.1)) (c.in-Err.ensures labels ∙ ap (λ (n : ℕ). pair_result n labels (tokens_of c.args.fields.now)) c.size_of.ensures)
    ∙ sym (numbered_is c.args.sizes.now c.args.kind labels (tokens_of c.args.fields.now) c.requires)
