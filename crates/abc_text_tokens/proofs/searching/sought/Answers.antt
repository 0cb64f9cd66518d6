-- A label, an instruction, or another word.
use Rattle.std.proofs.Common.{◌≡◌, Some, None, refl, sym, ap, ◌∙◌}
use Rattle.std.specs.Option.{unwrap_or}
use Rattle.std.specs.declared.option.Option.{Option}
use Rattle.abc_text_lines.specs.declared.word.Word.{Word}
use Rattle.abc_text_lines.specs.declared.word.Word.TheVariants as words
use Rattle.abc_file_types.specs.Opcodes.{names_of_opcodes}
use Rattle.abc_text_lines.specs.Texts.{before_colon}
use Rattle.abc_text_tokens.specs.Names.{opcode_of_name}
use Rattle.abc_text_tokens.proofs.Keeping.{same_lookup}
use Rattle.abc_text_tokens.proofs.Wording.{word_of_label, word_of_opcode, word_of_plain}
use Rattle.abc_text_tokens.proofs.searching.sought.Goals as goal

pub returns-in-Some : goal.returns-in-Some
returns-in-Some c = c.label_or_unknown.ensures ∙ sym (word_of_label c.args.word.now c.in-Some.name.now (sym c.in-Some.ensures))

pub returns-in-Some-get : goal.returns-in-Some-get
returns-in-Some-get c =
    let known : opcode_of_name names_of_opcodes c.args.word.now ≡ Some c.in-Some-get.op.now = sym (c.requires c.args.word.now) ∙ same_lookup c.args.opcodes.now.entries c.args.word c.args.word.now refl ∙ sym c.in-Some-get.ensures.value in
    sym (word_of_opcode c.args.word.now c.in-Some-get.op.now known)

pub returns-in-None : goal.returns-in-None
returns-in-None c =
    let none : opcode_of_name names_of_opcodes c.args.word.now ≡ None = sym (c.requires c.args.word.now) ∙ same_lookup c.args.opcodes.now.entries c.args.word c.args.word.now refl ∙ sym c.in-None.ensures.value in
    let plain : before_colon c.args.word.now ≡ None = sym c.in_default.ensures in
    c.unwrap_or.ensures ∙ ap (λ (o : Option Word). unwrap_or o words.Unknown) c.line_word.ensures ∙ sym (word_of_plain c.args.word.now none plain)
