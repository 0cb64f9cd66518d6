-- A label that is set, and one that isn't.
use Rattle.std.proofs.Common.{◌≡◌, true, false, Some, None, refl, sym, ◌∙◌}
use Rattle.abc_text_lines.specs.Operands.{is_name, place_of_label}
use Rattle.abc_text_tokens.proofs.Keeping.{same_lookup}
use Rattle.abc_text_operands.proofs.More.{target_found, target_missing, target_quoted, target_unnamed}
use Rattle.abc_text_operands.proofs.handlers.target.Goals as goal

pub returns-in_default : goal.returns-in_default
returns-in_default c labels places = sym (target_quoted c.args.token c.in_default.field-0 labels c.in_default.is)

pub returns-then-not-is_name : goal.returns-then-not-is_name
returns-then-not-is_name c labels places =
    let none : is_name c.in-Bare.word.now ≡ false = cc (c.is_name.ensures, c.if-not-is_name.true) in
    sym (target_unnamed c.args.token c.in-Bare.word labels c.in-Bare.is none)

pub returns-in-Some : goal.returns-in-Some
returns-in-Some c labels places =
    let name : is_name c.in-Bare.word.now ≡ true = cc (c.is_name.ensures, c.if-not-is_name.false) in
    let known : place_of_label labels c.in-Bare.word.now ≡ Some c.in-Some.place.now = sym (places c.in-Bare.word.now) ∙ same_lookup c.args.places.now.entries c.in-Bare.word c.in-Bare.word.now refl ∙ sym c.in-Some.ensures.value in
    sym (target_found c.args.token c.in-Bare.word labels c.in-Some.place.now c.in-Bare.is name known)

pub returns-in-None : goal.returns-in-None
returns-in-None c labels places =
    let name : is_name c.in-Bare.word.now ≡ true = cc (c.is_name.ensures, c.if-not-is_name.false) in
    let none : place_of_label labels c.in-Bare.word.now ≡ None = sym (places c.in-Bare.word.now) ∙ same_lookup c.args.places.now.entries c.in-Bare.word c.in-Bare.word.now refl ∙ sym c.in-None.ensures.value in
    sym (target_missing c.args.token c.in-Bare.word labels c.in-Bare.is name none)
