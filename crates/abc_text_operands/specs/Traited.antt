-- Traits, as the code has them.
use Rattle.abc_text_lines.specs.Lineforms as forms
use Rattle.abc_text_operands.specs.declared.traits.TraitHead.{TraitHead}

-- what a trait's own line says, as the definitions have it
abbrev pub as_trait : TraitHead → forms.TraitHead
as_trait t = record { attrs = t.attrs; name = t.name; body = t.body }
