-- A slot's value without a kind.
use Rattle.std.proofs.Common.{◌++◌, List, ℕ, sym, ap, ◌∙◌}
use Rattle.std.specs.declared.option.Option.{Option}
use Rattle.abc_file_types.specs.declared.methods.OptionValue.{OptionValue}
use Rattle.abc_file_types.specs.Classes.{sizes_of}
use Rattle.abc_disasm.specs.Texts.{slot_text}
use Rattle.abc_disasm.proofs.Shown.{slot_zero}
use Rattle.abc_disasm.proofs.traits.put_slot_value.Goals as goal

pub returns-else-option-ne0 : goal.returns-else-option-ne0
returns-else-option-ne0 c =
    let v = c.args._abc.now in
    let old = c.args.out.now.items in
    c.in_ok-put_number.ensures
    ∙ ap (λ (l : List ℕ). old ++ l) (sym (slot_zero (sizes_of v) c.in-Some.option c.if-option-ne0.false))
    ∙ ap (λ (o : Option OptionValue). old ++ slot_text v o) (sym c.in-Some.is)
