use Rattle.std.proofs.Common.{◌∙◌, ap, cond, Some}
use Rattle.std.specs.Map.{lookup}
use Rattle.std.specs.Str.{bytes_eq}
use Rattle.abc_base_graphs.specs.Texts.{number_in_map}
use Rattle.abc_base_graphs.proofs.Lookup.{text_inserted}
use Rattle.abc_base_graphs.proofs.texts.note.Goals as goal

pub returns : goal.returns
returns c = record {
  notes = λ t.
      ap (lookup (λ k. bytes_eq t k.items)) c.in_ok-insert.ensures.entries
      ∙ text_inserted t c.args.numbers.now.entries c.in_ok-key.key c.args.number
      ∙ ap (λ bs. cond (bytes_eq t bs) (Some c.args.number) (number_in_map c.args.numbers.now t)) c.in_ok-key.ensures.items;
}
