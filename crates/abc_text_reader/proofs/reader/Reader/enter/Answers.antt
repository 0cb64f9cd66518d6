-- The labels are those of the lines that come.
use Rattle.std.proofs.Common.{ℕ, Bool, List, [], ◌++◌, map, refl, sym, ap, subst, ◌∙◌}
use Rattle.std.specs.Borrow.{Bor}
use Rattle.abc_text_lines.specs.Texts.{labels_set}
use Rattle.abc_text_tokens.specs.Labels.{LabelsLead}
use Rattle.abc_text_tokens.specs.Cursor.{raws_at}
use Rattle.abc_text_tokens.specs.Names.{NameMap}
use Rattle.abc_text_reader.specs.Names.{key_of_entry, names_in}
use Rattle.abc_text_reader.proofs.Taking.{noted_places}
use Rattle.abc_text_reader.proofs.reader.Reader.enter.Goals as goal

pub returns : goal.returns
returns c = record {
  next = refl;
  ahead = c.in_ok-meet.ensures;
  operands = refl;
  sizes = refl;
  all = refl;
  instances = refl;
  classes = refl;
  places = noted_places c.renew.new.old c.args.line.now c.args.self.now.next c.requires.next (subst (λ (m : NameMap ℕ). LabelsLead m (labels_set 0 (raws_at c.args.self.now.next))) (sym c.renew.ensures) c.in_ok-labels.ensures);
  body = refl;
  set = ap (λ (m : NameMap Bool). names_in m ++ []) c.renew-2.ensures ∙ ap (λ (es : List (Bor (List ℕ) × Bool)). map key_of_entry es ++ []) c.new.ensures.empty;
  bodied = refl;
}
