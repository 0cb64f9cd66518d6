use Rattle.std.proofs.Common.{ℕ, List, refl, sym, ap, ◌∙◌}
use Rattle.std.specs.Borrow.{Bor}
use Rattle.std.specs.Map.{lookup}
use Rattle.abc_text_tokens.specs.Names.{is_name_equal}
use Rattle.abc_text_tokens.proofs.Keeping.{after_insert, same_lookup}
use Rattle.abc_text_tokens.proofs.noting.give.Goals as goal

pub returns-clause-had : goal.returns-clause-had
returns-clause-had g c = c.in_ok-had.ensures.old ∙ sym (same_lookup c.args.values.now.entries c.args.name c.args.name.now refl)

pub returns-clause-gives : goal.returns-clause-gives
returns-clause-gives g c other =
    ap (λ (es : List (Bor (List ℕ) × g.row.V.Denot)). lookup (is_name_equal other) es) c.in_ok-had.ensures.entries ∙ after_insert c.args.values.now.entries c.args.name c.args.value other
