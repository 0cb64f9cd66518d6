use Rattle.std.proofs.Common.{◌∙◌, sym}
use Rattle.abc_base_graphs.proofs.ByTexts.{same_places, no_places}
use Rattle.abc_base_graphs.proofs.by_text.places_by_text.Goals as goal

pub returns-in-Some : goal.returns-in-Some
returns-in-Some g c = c.get.ensures.value ∙ same_places _ _ _ _ _ _ c.requires (sym c.in-Some.ensures)

pub returns-in-None : goal.returns-in-None
returns-in-None g c = no_places _ _ _ _ _ c.requires (sym c.in-None.ensures)
