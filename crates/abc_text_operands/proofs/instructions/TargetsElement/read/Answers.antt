use Rattle.std.proofs.Common.{◌∙◌}
use Rattle.abc_text_tokens.specs.Walks.{token_as_text}
use Rattle.abc_text_operands.proofs.Coded.{are_places, labels_in, place_is}
use Rattle.abc_text_operands.proofs.instructions.TargetsElement.read.Goals as goal

pub returns : goal.returns
returns c =
    let m = c.args.self.now.places.now in
    c.target.ensures (labels_in m) (are_places m) ∙ place_is m (labels_in m) (token_as_text c.args.token) (are_places m)
