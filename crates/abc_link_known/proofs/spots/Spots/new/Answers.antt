use Rattle.std.proofs.Common.{◌∙◌}
use Rattle.abc_link_known.proofs.Spotted.{are_spots}
use Rattle.abc_link_known.proofs.spots.Spots.new.Goals as goal

pub returns : goal.returns
returns c =
    are_spots c.args.names.now.abc.now c.args.names.now.tables.now.numbers c.as_slice.result.now c.as_slice-2.result.now c.in_ok-found.found c.in_ok-classes.classes c.in_ok-spaces.spaces _
    (c.as_slice.ensures.value ∙ c.in_ok-keys.ensures) (c.as_slice-2.ensures.value ∙ c.in_ok-keys.ensures)
    c.in_ok-found.ensures c.in_ok-classes.ensures c.in_ok-spaces.ensures
