use Rattle.std.proofs.Common.{◌∙◌, ap}
use Rattle.abc_link_rules.specs.Repeats.{keys_clash}
use Rattle.abc_link_names.specs.ItemTypes.{any_pair}
use Rattle.abc_link_rules.proofs.SidedRepeats.{of_traits, if_ok_same}
use Rattle.abc_link_rules.proofs.same_name.SameName.has_same_name.Goals as goal

pub returns : goal.returns
returns c =
    if_ok_same c.any_clash.result c.any_clash.ensures
    (ap (any_pair keys_clash) (c.as_slice.ensures.value ∙ c.in_ok-keys.ensures)
    ∙ of_traits c.args.self.now.names.abc.now c.args.self.now.names.tables.now.numbers c.args.table.now c.keys_tell_names.ensures)
