use Rattle.std.proofs.Common.{◌∙◌, ap}
use Rattle.abc_link_known.specs.Slates.{item_at}
use Rattle.abc_link_known.proofs.Firsts.{first_in_text}
use Rattle.abc_link_known.proofs.finder.Finder.class_among.Goals as goal

pub returns : goal.returns
returns c =
    let names = c.args.self.now.names in
    c.class_at.ensures
    ∙ ap (item_at c.args.classes.now) c.first_place.ensures
    ∙ first_in_text names.abc.now names.tables.now c.args.name c.args.classes.now c.args.spaces.now names.sound c.requires.spaces c.requires.classes
