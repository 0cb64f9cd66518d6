use Rattle.std.proofs.Common.{◌∙◌, sym, ap}
use Rattle.abc_link_names.specs.Meaning.{holds_public}
use Rattle.abc_link_known.proofs.finder.Finder.meaning_in_set.Goals as goal

pub host_class-requires : goal.host_class-requires
host_class-requires c = c.requires.public ∙ ap (holds_public c.args.self.now.names.abc.now) (sym c.requires.spaces)
