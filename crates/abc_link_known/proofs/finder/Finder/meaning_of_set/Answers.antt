use Rattle.abc_link_known.proofs.Firsts.{set_listed}
use Rattle.abc_link_known.proofs.finder.Finder.meaning_of_set.Goals as goal

pub meaning_among-requires : goal.meaning_among-requires
meaning_among-requires c = record {
  firsts = c.requires.firsts;
  places = c.requires.places;
  classes = c.requires.classes;
  spaces = set_listed c.args.self.now.names.abc.now c.args.name.spaces c.args.set c.set_at.result.now c.requires.spaces c.set_at.ensures;
}
