use Rattle.abc_link_known.proofs.Firsts.{one_listed}
use Rattle.abc_link_known.proofs.finder.Finder.meaning_of_one.Goals as goal

pub meaning_among-requires : goal.meaning_among-requires
meaning_among-requires c = record {
  firsts = c.requires.firsts;
  places = c.requires.places;
  classes = c.requires.classes;
  spaces = one_listed c.args.self.now.names.abc.now c.args.name.spaces c.args.space c.as_slice.result.now c.requires.spaces c.as_slice.ensures;
}
