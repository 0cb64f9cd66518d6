use Rattle.std.proofs.Common.{refl, ◌∙◌}
use Rattle.abc_tidy_entries.specs.Visited.{roots_of}
use Rattle.abc_tidy_entries.proofs.Numbered.{numbered}
use Rattle.abc_tidy_entries.proofs.numbering.numbers_of.Goals as goal

pub returns : goal.returns
returns c =
    numbered c.args._abc.now c.args.heads.now c.args.graph.now c.args.classes.now.keys.keys c.args.classes.now.classes (roots_of c.args._abc.now) c.args.seen.now c.in_ok-places.places c.in_ok-numbers.numbers c.in_ok-all.all c.args.counts.now c.in_ok-count.count
    c.requires.counts c.requires.heads c.requires.graph refl c.requires.valid c.requires.distinct c.requires.roots c.requires.classed
    c.in_ok-places.ensures c.in_ok-numbers.ensures c.in_ok-all.ensures (c.in_ok-count.ensures ∙ c.len.ensures)
