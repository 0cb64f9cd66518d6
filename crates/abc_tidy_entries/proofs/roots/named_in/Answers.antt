use Rattle.std.proofs.Common.{◌∙◌, sym}
use Rattle.abc_tidy_entries.proofs.Rooted.{rooted_nodes, rooted_there}
use Rattle.abc_tidy_entries.proofs.roots.named_in.Goals as goal

pub returns : goal.returns
returns c = record {
  nodes = c.finish.ensures.nodes ∙ rooted_nodes c.args.abc.now c.args.counts c.in_ok-roots.roots c.note_file.new.found c.requires.counts c.in_ok-roots.ensures c.in_ok-note_file.ensures;
  there = λ t. rooted_there c.args.abc.now c.args.counts c.in_ok-roots.roots c.note_file.new.found c.requires.counts c.in_ok-roots.ensures c.in_ok-note_file.ensures (sym c.finish.ensures.there ∙ t);
}
