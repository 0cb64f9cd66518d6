use Rattle.abc_text_reader.proofs.pools.NamesFlat.line.Goals as goal

pub returns : goal.returns
returns c instances labels places = c.name_line.ensures labels
