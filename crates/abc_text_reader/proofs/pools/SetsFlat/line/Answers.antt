use Rattle.abc_text_reader.proofs.pools.SetsFlat.line.Goals as goal

pub returns : goal.returns
returns c instances labels places = c.set_line.ensures labels
