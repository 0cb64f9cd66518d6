use Rattle.abc_text_reader.proofs.pools.StringsFlat.line.Goals as goal

pub returns : goal.returns
returns c instances labels places = c.string_line.ensures labels
