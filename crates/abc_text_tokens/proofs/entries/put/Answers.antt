-- The entry that is put is right, and the others were.
use Rattle.std.proofs.lemmas.List.Elements.{All-set}
use Rattle.abc_text_tokens.specs.Entries.{IsRight}
use Rattle.abc_text_tokens.proofs.entries.put.Goals as goal

pub returns-then-place-len : goal.returns-then-place-len
returns-then-place-len c = All-set IsRight c.args.entries.now.items c.place_of-place.result (record { name = c.args.name; word = c.args.word }) c.requires.says c.requires.right
