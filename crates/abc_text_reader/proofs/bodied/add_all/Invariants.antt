use Rattle.std.proofs.Common.{◌++◌, take}
use Rattle.abc_text_reader.specs.Names.{Same, names_in, texts_of_names}
use Rattle.abc_text_reader.proofs.bodied.add_all.Given as goal

abbrev pub invariant-loop-name : goal.invariant-loop-name
invariant-loop-name l = Same (names_in l.seen) (texts_of_names (take l.name-index l.names) ++ names_in l.initial.seen)
