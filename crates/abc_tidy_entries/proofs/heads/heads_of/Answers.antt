use Rattle.std.proofs.Common.{refl}
use Rattle.abc_tidy_refs.specs.Nodes.{counts_of}
use Rattle.abc_tidy_entries.proofs.Building.{few_spaces, heads_built}
use Rattle.abc_tidy_entries.proofs.Telling.{heads_tell}
use Rattle.abc_tidy_entries.proofs.heads.heads_of.Goals as goal

pub returns : goal.returns
returns c =
    heads_tell c.args.abc.now c.args.marks.now c.in_ok-ints.ints c.in_ok-uints.uints c.in_ok-doubles.doubles c.in_ok-texts.texts c.add_names.new.heads
    c.in_ok-ints.ensures c.in_ok-uints.ensures c.in_ok-doubles.ensures c.in_ok-texts.ensures
    (heads_built c.args.abc.now c.in_ok-ints.ints c.in_ok-uints.uints c.in_ok-doubles.doubles c.in_ok-texts.texts c.new-heads.result c.push.new.self c.add_values.new.heads c.add_values-2.new.heads c.add_values-3.new.heads c.add_values-4.new.heads c.add_spaces.new.heads c.add_sets.new.heads c.add_names.new.heads
    c.new-heads.ensures c.in_ok-push.ensures.ok c.in_ok-add_values.ensures c.in_ok-add_values-2.ensures c.in_ok-add_values-3.ensures c.in_ok-add_values-4.ensures c.in_ok-add_spaces.ensures c.in_ok-add_sets.ensures c.in_ok-add_names.ensures)

pub add_spaces-requires : goal.add_spaces-requires
add_spaces-requires c = few_spaces c.args.abc.now (counts_of c.args.abc.now) refl c.requires.few
