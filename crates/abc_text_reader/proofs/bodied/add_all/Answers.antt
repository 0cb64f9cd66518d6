use Rattle.abc_text_reader.specs.Names.{names_in}
use Rattle.abc_text_reader.proofs.Rising.{added_more}
use Rattle.abc_text_reader.proofs.bodied.add_all.Goals as goal

pub loop-name-preserved : goal.loop-name-preserved
loop-name-preserved c =
    added_more c.args.names.now c.loop-name.name-index _ (names_in c.args.seen.now) (names_in c.loop-name.seen) (names_in c.add.new.seen) c.loop-name-test.true c.loop-name.invariant c.in_ok-add.ensures.is
