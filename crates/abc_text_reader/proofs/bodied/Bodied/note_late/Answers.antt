-- All are added to the others.
use Rattle.abc_text_reader.specs.Names.{names_in}
use Rattle.abc_text_reader.proofs.Rising.{late_is, late_was}
use Rattle.abc_text_reader.proofs.bodied.Bodied.note_late.Goals as goal

pub returns-clause-was : goal.returns-clause-was
returns-clause-was c = late_was c.as_slice.result.now c.self.inside.rising.items (names_in c.self.inside.others) (names_in c.add_all.new.seen) c.args.self.now c.args.name.now c.in_ok-known.known c.as_slice.ensures.value c.self.view_is c.in_ok-add_all.ensures c.in_ok-known.ensures.was

pub returns-clause-is : goal.returns-clause-is
returns-clause-is c = late_is c.as_slice.result.now c.self.inside.rising.items c.clear.new.self.items (names_in c.self.inside.others) (names_in c.add_all.new.seen) (names_in c.add.new.seen) c.args.self.now c.args.name.now c.as_slice.ensures.value c.clear.ensures.items c.self.view_is c.in_ok-add_all.ensures c.in_ok-known.ensures.is
