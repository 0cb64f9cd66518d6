use Rattle.std.proofs.Common.{◌<◌, ◌^◌, subst, sym}
use Rattle.abc_bodies.specs.Places.{ArePlaces}
use Rattle.abc_file_types.specs.declared.tables.Abc.{Abc}
use Rattle.abc_cli_answers.specs.Measured.{instruction_count}
use Rattle.abc_cli_answers.specs.Placed.{IsReadAgain}
use Rattle.abc_cli_answers.proofs.Measuring.{few_instructions}
use Rattle.abc_cli_answers.proofs.Placed.{places_are, read_again}
use Rattle.abc_cli_answers.proofs.measures.make.Goals as goal

pub notes_on-requires-clause-few : goal.notes_on-requires-clause-few
notes_on-requires-clause-few c = subst (λ (v : Abc). instruction_count v.bodies < 2 ^ 32) (sym c.in_ok-file.ensures.is) (few_instructions c.args.seed c.args.methods c.requires)

pub notes_on-requires-clause-fits : goal.notes_on-requires-clause-fits
notes_on-requires-clause-fits c = c.in_ok-file.ensures.fits

pub returns-in-Ok-clause-read : goal.returns-in-Ok-clause-read
returns-in-Ok-clause-read c = subst (IsReadAgain c.in_ok-file.file) (sym c.in-Ok.ensures.places) (read_again c.in_ok-file.file c.in_ok-file.ensures.fits)

pub returns-in-Ok-clause-places : goal.returns-in-Ok-clause-places
returns-in-Ok-clause-places c = subst (ArePlaces c.in_ok-file.file.bodies) (sym c.in-Ok.ensures.places) (places_are c.in_ok-file.file.bodies)
