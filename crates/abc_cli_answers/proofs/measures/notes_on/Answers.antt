use Rattle.abc_cli_answers.proofs.Measuring.{bodies_ready}
use Rattle.abc_cli_answers.proofs.measures.notes_on.Goals as goal

pub places_of-requires : goal.places_of-requires
places_of-requires c = bodies_ready c.args.abc.now c.requires.fits
