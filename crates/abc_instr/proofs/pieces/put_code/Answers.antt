use Rattle.abc_file_types.proofs.CodeShortest.{listing_ready}
use Rattle.abc_instr.proofs.pieces.put_code.Goals as goal

pub take-requires : goal.take-requires
take-requires c = listing_ready c.args.code.now c.requires.0 c.requires.1

pub put_pieces-done-requires-clause-ready : goal.put_pieces-done-requires-clause-ready
put_pieces-done-requires-clause-ready c = listing_ready c.args.code.now c.requires.0 c.requires.1
