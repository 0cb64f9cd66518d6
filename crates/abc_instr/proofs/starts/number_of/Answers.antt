use Rattle.std.proofs.Common.{Ok, Err}
use Rattle.abc_file_types.proofs.Resolving.{search_is}
use Rattle.abc_instr.proofs.starts.number_of.Goals as goal

pub returns-in-Ok : goal.returns-in-Ok
returns-in-Ok c = search_is c.args.starts.now c.args.place (Ok c.in-Ok.i) c.requires.rising c.in-Ok.ensures.position

pub returns-in-Err : goal.returns-in-Err
returns-in-Err c = search_is c.args.starts.now c.args.place (Err c.in-Err.field-0) c.requires.rising c.in-Err.ensures.position
