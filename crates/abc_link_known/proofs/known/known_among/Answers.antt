use Rattle.abc_link_known.proofs.Telling.{nothing_known}
use Rattle.abc_link_known.proofs.known.known_among.Goals as goal

pub tell_costly-requires : goal.tell_costly-requires
tell_costly-requires c = nothing_known c.args.names.now.abc.now c.in_ok-known.known c.in_ok-count.count c.in_ok-known.ensures
