use Rattle.abc_verify_flow.proofs.Covered.{cover_is}
use Rattle.abc_verify_flow.proofs.handled.cover_at.Goals as goal

pub returns : goal.returns
returns c = λ hs end is. cover_is hs end c.args.place c.args.handled.now (record { is_empty = c.is_free.result; is_inside = c.is_free-2.result }) is c.is_free.ensures.free c.is_free.ensures.taken c.is_free-2.ensures.free c.is_free-2.ensures.taken
