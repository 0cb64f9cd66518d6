use Rattle.abc_verify_states.proofs.Marked.{heads}
use Rattle.abc_verify_states.proofs.heads.heads_of.Goals as goal

pub returns : goal.returns
returns c = heads _ _ _ _ _ _ _ c.count_of.ensures.some c.count_of.ensures.enough c.in_ok-marks.ensures c.mark.ensures c.mark_code.ensures c.mark_handlers.ensures
