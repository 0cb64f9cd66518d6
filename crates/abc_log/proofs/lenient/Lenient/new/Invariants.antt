use Rattle.abc_log.specs.Followed.{start_note}
use Rattle.abc_log.proofs.lenient.Lenient.new.Given as goal

abbrev pub ghost-new : goal.ghost-new
ghost-new g a = start_note (g.S.Source.name a._at.now) (g.S.Source.faults a._at.now) (g.S.Source.left a._at.now)
