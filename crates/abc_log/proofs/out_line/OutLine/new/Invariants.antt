use Rattle.abc_log.specs.Followed.{start_note}
use Rattle.abc_log.proofs.out_line.OutLine.new.Given as goal

abbrev pub ghost-new : goal.ghost-new
ghost-new g a = start_note (g.L.Log.name a._at.now) (g.L.Log.faults a._at.now) (g.L.Log.written a._at.now)
