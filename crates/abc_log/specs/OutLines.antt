-- What contracts see of a line that is written to.
use Rattle.std.specs.Prelude.{ℕ, List}
use Rattle.abc_log.specs.declared.lent.Log.{Ghosts}
use Rattle.abc_log.specs.declared.out_line.OutLine.{OutLine}

-- how many writes failed
abbrev pub line_faults : {L : Type 0} {G : Ghosts L} → OutLine L G → ℕ
line_faults o = o.faults

-- what there was when nothing was written
abbrev pub start_of_line : {L : Type 0} {G : Ghosts L} → OutLine L G → List ℕ
start_of_line o = o.history.start

-- what was written since
abbrev pub bytes_shown : {L : Type 0} {G : Ghosts L} → OutLine L G → List ℕ
bytes_shown o = o.history.bytes
