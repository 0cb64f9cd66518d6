-- What contracts see of a comparison that takes the byte at which it fails.
use Rattle.std.specs.Prelude.{ℕ, List}
use Rattle.abc_base.specs.declared.source.Source.{Ghosts}
use Rattle.abc_log.specs.declared.compare.Verdict.{Verdict}
use Rattle.abc_log.specs.declared.lenient.Lenient.{Lenient}

-- the source to which what is written is compared
abbrev pub inner_source : {S : Type 0} {G : Ghosts S} → Lenient S G → S
inner_source l = l.compare.source

-- the verdict so far
abbrev pub inner_verdict : {S : Type 0} {G : Ghosts S} → Lenient S G → Verdict
inner_verdict l = l.compare.verdict

-- how many bytes agreed so far; it counts to 2 ^ 64 - 1
abbrev pub inner_agreed : {S : Type 0} {G : Ghosts S} → Lenient S G → ℕ
inner_agreed l = l.compare.agreed

-- what the source had left when nothing was written, and how many of its reads had failed
abbrev pub start_of_compare : {S : Type 0} {G : Ghosts S} → Lenient S G → List ℕ
start_of_compare l = l.history.start

-- what was written since
abbrev pub bytes_since : {S : Type 0} {G : Ghosts S} → Lenient S G → List ℕ
bytes_since l = l.history.bytes
