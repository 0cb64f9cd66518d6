-- What contracts see of a source that is taken a block ahead.
use Rattle.std.specs.Prelude.{ℕ, ◌-◌, List, drop, take}
use Rattle.std.specs.Io.KnownBytes.{prepend_known}
use Rattle.std.specs.declared.option.Option.{Option}
use Rattle.abc_base.specs.declared.source.Source.{Ghosts}
use Rattle.abc_log_blocks.specs.declared.loan.SourceLoan.{Ghosts as Loans}
use Rattle.abc_log_blocks.specs.declared.block_source.BlockSource.{BlockSource}

-- the source below
abbrev pub source_of : {S N : Type 0} {G : Ghosts S} {H : Loans N} → BlockSource S N G H → S
source_of b = b.source.now

-- the bytes that were taken and not read yet
abbrev pub held_of : {S N : Type 0} {G : Ghosts S} {H : Loans N} → BlockSource S N G H → List ℕ
held_of b = take (b.end - b.at) (drop b.at b.bytes)

-- the bytes that are left to read: those at hand, and those of the source below
abbrev pub left_of : {S N : Type 0} {G : Ghosts S} {H : Loans N} → BlockSource S N G H → Option (List ℕ)
left_of {G = G} b = prepend_known (held_of b) (G.left b.source.now)

-- how many reads of the source below failed
abbrev pub source_faults : {S N : Type 0} {G : Ghosts S} {H : Loans N} → BlockSource S N G H → ℕ
source_faults {G = G} b = G.faults b.source.now
