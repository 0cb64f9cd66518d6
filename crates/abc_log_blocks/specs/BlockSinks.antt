-- What contracts see of a sink that gathers what is written.
use Rattle.std.specs.Prelude.{ℕ, ◌-◌, List, drop, take}
use Rattle.std.specs.Io.KnownBytes.{append_known}
use Rattle.std.specs.declared.option.Option.{Option}
use Rattle.abc_base.specs.declared.sink.Sink.{Ghosts}
use Rattle.abc_log_blocks.specs.declared.loan.SinkLoan.{Ghosts as Loans}
use Rattle.abc_log_blocks.specs.declared.block_sink.BlockSink.{BlockSink}

-- the sink below
abbrev pub sink_of : {K N : Type 0} {G : Ghosts K} {H : Loans N} → BlockSink K N G H → K
sink_of b = b.sink.now

-- how many bytes of the block were used
abbrev pub block_end : {K N : Type 0} {G : Ghosts K} {H : Loans N} → BlockSink K N G H → ℕ
block_end b = b.end

-- the bytes that wait to be handed on
abbrev pub waiting_of : {K N : Type 0} {G : Ghosts K} {H : Loans N} → BlockSink K N G H → List ℕ
waiting_of b = take (b.end - b.at) (drop b.at b.bytes)

-- what was written: what the sink below has, and what waits
abbrev pub written_of : {K N : Type 0} {G : Ghosts K} {H : Loans N} → BlockSink K N G H → Option (List ℕ)
written_of {G = G} b = append_known (G.written b.sink.now) (waiting_of b)

-- how many writes of the sink below failed
abbrev pub sink_faults : {K N : Type 0} {G : Ghosts K} {H : Loans N} → BlockSink K N G H → ℕ
sink_faults {G = G} b = G.faults b.sink.now
