-- The names of the reasons why an input is no log (profile: docs/PROGRAM.md, "Logs").
use Rattle.std.specs.Prelude.{ℕ, List, codes}
use Rattle.abc_file_types.specs.Reasons.{reason_name as file_reason_name}
use Rattle.abc_replay.specs.declared.error.ReplayReason.{ReplayReason}
use Rattle.abc_replay.specs.declared.error.ReplayReason.TheVariants as reasons

-- the name of a reason why an input is no log of a run
abbrev pub replay_reason_name : ReplayReason → List ℕ
replay_reason_name (reasons.File reason) = file_reason_name reason
replay_reason_name reasons.LogHead = codes "LogHead"
replay_reason_name reasons.LogLimits = codes "LogLimits"
replay_reason_name reasons.LogDiffers = codes "LogDiffers"
