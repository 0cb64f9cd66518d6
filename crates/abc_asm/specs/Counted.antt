-- Lines that have a fault besides those of their operands.
use Rattle.std.specs.Prelude.{Bool, Ok, Err, if◌then◌else◌}
use Rattle.std.specs.declared.result.Result.{Result}
use Rattle.abc_text_lines.specs.declared.reason.AsmReason.{AsmReason}
use Rattle.abc_text_operands.specs.Joined.{both_or_reason, map_operand}

abbrev pub fault_unless : Bool → AsmReason → Result (Unit {0}) AsmReason
fault_unless fine reason = if fine then Ok tt else Err reason

-- a line's value, or the first of its faults, of which the reason is one where something isn't fine
abbrev pub with_fault : {H : Type 0} → Result H AsmReason → Bool → AsmReason → Result H AsmReason
with_fault {H} head fine reason = map_operand (λ (x : H × Unit {0}). x.0) (both_or_reason head (fault_unless fine reason))
