use Rattle.std.proofs.Common.{◌≡◌, ◌≤◌, drop}
use Rattle.abc_objects.specs.ElementNames.{number_from}
use Rattle.abc_lookup.proofs.elements.number_of.Given as goal

abbrev pub invariant-loop-digit : goal.invariant-loop-digit
invariant-loop-digit l = record {
  small : l.number ≤ 4294967294;
  same : number_from l.number (drop l.digit-index l.digits) ≡ number_from 0 l.digits;
}
