-- A state that a step leaves is one that a run reaches.
use Rattle.std.proofs.Common.{sym, subst}
use Rattle.abc_run_calls.specs.Arguments.{HasArgumentRoom}
use Rattle.abc_run_finish.specs.Steps.{machine}
use Rattle.abc_meaning.specs.Sound.{SteppedSound}
use Rattle.abc_machine.specs.ReachedLaws.{StepsStayReached}
use Rattle.abc_run_state.specs.Outer.{setting_in}
use Rattle.abc_meaning_sound.proofs.Never.{stays_sound}

pub reached_on : StepsStayReached
reached_on l out old new before now r g sized limit = record {
  verified = r.verified;
  typings = r.typings;
  typed = r.typed;
  sound = subst (SteppedSound (setting_in l out) r.typings) g.goes (stays_sound (setting_in l out) r.typings (machine old out) r.verified r.typed r.sound);
  sized = sized;
  known = subst (HasArgumentRoom l) (sym limit) r.known;
}
