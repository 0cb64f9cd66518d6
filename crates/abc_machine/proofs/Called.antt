-- A method of the last script of a verified file can be called, and where the call goes on, its state is one that a run reaches.
use Rattle.std.proofs.Common.{◌≡◌, ◌<◌, ◌^◌, ℕ, ℤ, List, length, sym, subst, arith}
use Rattle.std.specs.Prelude.{Ok}
use Rattle.std.specs.declared.result.Result.{Result}
use Rattle.abc_base.specs.Ranges.{IsNumber}
use Rattle.abc_link_names.specs.Linked.{LinkedFile}
use Rattle.abc_machine.specs.Calling.{CanCall}
use Rattle.abc_meaning.specs.Calls.{begins_call}
use Rattle.abc_meaning.specs.Fair.{IsFairPart}
use Rattle.abc_meaning.specs.Sound.{AreTypings, SteppedSound, Typings}
use Rattle.abc_meaning.specs.Setting.{Setting}
use Rattle.abc_meaning.specs.World.{World}
use Rattle.abc_meaning_sound.proofs.Called.{call_begins}
use Rattle.abc_meaning_sound.proofs.Fairly.{call_fair}
use Rattle.abc_meaning_sound.proofs.Filed.{definitions, some_script}
use Rattle.abc_meaning_sound.proofs.Typed.{has_typings}
use Rattle.abc_run_calls.specs.Arguments.{HasArgumentRoom}
use Rattle.abc_run_finish.proofs.Stepped.{free_of}
use Rattle.abc_run_finish.specs.Calling.{CanBeginCall}
use Rattle.abc_run_finish.specs.Ending.{IsSized, stepped_by}
use Rattle.abc_run_finish.specs.Steps.{IsReached}
use Rattle.abc_run_finish.specs.declared.ended.Ended.{Ended}
use Rattle.abc_run_state.specs.Outer.{Outer, setting_in, world}
use Rattle.abc_run_state.specs.declared.state.State.{State}
use Rattle.abc_verify_typing.specs.Lists.{Each}

module _ (l : LinkedFile) (out : Outer) (m : ℕ) (s : State) (ns : List ℤ) (can : CanCall l out m s) (numbered : Each IsNumber ns) where
  abbrev p : Setting
  p = setting_in l out

  abbrev here : World
  here = world s out

  typed : (states : Typings) × AreTypings p states
  typed = has_typings p can.verified

  begins_sound : SteppedSound p typed.0 (begins_call p here m ns)
  begins_sound = call_begins p typed.0 here m ns can.verified typed.1 can.sound can.exported numbered

  pub can_begin : CanBeginCall l out m ns s
  can_begin = record {
    over = can.sound.stands;
    none = can.none;
    sized = can.sized;
    known = can.known;
    scripts = some_script l can.verified.linked;
    few = (let count = (definitions l can.verified.linked).script_count in omega (arith, count));
    fair = call_fair p typed.0 here m ns can.verified typed.1 can.sound can.exported numbered;
    free = free_of p typed.0 (begins_call p here m ns) begins_sound;
  }

  pub begins_reached : (new : State) (r : Result Unit Ended) (u : Unit) → r ≡ Ok u → begins_call p here m ns ≡ stepped_by r (world new out) new.frames → IsSized p new.arena.limits new.frames → new.given.limit ≡ s.given.limit → IsReached l out new
  begins_reached new r u is e sized limit = record {
    verified = can.verified;
    typings = typed.0;
    typed = typed.1;
    sound = subst (SteppedSound p typed.0) (subst (λ (x : Result Unit Ended). begins_call p here m ns ≡ stepped_by x (world new out) new.frames) is e) begins_sound;
    sized = sized;
    known = subst (HasArgumentRoom l) (sym limit) can.known;
  }
