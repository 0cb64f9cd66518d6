-- What a run, or a call, leaves is sound.
use Rattle.std.proofs.Common.{◌≢◌, ℕ, zero, suc, refl}
use Rattle.abc_heap_values.specs.declared.values.Value.{Value}
use Rattle.abc_heap_values.specs.declared.values.Value.TheVariants.{Undefined}
use Rattle.abc_meaning.specs.Setting.{Setting}
use Rattle.abc_meaning.specs.World.{World}
use Rattle.abc_meaning.specs.ThrowLaws.{IsVerifiedSetting}
use Rattle.abc_meaning.specs.Meaning.{Ended, runs_for, then_runs}
use Rattle.abc_meaning.specs.Sound.{AreTypings, IsSound, SteppedSound, Typings, WorldSound}
use Rattle.abc_meaning.specs.Step.{step}
use Rattle.abc_meaning.specs.Throwing.{Done, End, Ends, FuelSpent, Full, Machine, Profile, Stepped, Steps, Stuck, Uncaught}
use Rattle.abc_meaning_sound.proofs.Never.{stays_sound}
use Rattle.abc_meaning.specs.Calls.{EndsAs, Replied, begins_call, call_meaning, replies_for, value_at_end, silent, then_replies}
use Rattle.abc_meaning_sound.specs.CallLaws.{CallsLeaveSound, RunsLeaveSound}
use Rattle.abc_meaning_sound.proofs.Called.{call_begins}

module _ (p : Setting) (typings : Typings) (v : IsVerifiedSetting p) (typed : AreTypings p typings) where
  then_left : (s : Stepped) (go : Machine → Ended) → SteppedSound p typings s → ((q : Machine) → IsSound p typings q → WorldSound p (go q).world) → WorldSound p (then_runs s go).world
  then_left (Steps q) go h g = g q h
  then_left (Ends w e) go h g = h.1

  run_left : (fuel : ℕ) (q : Machine) → IsSound p typings q → WorldSound p (runs_for p fuel q).world
  run_left zero q h = h.world
  run_left (suc fuel) q h = then_left (step p q) (runs_for p fuel) (stays_sound p typings q v typed h) (λ n s. run_left fuel n s)

  -- a sound world, and no Stuck
  abbrev RepliedSound : Replied → Type 0
  RepliedSound r = WorldSound p r.world × (r.reply ≢ EndsAs Stuck)

  ended_sound : (x : Value) (w : World) (e : End) (go : Machine → Replied) → e ≢ Stuck → WorldSound p w → RepliedSound (then_replies x (Ends w e) go)
  ended_sound x w Done go h z = (z, λ q. absurd cc)
  ended_sound x w (Uncaught t) go h z = (z, λ q. absurd cc)
  ended_sound x w (Profile n i fault) go h z = (z, λ q. absurd cc)
  ended_sound x w FuelSpent go h z = (z, λ q. absurd cc)
  ended_sound x w (Full limit) go h z = (z, λ q. absurd cc)
  ended_sound x w Stuck go h z = absurd (h refl)

  then_replied : (x : Value) (s : Stepped) (go : Machine → Replied) → SteppedSound p typings s → ((q : Machine) → IsSound p typings q → RepliedSound (go q)) → RepliedSound (then_replies x s go)
  then_replied x (Steps q) go h g = g q h
  then_replied x (Ends w e) go h g = ended_sound x w e go h.0 h.1

  replies_left : (fuel : ℕ) (q : Machine) → IsSound p typings q → RepliedSound (replies_for p fuel q)
  replies_left zero q h = (h.world, λ e. absurd cc)
  replies_left (suc fuel) q h = then_replied (value_at_end p q.world q.frames) (step p q) (replies_for p fuel) (stays_sound p typings q v typed h) (λ n s. replies_left fuel n s)

pub runs_left : RunsLeaveSound
runs_left p typings fuel q v typed h = run_left p typings v typed fuel q h

-- that nothing is written yet doesn't matter
pub silent_sound : (p : Setting) (w : World) → WorldSound p w → WorldSound p (silent w)
silent_sound p w z = record { stands = z.stands; objects = z.objects; formulas = z.formulas; scripts = z.scripts; within = z.within }

pub calls_left : CallsLeaveSound
unfolding call_meaning
calls_left p typings fuel w m args v typed z exported ns =
    then_replied p typings v typed Undefined (begins_call p (silent w) m args) (replies_for p fuel) (call_begins p typings (silent w) m args v typed (silent_sound p w z) exported ns) (λ q s. replies_left p typings v typed fuel q s)
