-- How a run and the calls after it end can be told.
use Rattle.std.proofs.Common.{◌≡◌, ◌≢◌, ℕ, zero, suc, ◌+◌, ◌≤◌, List, [], ◌∷◌, ◌++◌, None, ap, ◌∙◌, arith}
use Rattle.std.specs.Prelude.{pos}
use Rattle.std.proofs.lemmas.Int.{ints}
use Rattle.abc_base.specs.Ranges.{IsNumber}
use Rattle.abc_base.specs.declared.names.Fault.{Fault}
use Rattle.abc_meaning.specs.Calls.{EndsAs, Gives, Reply, answers_call, session}
use Rattle.abc_meaning.specs.Exports.{IsScriptMethod}
use Rattle.abc_meaning_sound.specs.Placed.{CallsCanBeTold, FaultsArePlaced, RunsEndSound}
use Rattle.abc_meaning.specs.Told.{CanBeTold, IsInstruction}
use Rattle.abc_heap_store.specs.declared.records.Limits.{Limits}
use Rattle.abc_meaning.specs.ThrowLaws.{AreCounted, IsNeverStuck, IsVerifiedSetting}
use Rattle.abc_meaning.specs.Meaning.{Meaning, Ran, TooSmall, first_state, first_world, runs_for, too_small}
use Rattle.abc_meaning.specs.Sound.{WorldSound}
use Rattle.abc_meaning.specs.Throwing as meant
use Rattle.abc_meaning.specs.World.{World}
use Rattle.abc_meaning.specs.Setting.{Setting}
use Rattle.abc_machine.specs.Replied.{plain_value}
use Rattle.abc_file_types.specs.declared.tables.Abc.{Abc}
use Rattle.abc_session.proofs.TicksFollowing.{run_is}
use Rattle.abc_session.specs.Laws.{TicksCanBeTold}
use Rattle.abc_session.specs.Ticks.{with_output_before, calls_meaning, calls_run, then_follows, then_goes, tick, ticks, ticks_run, value_line}

record IsToldEnd (v : Abc) (e : meant.End) : Type 0 where
  unstuck : e ≢ meant.Stuck
  placed : (n i : ℕ) (fault : Fault) → e ≡ meant.Profile n i fault → IsInstruction v n i

abbrev IsToldRun : Abc → Meaning → Type 0
IsToldRun v (TooSmall limit) = Unit {0}
IsToldRun v (Ran wrote e) = IsToldEnd v e

told_done : (v : Abc) → IsToldEnd v meant.Done
told_done v = record { unstuck = λ h. cc; placed = λ n i fault h. absurd cc }

told_after : (v : Abc) (xs : List ℕ) (m : Meaning) → IsToldRun v m → IsToldRun v (with_output_before xs m)
told_after v xs (TooSmall limit) t = tt
told_after v xs (Ran wrote e) t = t

same_end : (xs ys : List ℕ) (e f : meant.End) → Ran xs e ≡ Ran ys f → e ≡ f
same_end xs ys e f q = cc

told_is : (v : Abc) (m : Meaning) → IsToldRun v m → CanBeTold v m
told_is v (TooSmall limit) t = record { unstuck = λ wrote h. cc; placed = λ wrote n i fault h. absurd cc }
told_is v (Ran xs e) t = record {
  unstuck = λ wrote h. t.unstuck (same_end xs wrote e meant.Stuck h);
  placed = λ wrote n i fault h. t.placed n i fault (same_end xs wrote e (meant.Profile n i fault) h);
}

number_fits : (n : ℕ) → n ≤ 4294967295 → IsNumber (pos n)
number_fits n low = (omega (arith, ints), omega (arith, ints, low))

reply_told : (v : Abc) (w : World) (r : Reply) (more : Meaning) → (r ≢ EndsAs meant.Stuck) → ((n i : ℕ) (fault : Fault) → r ≡ EndsAs (meant.Profile n i fault) → IsInstruction v n i) → IsToldRun v more → IsToldRun v (then_goes v w r more)
reply_told v w (Gives x) more unstuck placed t = told_after v (w.wrote ++ value_line v w.heap (plain_value x)) more t
reply_told v w (EndsAs e) more unstuck placed t = record { unstuck = λ h. unstuck (ap EndsAs h); placed = λ n i fault h. placed n i fault (ap EndsAs h) }

module _ (p : Setting) (method fuel : ℕ) (calls : CallsCanBeTold) (verified : IsVerifiedSetting p) (exported : IsScriptMethod p method) where
  ticks_told : (times number : ℕ) (w : World) → number + times ≤ 4294967296 → WorldSound p w → IsToldRun p.linked.file (calls_run p.linked.file (session p.linked w (ticks method fuel p.formulas number times)))
  ticks_told zero number w few sound = told_done p.linked.file
  ticks_told (suc times) number w few sound =
      let r = answers_call p.linked w (tick method fuel p.formulas number) in
      let t = calls p fuel w method (pos number ∷ []) verified sound exported (number_fits number (omega (arith, few)), tt) in
      let more = ticks_told times (number + 1) r.world (omega (arith, few)) t.sound in
      reply_told p.linked.file r.world r.reply (calls_run p.linked.file (session p.linked r.world (ticks method fuel p.formulas (number + 1) times))) t.unstuck t.placed more

follows_told : (v : Abc) (w : World) (e : meant.End) (more : World → Meaning) → IsToldEnd v e → IsToldRun v (more w) → IsToldRun v (then_follows w e more)
follows_told v w meant.Done more t f = told_after v w.wrote (more w) f
follows_told v w (meant.Uncaught x) more t f = t
follows_told v w (meant.Profile m i fault) more t f = t
follows_told v w meant.FuelSpent more t f = t
follows_told v w (meant.Full limit) more t f = t
follows_told v w meant.Stuck more t f = t

pub calls_told : IsNeverStuck → FaultsArePlaced → RunsEndSound → CallsCanBeTold → TicksCanBeTold
unfolding calls_meaning
calls_told never placed runs calls p limits fuel times method v counted fits few exported =
    let r = runs_for p fuel (first_state p limits) in
    let is = run_is p limits fuel fits in
    let end : IsToldEnd p.linked.file r.end = record {
      unstuck = λ h. never p limits fuel r.world.wrote v counted (is ∙ ap (Ran r.world.wrote) h);
      placed = λ n i fault h. placed p limits fuel r.world.wrote n i fault v counted (is ∙ ap (Ran r.world.wrote) h);
    } in
    told_is p.linked.file (then_follows r.world r.end (ticks_run p method fuel times))
    (follows_told p.linked.file r.world r.end (ticks_run p method fuel times) end (ticks_told p method fuel calls v exported times 0 r.world (omega (arith, few)) (runs p limits fuel v counted fits)))
