-- A run is a call whose value is not told.
use Rattle.std.proofs.Common.{◌≡◌, ◌≢◌, ℕ, zero, suc, List, refl, sym, ap, subst}
use Rattle.std.specs.declared.option.Option.{Option}
use Rattle.abc_meaning.specs.Calls.{EndsAs, Gives, Replied, replies_for, value_at_end, then_replies}
use Rattle.abc_meaning.specs.Calls as calls
use Rattle.abc_heap_values.specs.declared.values.Value.{Value}
use Rattle.abc_machine.specs.Ended.{HasRun, IsEndOf, RunsAs, ended}
use Rattle.abc_machine.specs.Ended as runs
use Rattle.abc_machine.specs.Replied.{HasReplied, IsReplyOf, RepliesAs, failed, replied}
use Rattle.abc_machine.specs.Runs.{LeavesWorld}
use Rattle.abc_machine.specs.Spent.{end_for}
use Rattle.abc_machine.specs.declared.ends.End.TheVariants as ends
use Rattle.abc_machine.specs.declared.replies.Reply.{Reply}
use Rattle.abc_machine.specs.declared.replies.Reply.TheVariants as replies
use Rattle.abc_meaning.specs.Meaning.{Ended, ends_with, ran, runs_for, then_runs}
use Rattle.abc_meaning.specs.Step.{step}
use Rattle.abc_meaning.specs.Throwing.{Done, End, Ends, FuelSpent, Full, Machine, Profile, Stepped, Steps, Stuck, Uncaught}
use Rattle.abc_meaning.specs.Setting.{Setting}
use Rattle.abc_meaning.specs.World.{World}
use Rattle.abc_run_state.specs.declared.state.State.{State}

-- how a run ends where a call comes to this
abbrev pub end_of : calls.Reply → End
end_of (Gives v) = Done
end_of (EndsAs e) = e

abbrev pub ended_of : Replied → Ended
ended_of r = ends_with r.world (end_of r.reply)

then_same : (v : Value) (s : Stepped) (go : Machine → Ended) (call : Machine → Replied) → ((q : Machine) → go q ≡ ended_of (call q)) → then_runs s go ≡ ended_of (then_replies v s call)
then_same v (Steps q) go call h = h q
then_same v (Ends w Done) go call h = refl
then_same v (Ends w (Uncaught thrown)) go call h = refl
then_same v (Ends w (Profile method index fault)) go call h = refl
then_same v (Ends w FuelSpent) go call h = refl
then_same v (Ends w (Full limit)) go call h = refl
then_same v (Ends w Stuck) go call h = refl

pub runs_are : (p : Setting) (fuel : ℕ) (q : Machine) → runs_for p fuel q ≡ ended_of (replies_for p fuel q)
runs_are p zero q = refl
runs_are p (suc fuel) q = then_same (value_at_end p q.world q.frames) (step p q) (runs_for p fuel) (replies_for p fuel) (λ n. runs_are p fuel n)

pub end_is : (r : calls.Reply) (reply : Reply) → IsReplyOf r reply → IsEndOf (end_of r) (end_for reply)
end_is r (replies.Value v) is = ap end_of is.gives
end_is r (replies.Uncaught thrown) is = ap end_of is
end_is r (replies.Profile method index fault) is = ap end_of is
end_is r replies.FuelSpent is = ap end_of is
end_is r (replies.Full limit) is = ap end_of is
end_is r replies.WriteFault is = absurd is

ends_as : (r : Replied) (x z : Option (List ℕ)) (reply : Reply) → RepliesAs r x z reply → RunsAs (ran (ended_of r)) x z (end_for reply)
ends_as r x z reply (replied q answer is got) = ended q.world.wrote (end_of q.reply) (end_for answer) (end_is q.reply answer is) got
ends_as r x z reply (failed q front) = runs.failed q.world.wrote (end_of q.reply) front

pub run_replied : (p : Setting) (fuel : ℕ) (q : Machine) (x z : Option (List ℕ)) (reply : Reply) → RepliesAs (replies_for p fuel q) x z reply → RunsAs (ran (runs_for p fuel q)) x z (end_for reply)
run_replied p fuel q x z reply r = subst (λ (e : Ended). RunsAs (ran e) x z (end_for reply)) (sym (runs_are p fuel q)) (ends_as (replies_for p fuel q) x z reply r)

pub run_leaves : (p : Setting) (fuel : ℕ) (q : Machine) (reply : Reply) (s : State) → (reply ≢ replies.WriteFault → LeavesWorld p (replies_for p fuel q).world s) → end_for reply ≢ ends.WriteFault → LeavesWorld p (runs_for p fuel q).world s
run_leaves p fuel q reply s leaves f = subst (λ (w : World). LeavesWorld p w s) (sym (ap (λ (e : Ended). e.world) (runs_are p fuel q))) (leaves (λ e. f (ap end_for e)))

pub failed_back : (reply : Reply) → end_for reply ≡ ends.WriteFault → reply ≡ replies.WriteFault
failed_back (replies.Value v) e = absurd cc
failed_back (replies.Uncaught thrown) e = absurd cc
failed_back (replies.Profile method index fault) e = absurd cc
failed_back replies.FuelSpent e = absurd cc
failed_back (replies.Full limit) e = absurd cc
failed_back replies.WriteFault e = refl

pub has_run : (before now : ℕ) (reply : Reply) → HasReplied before now reply → HasRun before now (end_for reply)
has_run before now reply h = record { later = h.later; failed = λ e. h.failed (failed_back reply e) }
