-- A call: it is begun, and steps are taken.
use Rattle.std.proofs.Common.{◌≡◌, ◌≢◌, ℕ, ℤ, List, [], refl, sym, ap, ◌∙◌, subst}
use Rattle.std.specs.Prelude.{IsSome, Ok, Err}
use Rattle.std.specs.declared.option.Option.{Option}
use Rattle.std.specs.declared.result.Result.{Result}
use Rattle.abc_base.specs.declared.formula.Formula.{Formula}
use Rattle.abc_meaning.specs.Calls.{Replied, begins_call, call_meaning, replies, replies_for, then_replies}
use Rattle.abc_heap_values.specs.declared.values.Value.TheVariants.{Undefined}
use Rattle.abc_run_finish.specs.Ending.{IsSized, end_of_run, stepped_by}
use Rattle.abc_run_finish.specs.declared.ended.Ended.{Ended}
use Rattle.abc_run_finish.specs.declared.ended.Ended.TheVariants as ended
use Rattle.abc_machine.specs.Machines.{kept_world}
use Rattle.abc_machine.specs.Replied.{IsReplyOf, RepliesAs, replied}
use Rattle.abc_machine.specs.Runs.{LeavesWorld}
use Rattle.abc_machine.specs.Spent.{reply_by, reply_for}
use Rattle.abc_machine.specs.declared.replies.Reply.{Reply}
use Rattle.abc_machine.specs.declared.replies.Reply.TheVariants.{WriteFault}
use Rattle.abc_machine.proofs.Opening.{append_none}
use Rattle.abc_machine.proofs.Reaching.{Comes, then_is}
use Rattle.abc_meaning.specs.Throwing.{Stepped, goes_on}
use Rattle.abc_meaning.specs.Openings.{setting}
use Rattle.abc_link_names.specs.Linked.{LinkedFile}
use Rattle.abc_run_finish.specs.declared.halts.Halt.TheVariants.{Ends as Halts}
use Rattle.abc_run_finish.specs.Steps.{machine}
use Rattle.abc_run_state.specs.Outer.{Outer, world}
use Rattle.abc_meaning.specs.Setting.{Setting}
use Rattle.abc_run_state.specs.declared.state.State.{State}

-- where it can't be begun, that is its reply
reply_is : (e : Ended) → IsReplyOf (reply_by Undefined (end_of_run e)) (reply_for (Halts e))
reply_is (ended.Uncaught thrown) = refl
reply_is (ended.Profile method index fault) = refl
reply_is (ended.Full limit) = refl

module _ (l : LinkedFile) (fs : List Formula) (old new : State) (fuel method : ℕ) (args : List ℤ) (r : Result Unit Ended) where
  abbrev p : Setting
  p = setting l fs

  abbrev out : Outer
  out = record { formulas = fs; wrote = [] }

  abbrev called : Replied
  called = call_meaning p fuel (kept_world old) method args

  module _ (step : begins_call p (world old out) method args ≡ stepped_by r (world new out) new.frames) where
    begun_as : (s : Stepped) → stepped_by r (world new out) new.frames ≡ s → called ≡ then_replies Undefined s (replies_for p fuel)
    unfolding call_meaning
    begun_as s e = ap (λ (x : Stepped). then_replies Undefined x (replies_for p fuel)) (step ∙ e)

    -- steps are taken
    pub goes : (u : Unit) (x z : Option (List ℕ)) (reply : Reply) → r ≡ Ok u → RepliesAs (replies_for p fuel (machine new out)) x z reply → RepliesAs called x z reply
    goes u x z reply is a =
        let same : called ≡ replies_for p fuel (machine new out) = begun_as (goes_on (world new out) new.frames.living) (ap (λ (q : Result Unit Ended). stepped_by q (world new out) new.frames) is) in
        subst (λ (q : Replied). RepliesAs q x z reply) (sym same) a

    pub goes_left : (u : Unit) (last : State) (reply : Reply) → r ≡ Ok u → (reply ≢ WriteFault → LeavesWorld p (replies_for p fuel (machine new out)).world last) → reply ≢ WriteFault → LeavesWorld p called.world last
    goes_left u last reply is leaves f =
        let same : called ≡ replies_for p fuel (machine new out) = begun_as (goes_on (world new out) new.frames.living) (ap (λ (q : Result Unit Ended). stepped_by q (world new out) new.frames) is) in
        subst (λ (q : Replied). LeavesWorld p q.world last) (sym same) (leaves f)

    -- it ends at once
    pub ends : (e : Ended) (x : Option (List ℕ)) (reply : Reply) → r ≡ Err e → reply ≡ reply_for (Halts e) → IsSized p new.arena.limits new.frames → Comes p called x x reply new
    ends e x reply is told sized =
        let first : called ≡ then_replies Undefined (stepped_by (Err e) (world new out) new.frames) (replies_for p fuel) = begun_as (stepped_by (Err e) (world new out) new.frames) (ap (λ (q : Result Unit Ended). stepped_by q (world new out) new.frames) is) in
        let same : called ≡ replies (world new out) (reply_by Undefined (end_of_run e)) = first ∙ then_is Undefined (world new out) (end_of_run e) (replies_for p fuel) in
        let here = replied (replies (world new out) (reply_by Undefined (end_of_run e))) reply (subst (IsReplyOf (reply_by Undefined (end_of_run e))) (sym told) (reply_is e)) (λ (some : IsSome x). append_none x) in
        subst (λ (q : Replied). Comes p q x x reply new) (sym same) (record { answer = here; leaves = λ f. record { heap = refl; started = refl; sized = sized } })
