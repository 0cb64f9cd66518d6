-- What calls come to follows from what the session answers to each.
use Rattle.std.proofs.Common.{◌≡◌, ◌≢◌, ℕ, ℤ, zero, suc, ◌+◌, ◌-◌, ◌≤◌, ◌<◌, List, [], ◌∷◌, ◌++◌, Some, None, Ok, Err, refl, sym, ap, ◌∙◌, subst, arith}
use Rattle.std.specs.Prelude.{IfErr, IsSome, false, true, pos}
use Rattle.std.specs.Io.KnownBytes.{append_known}
use Rattle.std.specs.declared.option.Option.{Option}
use Rattle.std.specs.declared.result.Result.{Result}
use Rattle.std.proofs.lemmas.List.{append-nil, append_assoc}
use Rattle.abc_base.proofs.Writing.{front_first}
use Rattle.abc_base.specs.Faults.{HasCause, Rose}
use Rattle.abc_base.specs.Hosts.{plain_arguments}
use Rattle.abc_base.specs.Sinks.{GrowsByFront, WritesAll}
use Rattle.abc_base.specs.declared.formula.Formula.{Formula}
use Rattle.abc_base.specs.declared.plain.Plain.{Plain}
use Rattle.abc_heap_values.specs.declared.values.Value.{Value}
use Rattle.abc_meaning.specs.Calls.{Call, EndsAs, Gives, Replied, Reply, answers_call, call_meaning, session, silent}
use Rattle.abc_meaning.specs.Meaning.{Meaning, Ran, TooSmall, meaning, ran}
use Rattle.abc_meaning.specs.Throwing as meant
use Rattle.abc_meaning.specs.World.{World}
use Rattle.abc_link_names.specs.Linked.{LinkedFile}
use Rattle.abc_machine.specs.declared.ends.End.{End}
use Rattle.abc_machine.specs.declared.ends.End.TheVariants as ends
use Rattle.abc_machine.specs.Ended.{HasRun, IsEndOf, RunsAs}
use Rattle.abc_machine.specs.Invoked.{AnswersCall, call_of}
use Rattle.abc_machine.specs.Machines.{IsReadyToCall, Opened}
use Rattle.abc_machine.specs.declared.replies.PlainValue.{PlainValue}
use Rattle.abc_machine.specs.Replied.{IsReplyOf, RepliesAs, TellsValue, plain_value}
use Rattle.abc_machine.specs.declared.replies.Reply as code
use Rattle.abc_machine.specs.declared.replies.Reply.TheVariants as replies
use Rattle.abc_session.specs.Sessions.{AnswersIn, HasCalled}
use Rattle.abc_session.specs.declared.replies.SessionReply.{SessionReply}
use Rattle.abc_session.specs.declared.replies.SessionReply.TheVariants as answers
use Rattle.abc_file_types.specs.declared.tables.Abc.{Abc}
use Rattle.abc_session.proofs.Pieces.{front_both, got_both, nothing}
use Rattle.abc_session.specs.Ticks.{with_output_before, calls_run, then_follows, then_goes, tick, ticks, ticks_run, value_line}
use Rattle.abc_session.specs.Told.{GoesOn, GoesOnToCall, TellsAs, Told, Tried, value_or_end}

-- ---- what was written before

after_nothing : (m : Meaning) → with_output_before [] m ≡ m
after_nothing (TooSmall limit) = refl
after_nothing (Ran more e) = refl

after_after : (xs ys : List ℕ) (m : Meaning) → with_output_before xs (with_output_before ys m) ≡ with_output_before (xs ++ ys) m
after_after xs ys (TooSmall limit) = refl
after_after xs ys (Ran more e) = ap (λ (l : List ℕ). Ran l e) (sym (append_assoc xs ys more))

pub runs_after : (m : Meaning) (xs : List ℕ) (old mid new : Option (List ℕ)) (end : End) → (IsSome old → mid ≡ append_known old xs) → RunsAs m mid new end → RunsAs (with_output_before xs m) old new end
runs_after m xs old mid new end got (RunsAs.ended more e x is more_got) = RunsAs.ended (xs ++ more) e x is (got_both old mid new xs more got more_got)
runs_after m xs old mid new end got (RunsAs.failed more e front) = RunsAs.failed (xs ++ more) e (front_both old mid new xs more got front)

-- something is written, and there is an end
pub record IsRun (m : Meaning) : Type 0 where
  pub wrote : List ℕ
  pub end : meant.End
  pub is : m ≡ Ran wrote end

run_later : (xs : List ℕ) (m : Meaning) → IsRun m → IsRun (with_output_before xs m)
run_later xs m r = record { wrote = xs ++ r.wrote; end = r.end; is = ap (with_output_before xs) r.is }

goes_run : (v : Abc) (w : World) (r : Reply) (m : Meaning) → IsRun m → IsRun (then_goes v w r m)
goes_run v w (Gives x) m r = run_later (w.wrote ++ value_line v w.heap (plain_value x)) m r
goes_run v w (EndsAs e) m r = record { wrote = w.wrote; end = e; is = refl }

pub calls_are_run : (v : Abc) (rs : List Replied) → IsRun (calls_run v rs)
calls_are_run v [] = record { wrote = []; end = meant.Done; is = refl }
calls_are_run v (r ∷ rs) = goes_run v r.world r.reply (calls_run v rs) (calls_are_run v rs)

pub fails_after : (xs : List ℕ) (m : Meaning) (old new : Option (List ℕ)) → IsRun m → (IsSome old → GrowsByFront old new xs) → RunsAs (with_output_before xs m) old new ends.WriteFault
fails_after xs m old new r front =
    subst (λ (x : Meaning). RunsAs x old new ends.WriteFault) (sym (ap (with_output_before xs) r.is)) (RunsAs.failed (xs ++ r.wrote) r.end (λ some. front_first old new xs r.wrote (front some)))

-- ---- one call

module _ (v : Abc) (r : Replied) (rest : List Replied) (old : Option (List ℕ)) where
  abbrev With : Reply → Option (List ℕ) → End → Type 0
  With reply new end = RunsAs (then_goes v r.world reply (calls_run v rest)) old new end

  call_ended : (new : Option (List ℕ)) (e : meant.End) (end : End) → r.reply ≡ EndsAs e → IsEndOf e end → (IsSome old → new ≡ append_known old r.world.wrote) → RunsAs (calls_run v (r ∷ rest)) old new end
  call_ended new e end is so got = subst (λ (x : Reply). With x new end) (sym is) (RunsAs.ended r.world.wrote e end so got)

  reply_failed : (new : Option (List ℕ)) (x : Reply) → (IsSome old → GrowsByFront old new r.world.wrote) → With x new ends.WriteFault
  reply_failed new (Gives x) front =
      let line = value_line v r.world.heap (plain_value x) in
      fails_after (r.world.wrote ++ line) (calls_run v rest) old new (calls_are_run v rest) (λ some. front_first old new r.world.wrote line (front some))
  reply_failed new (EndsAs e) front = RunsAs.failed r.world.wrote e front

  call_failed : (new : Option (List ℕ)) → (IsSome old → GrowsByFront old new r.world.wrote) → RunsAs (calls_run v (r ∷ rest)) old new ends.WriteFault
  call_failed new front = reply_failed new r.reply front

  line_failed : (mid new : Option (List ℕ)) (x : Value) → r.reply ≡ Gives x → (IsSome old → mid ≡ append_known old r.world.wrote) → (IsSome mid → GrowsByFront mid new (value_line v r.world.heap (plain_value x))) → RunsAs (calls_run v (r ∷ rest)) old new ends.WriteFault
  line_failed mid new x is got front =
      let line = value_line v r.world.heap (plain_value x) in
      subst (λ (y : Reply). With y new ends.WriteFault) (sym is) (fails_after (r.world.wrote ++ line) (calls_run v rest) old new (calls_are_run v rest) (front_both old mid new r.world.wrote line got front))

  told_end : (new : Option (List ℕ)) (e : meant.End) (x end : End) → r.reply ≡ EndsAs e → IsEndOf e x → x ≡ end → (IsSome old → new ≡ append_known old r.world.wrote) → RunsAs (calls_run v (r ∷ rest)) old new end
  told_end new e x end is so same got = subst (λ (y : End). RunsAs (calls_run v (r ∷ rest)) old new y) same (call_ended new e x is so got)

  reply_ends : (new : Option (List ℕ)) (reply : code.Reply) (end : End) → IsReplyOf r.reply reply → (IsSome old → new ≡ append_known old r.world.wrote) → value_or_end (answers.Reply reply) ≡ Err end → RunsAs (calls_run v (r ∷ rest)) old new end
  reply_ends new (replies.Value x) end is got e = absurd cc
  reply_ends new (replies.Uncaught t) end is got e = told_end new (meant.Uncaught t) (ends.Uncaught t) end is refl (let f : ends.Uncaught t ≡ end = cc in f) got
  reply_ends new (replies.Profile m i fault) end is got e = told_end new (meant.Profile m i fault) (ends.Profile m i fault) end is refl (let f : ends.Profile m i fault ≡ end = cc in f) got
  reply_ends new replies.FuelSpent end is got e = told_end new meant.FuelSpent ends.FuelSpent end is refl (let f : ends.FuelSpent ≡ end = cc in f) got
  reply_ends new (replies.Full limit) end is got e = told_end new (meant.Full limit) (ends.Full limit) end is refl (let f : ends.Full limit ≡ end = cc in f) got
  reply_ends new replies.WriteFault end is got e = absurd is

replied_ends : (v : Abc) (r : Replied) (rest : List Replied) (old new : Option (List ℕ)) (reply : code.Reply) (end : End) → RepliesAs r old new reply → value_or_end (answers.Reply reply) ≡ Err end → RunsAs (calls_run v (r ∷ rest)) old new end
replied_ends v r rest old new reply end (RepliesAs.replied x rep is got) e = reply_ends v x rest old new rep end is got e
replied_ends v r rest old new reply end (RepliesAs.failed x front) e =
    let f : ends.WriteFault ≡ end = cc in
    subst (λ (y : End). RunsAs (calls_run v (x ∷ rest)) old new y) f (call_failed v x rest old new front)

replied_value : (r : Replied) (old new : Option (List ℕ)) (reply : code.Reply) (value : PlainValue) → reply ≡ replies.Value value → RepliesAs r old new reply → TellsValue r.reply value × (IsSome old → new ≡ append_known old r.world.wrote)
replied_value r old new reply value e (RepliesAs.replied x rep is got) = (subst (IsReplyOf x.reply) e is, got)
replied_value r old new reply value e (RepliesAs.failed x front) = absurd cc

-- ---- what the session answers

answer_value : (answer : SessionReply) (value : PlainValue) → value_or_end answer ≡ Ok value → answer ≡ answers.Reply (replies.Value value)
answer_value (answers.Reply (replies.Value x)) value e = let f : x ≡ value = cc in ap (λ (y : PlainValue). answers.Reply (replies.Value y)) f
answer_value (answers.Reply (replies.Uncaught t)) value e = absurd cc
answer_value (answers.Reply (replies.Profile m i fault)) value e = absurd cc
answer_value (answers.Reply replies.FuelSpent) value e = absurd cc
answer_value (answers.Reply (replies.Full limit)) value e = absurd cc
answer_value (answers.Reply replies.WriteFault) value e = absurd cc
answer_value answers.NotReady value e = absurd cc
answer_value answers.Closed value e = absurd cc

-- a call with one number is one of these
pub as_tick : (old new : Opened) (method fuel : ℕ) (fs : List Formula) (number : ℕ) (args : Plain) (before now : Option (List ℕ)) (answer : SessionReply) → plain_arguments args ≡ pos number ∷ [] → AnswersIn old new (call_of method args fuel fs) before now answer
    → AnswersIn old new (tick method fuel fs number) before now answer
as_tick old new method fuel fs number args before now answer e a = subst (λ (x : List ℤ). AnswersIn old new (record { method = method; args = x; fuel = fuel; formulas = fs }) before now answer) e a

module _ (old new : Opened) (c : Call) (ready : IsReadyToCall old) where
  abbrev r : Replied
  r = answers_call old.linked old.world c

  pub answer_ends : (before now : Option (List ℕ)) (answer : SessionReply) (end : End) → AnswersIn old new c before now answer → value_or_end answer ≡ Err end → (rest : List Replied) → RunsAs (calls_run old.linked.file (r ∷ rest)) before now end
  answer_ends before now (answers.Reply reply) end a e rest = replied_ends old.linked.file r rest before now reply end a.answers.replies e
  answer_ends before now answers.NotReady end a e rest = absurd (a.unready ready.done)
  answer_ends before now answers.Closed end a e rest = let f : true ≡ false = sym a.closed ∙ ready.still in absurd cc

  -- a value was given
  module _ (before mid : Option (List ℕ)) (answer : SessionReply) (value : PlainValue) (a : AnswersIn old new c before mid answer) (e : value_or_end answer ≡ Ok value) where
    given : AnswersCall old new c before mid (replies.Value value)
    given = (subst (λ (x : SessionReply). AnswersIn old new c before mid x) (answer_value answer value e) a).answers

    tells : TellsValue r.reply value × (IsSome before → mid ≡ append_known before r.world.wrote)
    tells = replied_value r before mid (replies.Value value) value refl given.replies

    left : new.world ≡ silent r.world
    left = given.world (λ h. cc)

    -- the line that is written is the line of the value
    line_is : value_line new.linked.file new.world.heap value ≡ value_line old.linked.file r.world.heap (plain_value tells.0.value)
    line_is =
        ap (λ (x : LinkedFile). value_line x.file new.world.heap value) given.linked
        ∙ ap (λ (w : World). value_line old.linked.file w.heap value) left
        ∙ ap (value_line old.linked.file r.world.heap) (sym tells.0.told)

    is_told : (now : Option (List ℕ)) → (IsSome mid → now ≡ append_known mid (value_line new.linked.file new.world.heap value)) → Told old.linked.file r before now
    is_told now wrote = record {
      value = tells.0.value;
      gives = tells.0.gives;
      sink = got_both before mid now r.world.wrote (value_line old.linked.file r.world.heap (plain_value tells.0.value)) tells.1
          (subst (λ (l : List ℕ). IsSome mid → now ≡ append_known mid l) line_is wrote);
    }

    goes_on : GoesOn old new r
    goes_on = record {
      ready = record { done = given.ended ∙ ready.done; still = given.closed };
      linked = given.linked;
      names = given.names (λ h. cc);
      world = left;
    }

    not_told : (now : Option (List ℕ)) (rest : List Replied) → (IsSome mid → GrowsByFront mid now (value_line new.linked.file new.world.heap value)) → RunsAs (calls_run old.linked.file (r ∷ rest)) before now ends.WriteFault
    not_told now rest front =
        line_failed old.linked.file r rest before mid now tells.0.value tells.0.gives tells.1
        (subst (λ (l : List ℕ). IsSome mid → GrowsByFront mid now l) line_is front)

    -- its line was written, or not all of it
    pub told_as : (now : Option (List ℕ)) (result : Result Unit End) → WritesAll mid now result (value_line new.linked.file new.world.heap value) → IfErr result (λ (end : End). end ≡ ends.WriteFault) → TellsAs old.linked.file r before now result
    told_as now (Ok u) wrote fault = is_told now wrote
    told_as now (Err end) wrote fault = λ rest. subst (λ (x : End). RunsAs (calls_run old.linked.file (r ∷ rest)) before now x) (sym fault) (not_told now rest wrote)

    pub goes_on_as : (result : Result Unit End) → GoesOnToCall old new r result
    goes_on_as (Ok u) = goes_on
    goes_on_as (Err end) = tt

  pub stays_linked : (before now : Option (List ℕ)) (answer : SessionReply) → AnswersIn old new c before now answer → new.linked ≡ old.linked
  stays_linked before now (answers.Reply reply) a = a.answers.linked
  stays_linked before now answers.NotReady a = ap (λ (m : Opened). m.linked) a.rests.same
  stays_linked before now answers.Closed a = ap (λ (m : Opened). m.linked) a.rests.same

-- a failed write is told as one
answer_fault : (answer : SessionReply) → value_or_end answer ≡ Err ends.WriteFault → (old new : Opened) (c : Call) (before now : Option (List ℕ)) → IsReadyToCall old → AnswersIn old new c before now answer → answer ≡ answers.Reply replies.WriteFault
answer_fault (answers.Reply (replies.Value x)) e old new c before now ready a = absurd cc
answer_fault (answers.Reply (replies.Uncaught t)) e old new c before now ready a = absurd cc
answer_fault (answers.Reply (replies.Profile m i fault)) e old new c before now ready a = absurd cc
answer_fault (answers.Reply replies.FuelSpent) e old new c before now ready a = absurd cc
answer_fault (answers.Reply (replies.Full limit)) e old new c before now ready a = absurd cc
answer_fault (answers.Reply replies.WriteFault) e old new c before now ready a = refl
answer_fault answers.NotReady e old new c before now ready a = absurd (a.unready ready.done)
answer_fault answers.Closed e old new c before now ready a = let f : true ≡ false = sym a.closed ∙ ready.still in absurd cc

pub tried_end : (old new : Opened) (c : Call) (before now : Option (List ℕ)) (n k : ℕ) (answer : SessionReply) (end : End) → IsReadyToCall old → AnswersIn old new c before now answer → HasCalled n k answer → value_or_end answer ≡ Err end → Tried n k (Err end)
tried_end old new c before now n k answer end ready a h e = record {
  later = h.later;
  failed = λ f. let g : end ≡ ends.WriteFault = cc in h.failed (answer_fault answer (e ∙ ap (λ (x : End). Err x) g) old new c before now ready a);
}

pub tried_told : (n m k : ℕ) (answer : SessionReply) (result : Result Unit End) → HasCalled n m answer → HasCause m k result → Tried n k result
tried_told n m k answer (Ok u) h c = let first = h.later in let second = c.later in record { later = omega (arith, first, second); failed = λ f. absurd cc }
tried_told n m k answer (Err end) h c = let first = h.later in let second = c.later in let rose = c.failed in record { later = omega (arith, first, second); failed = λ f. omega (arith, first, rose) }

-- ---- calls one after the other

-- that nothing is written yet doesn't matter
silent_call : (l : LinkedFile) (w : World) (c : Call) → answers_call l (silent w) c ≡ answers_call l w c
unfolding call_meaning
silent_call l w c = refl

silent_session : (l : LinkedFile) (w : World) (cs : List Call) → session l (silent w) cs ≡ session l w cs
silent_session l w [] = refl
silent_session l w (c ∷ cs) = ap (λ (r : Replied). r ∷ session l r.world cs) (silent_call l w c)

pub kept_session : (l : LinkedFile) (m w : World) (cs : List Call) → m ≡ silent w → session l m cs ≡ session l w cs
kept_session l m w cs e = ap (λ (x : World). session l x cs) e ∙ silent_session l w cs

module _ (first : Opened) (method fuel : ℕ) (fs : List Formula) (times : ℕ) where
  abbrev v : Abc
  v = first.linked.file

  abbrev left_at : World → (number left : ℕ) → Meaning
  left_at w number left = calls_run v (session first.linked w (ticks method fuel fs number left))

  abbrev call : World → ℕ → Replied
  call w number = answers_call first.linked w (tick method fuel fs number)

  -- the calls up to this number were made: what was written, and what is left to do from there
  pub record AreCalled (m : Opened) (number : ℕ) (before now : Option (List ℕ)) : Type 0 where
    pub wrote : List ℕ
    pub few : number ≤ times
    pub goes : left_at first.world 0 times ≡ with_output_before wrote (left_at m.world number (times - number))
    pub sink : IsSome before → now ≡ append_known before wrote
    pub ready : IsReadyToCall m
    pub linked : m.linked ≡ first.linked
    pub names : m.names ≡ first.names

  pub none_called : (before : Option (List ℕ)) → IsReadyToCall first → AreCalled first 0 before before
  none_called before ready = record {
    wrote = [];
    few = omega arith;
    goes = let all : times ≡ times - 0 = omega arith in ap (left_at first.world 0) all ∙ sym (after_nothing (left_at first.world 0 (times - 0)));
    sink = nothing before;
    ready = ready;
    linked = refl;
    names = refl;
  }

  -- one more call is left
  one_left : (w : World) (number : ℕ) → number < times → left_at w number (times - number) ≡ then_goes v (call w number).world (call w number).reply (left_at (call w number).world (number + 1) (times - (number + 1)))
  one_left w number low = let one : times - number ≡ suc (times - (number + 1)) = omega (arith, low) in ap (left_at w number) one

  pub one_called : (m n : Opened) (number : ℕ) (before now next : Option (List ℕ)) → number < times → AreCalled m number before now → Told m.linked.file (answers_call m.linked m.world (tick method fuel fs number)) now next
      → GoesOn m n (answers_call m.linked m.world (tick method fuel fs number)) → AreCalled n (number + 1) before next
  one_called m n number before now next low a told g =
      let t = subst (λ (l : LinkedFile). Told l.file (answers_call l m.world (tick method fuel fs number)) now next) a.linked told in
      let world = g.world ∙ ap (λ (l : LinkedFile). silent (answers_call l m.world (tick method fuel fs number)).world) a.linked in
      let r = call m.world number in
      let line = value_line v r.world.heap (plain_value t.value) in
      let more = left_at r.world (number + 1) (times - (number + 1)) in
      record {
        wrote = a.wrote ++ (r.world.wrote ++ line);
        few = omega (arith, low);
        goes =
            a.goes ∙ ap (with_output_before a.wrote) (one_left m.world number low ∙ ap (λ (x : Reply). then_goes v r.world x more) t.gives) ∙ after_after a.wrote (r.world.wrote ++ line) more
            ∙ ap (λ (rs : List Replied). with_output_before (a.wrote ++ (r.world.wrote ++ line)) (calls_run v rs)) (sym (kept_session first.linked n.world r.world (ticks method fuel fs (number + 1) (times - (number + 1))) world));
        sink = got_both before now next a.wrote (r.world.wrote ++ line) a.sink t.sink;
        ready = g.ready;
        linked = g.linked ∙ a.linked;
        names = g.names ∙ a.names;
      }

  pub all_called : (m : Opened) (number : ℕ) (before now : Option (List ℕ)) → number ≡ times → AreCalled m number before now → RunsAs (left_at first.world 0 times) before now ends.Done
  all_called m number before now all a =
      let none : times - number ≡ 0 = omega (arith, all) in
      subst (λ (x : Meaning). RunsAs x before now ends.Done) (sym (a.goes ∙ ap (λ (k : ℕ). with_output_before a.wrote (left_at m.world number k)) none ∙ ap (λ (l : List ℕ). Ran l meant.Done) (append-nil a.wrote)))
      (RunsAs.ended a.wrote meant.Done ends.Done refl a.sink)

  pub call_stops : (m : Opened) (number : ℕ) (before now next : Option (List ℕ)) (end : End) → number < times → AreCalled m number before now
      → ((rest : List Replied) → RunsAs (calls_run m.linked.file (answers_call m.linked m.world (tick method fuel fs number) ∷ rest)) now next end) → RunsAs (left_at first.world 0 times) before next end
  call_stops m number before now next end low a stops =
      let r = call m.world number in
      let rest = session first.linked r.world (ticks method fuel fs (number + 1) (times - (number + 1))) in
      let s = subst (λ (l : LinkedFile). RunsAs (calls_run l.file (answers_call l m.world (tick method fuel fs number) ∷ rest)) now next end) a.linked (stops rest) in
      subst (λ (x : Meaning). RunsAs x before next end) (sym (a.goes ∙ ap (with_output_before a.wrote) (one_left m.world number low))) (runs_after (calls_run v (r ∷ rest)) a.wrote before now next end a.sink s)
