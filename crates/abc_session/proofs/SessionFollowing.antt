-- Calls one after the other.
use Rattle.std.proofs.Common.{◌≡◌, ◌≢◌, ℕ, List, [], ◌∷◌, Bool, true, false, map, refl, sym, ap, ◌∙◌, subst}
use Rattle.std.proofs.lemmas.List.Elements.{All-cons, All-nil}
use Rattle.std.specs.Prelude.{All, Some}
use Rattle.std.specs.declared.option.Option.{Option}
use Rattle.abc_meaning.specs.Calls.{Call, Replied, answers_call, call_meaning, session, silent}
use Rattle.abc_machine.specs.Invoked.{AnswersCall}
use Rattle.abc_machine.specs.Machines.{IsReadyToCall, Opened}
use Rattle.abc_machine.specs.Replied.{RepliesAs, is_write_fault}
use Rattle.abc_machine.specs.declared.ends.End.TheVariants.{Done}
use Rattle.abc_machine.specs.declared.replies.Reply.{Reply}
use Rattle.abc_machine.specs.declared.replies.Reply.TheVariants as replies
use Rattle.abc_link_names.specs.Linked.{LinkedFile}
use Rattle.abc_meaning.specs.World.{World}
use Rattle.abc_session.specs.Sessions.{AnswersIn, AreCallsMade, CallsFollow, Follow, Made}
use Rattle.abc_session.specs.Sessions as made
use Rattle.abc_session.specs.declared.replies.SessionReply.{SessionReply}
use Rattle.abc_session.specs.declared.replies.SessionReply.TheVariants as answers

-- what was written before doesn't matter to a call
call_silent : (l : LinkedFile) (w : World) (c : Call) → answers_call l (silent w) c ≡ answers_call l w c
unfolding call_meaning
call_silent l w c = refl

pub session_silent : (l : LinkedFile) (w : World) (cs : List Call) → session l (silent w) cs ≡ session l w cs
session_silent l w [] = refl
session_silent l w (c ∷ cs) = ap (λ (r : Replied). r ∷ session l r.world cs) (call_silent l w c)

-- ---- a closed session

pub record IsShut (m : Opened) : Type 0 where
  pub done : m.ended ≡ Some Done
  pub closed : m.closed ≡ true

pub closed_on : (old new : Opened) (c : Call) (x z : Option (List ℕ)) (reply : SessionReply) → IsShut old → AnswersIn old new c x z reply → (reply ≡ answers.Closed) × IsShut new
closed_on old new c x z (answers.Reply reply) shut a = absurd (let two : true ≡ false = sym shut.closed ∙ a.ready.still in cc)
closed_on old new c x z answers.NotReady shut a = absurd (a.unready shut.done)
closed_on old new c x z answers.Closed shut a = (refl, subst IsShut (sym a.rests.same) shut)

stay_closed : (m last : Opened) (ds : List Made) → IsShut m → AreCallsMade m ds last → All (λ d. d.reply ≡ answers.Closed) ds
stay_closed m last [] shut a = All-nil (λ (e : Made). e.reply ≡ answers.Closed)
stay_closed m last (d ∷ ds) shut (made.more old new end e es first rest) = (let x = closed_on old new e.call e.before e.now e.reply shut first.answers in All-cons (λ (a : Made). a.reply ≡ answers.Closed) e es x.0 (stay_closed new end es x.1 rest))

-- ---- a session that is ready

pub is_fault : (reply : Reply) → is_write_fault reply ≡ true → reply ≡ replies.WriteFault
is_fault (replies.Value v) e = absurd cc
is_fault (replies.Uncaught thrown) e = absurd cc
is_fault (replies.Profile method index fault) e = absurd cc
is_fault replies.FuelSpent e = absurd cc
is_fault (replies.Full limit) e = absurd cc
is_fault replies.WriteFault e = refl

pub no_fault : (reply : Reply) → is_write_fault reply ≡ false → reply ≢ replies.WriteFault
no_fault reply e f = absurd (let two : true ≡ false = sym (ap is_write_fault f) ∙ e in cc)

-- the session after a call that was answered so
pub next_is : (old new : Opened) (d : Made) (reply : Reply) → AnswersCall old new d.call d.before d.now reply → reply ≢ replies.WriteFault → (ds : List Call) → session new.linked new.world ds ≡ session old.linked (answers_call old.linked old.world d.call).world ds
next_is old new d reply a f ds =
    ap (λ (l : LinkedFile). session l new.world ds) a.linked ∙ ap (λ (w : World). session old.linked w ds) (a.world f) ∙ session_silent old.linked (answers_call old.linked old.world d.call).world ds

-- ---- the replies of a session that is ready are those of the calls' meanings

-- by what the rest comes to
follow_on : (old new last : Opened) (d : Made) (ds : List Made) (reply : Reply) (shut : Bool) → d.reply ≡ answers.Reply reply → is_write_fault reply ≡ shut → IsReadyToCall old → AnswersCall old new d.call d.before d.now reply → AreCallsMade new ds last → (IsReadyToCall new → Follow (session new.linked new.world (map (λ (e : Made). e.call) ds)) ds) → Follow (answers_call old.linked old.world d.call ∷ session old.linked (answers_call old.linked old.world d.call).world (map (λ (e : Made). e.call) ds)) (d ∷ ds)
follow_on old new last d ds reply true told fault ready a rest follows =
    let failed : reply ≡ replies.WriteFault = is_fault reply fault in
    let shut : IsShut new = record { done = a.ended ∙ ready.done; closed = a.closed ∙ fault } in
    made.failed (answers_call old.linked old.world d.call) (session old.linked (answers_call old.linked old.world d.call).world (map (λ (e : Made). e.call) ds)) d ds (told ∙ ap (λ (x : Reply). answers.Reply x) failed) (subst (λ (x : Reply). RepliesAs (answers_call old.linked old.world d.call) d.before d.now x) failed a.replies) (stay_closed new last ds shut rest)
follow_on old new last d ds reply false told fault ready a rest follows =
    let wrote : reply ≢ replies.WriteFault = no_fault reply fault in
    let here : IsReadyToCall new = record { done = a.ended ∙ ready.done; still = a.closed ∙ fault } in
    let more = subst (λ (rs : List Replied). Follow rs ds) (next_is old new d reply a wrote (map (λ (e : Made). e.call) ds)) (follows here) in
    made.replied (answers_call old.linked old.world d.call) (session old.linked (answers_call old.linked old.world d.call).world (map (λ (e : Made). e.call) ds)) d ds reply told wrote a.replies more

-- by what was answered first
follow_first : (old new last : Opened) (d : Made) (ds : List Made) (reply : SessionReply) → d.reply ≡ reply → IsReadyToCall old → AnswersIn old new d.call d.before d.now reply → AreCallsMade new ds last → (IsReadyToCall new → Follow (session new.linked new.world (map (λ (e : Made). e.call) ds)) ds) → Follow (answers_call old.linked old.world d.call ∷ session old.linked (answers_call old.linked old.world d.call).world (map (λ (e : Made). e.call) ds)) (d ∷ ds)
follow_first old new last d ds (answers.Reply reply) told ready a rest follows = follow_on old new last d ds reply (is_write_fault reply) told refl ready a.answers rest follows
follow_first old new last d ds answers.NotReady told ready a rest follows = absurd (a.unready ready.done)
follow_first old new last d ds answers.Closed told ready a rest follows = absurd (let two : true ≡ false = sym a.closed ∙ ready.still in cc)

pub calls_follow : CallsFollow
calls_follow m last [] ready a = made.none
calls_follow m last (d ∷ ds) ready (made.more old new end e es first rest) = follow_first old new end e es e.reply refl ready first.answers rest (λ next. calls_follow new end es next rest)
