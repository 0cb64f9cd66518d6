-- A whole life follows its meaning, and its texts stay.
use Rattle.std.proofs.Common.{◌≡◌, ◌≢◌, ℕ, List, [], ◌∷◌, Bool, true, false, map, refl, sym, ap, ◌∙◌, subst}
use Rattle.std.proofs.lemmas.List.Elements.{All-cons, All-nil}
use Rattle.std.specs.Prelude.{All, Some}
use Rattle.std.specs.declared.option.Option.{Option}
use Rattle.abc_base.specs.declared.formula.Formula.{Formula}
use Rattle.abc_heap_store.specs.Texts.{text_of}
use Rattle.abc_heap_store.specs.declared.records.Limits.{Limits}
use Rattle.abc_heap_values.specs.declared.values.Span.{Span}
use Rattle.abc_link_names.specs.Linked.{LinkedFile}
use Rattle.abc_machine.specs.Ended.{RunsAs}
use Rattle.abc_machine.specs.Invoked.{AnswersCall}
use Rattle.abc_machine.specs.Machines.{IsReadyToCall, Opened, world_run as world_of_run}
use Rattle.abc_machine.specs.OneRun.{meaning_of}
use Rattle.abc_machine.specs.Replied.{is_write_fault}
use Rattle.abc_machine.specs.Texts.{CanTell, KeepsTexts, told_text}
use Rattle.abc_machine.specs.declared.ends.End.{End}
use Rattle.abc_machine.specs.declared.ends.End.TheVariants as ends
use Rattle.abc_machine.specs.declared.replies.PlainValue.TheVariants.{Text}
use Rattle.abc_machine.specs.declared.replies.Reply.{Reply}
use Rattle.abc_machine.specs.declared.replies.Reply.TheVariants as replies
use Rattle.abc_meaning.specs.Calls.{Call, Replied, answers_call, session}
use Rattle.abc_meaning.specs.World.{World}
use Rattle.abc_session.proofs.SessionFollowing.{IsShut, calls_follow, closed_on, is_fault, next_is, no_fault, session_silent}
use Rattle.abc_session.specs.Lives.{IsLived, Life, LivesFollow, TellTexts, TellsTextInTheEnd, replies_meant, world_of_start}
use Rattle.abc_session.specs.Sessions.{AnswersIn, AreCallsMade, Follow, IsCallMade, Made}
use Rattle.abc_session.specs.Sessions as made
use Rattle.abc_session.specs.declared.replies.SessionReply.{SessionReply}
use Rattle.abc_session.specs.declared.replies.SessionReply.TheVariants as answers

-- ---- a session that no start made ready does nothing

idle_on : (old new : Opened) (c : Call) (x z : Option (List ℕ)) (reply : SessionReply) → old.ended ≢ Some ends.Done → AnswersIn old new c x z reply → (reply ≡ answers.NotReady) × (new ≡ old)
idle_on old new c x z (answers.Reply reply) not a = absurd (not a.ready.done)
idle_on old new c x z answers.NotReady not a = (refl, a.rests.same)
idle_on old new c x z answers.Closed not a = absurd (not a.done)

stay_idle : (m last : Opened) (ds : List Made) → m.ended ≢ Some ends.Done → AreCallsMade m ds last → All (λ d. d.reply ≡ answers.NotReady) ds
stay_idle m last [] not a = All-nil (λ (e : Made). e.reply ≡ answers.NotReady)
stay_idle m last (d ∷ ds) not (made.more old new end e es first rest) =
    let x = idle_on old new e.call e.before e.now e.reply not first.answers in
    All-cons (λ (a : Made). a.reply ≡ answers.NotReady) e es x.0 (stay_idle new end es (λ f. not (ap (λ (o : Opened). o.ended) (sym x.1) ∙ f)) rest)

-- ---- texts stay

keeps_on : (a b c : Opened) → KeepsTexts a b → KeepsTexts b c → KeepsTexts a c
keeps_on a b c p q = record { there = λ s t. q.there s (p.there s t); same = λ s t. q.same s (p.there s t) ∙ p.same s t }

kept_to : (m last : Opened) (ds : List Made) → AreCallsMade m ds last → KeepsTexts m last
kept_to m last ds (made.nothing k) = record { there = λ s t. t; same = λ s t. refl }
kept_to m last ds (made.more old new end e es first rest) = keeps_on old new end first.texts (kept_to new end es rest)

-- a closed session gives none
no_texts : (l : LinkedFile) (m last : Opened) (rs : List Replied) (ds : List Made) → IsShut m → AreCallsMade m ds last → (end : Opened) → TellTexts l rs ds end
no_texts l m last [] ds shut a end = tt
no_texts l m last (r ∷ rs) [] shut a end = tt
no_texts l m last (r ∷ rs) (d ∷ ds) shut (made.more old new final e es first rest) end =
    let x = closed_on old new e.call e.before e.now e.reply shut first.answers in
    (λ s is. absurd (let two : answers.Closed ≡ answers.Reply (replies.Value (Text s)) = sym x.0 ∙ is in cc), no_texts l new final rs es x.1 rest end)

-- one that a call gave
gave_text : (old new last : Opened) (d : Made) (reply : Reply) → AnswersCall old new d.call d.before d.now reply → reply ≢ replies.WriteFault → IsCallMade old new d → KeepsTexts new last → TellsTextInTheEnd old.linked (answers_call old.linked old.world d.call) d last
gave_text old new last d reply a f one kept s is =
    let there = one.text s is in
    let here : told_text new s ≡ text_of old.linked.file.strings (answers_call old.linked old.world d.call).world.heap s =
    ap (λ (l : LinkedFile). text_of l.file.strings new.world.heap s) a.linked ∙ ap (λ (w : World). text_of old.linked.file.strings w.heap s) (a.world f) in
    (kept.there s there, kept.same s there ∙ here)

-- by what was answered first
texts_on : (old new last : Opened) (d : Made) (ds : List Made) (reply : Reply) (shut : Bool) → is_write_fault reply ≡ shut → d.reply ≡ answers.Reply reply → IsReadyToCall old → AnswersCall old new d.call d.before d.now reply → IsCallMade old new d → AreCallsMade new ds last → (IsReadyToCall new → TellTexts new.linked (session new.linked new.world (map (λ (e : Made). e.call) ds)) ds last)
    → TellsTextInTheEnd old.linked (answers_call old.linked old.world d.call) d last × TellTexts old.linked (session old.linked (answers_call old.linked old.world d.call).world (map (λ (e : Made). e.call) ds)) ds last
texts_on old new last d ds reply true fault told ready a one rest more =
    let failed : reply ≡ replies.WriteFault = is_fault reply fault in
    let shut : IsShut new = record { done = a.ended ∙ ready.done; closed = a.closed ∙ fault } in (
      λ s is. absurd (let two : answers.Reply replies.WriteFault ≡ answers.Reply (replies.Value (Text s)) = ap (λ (x : Reply). answers.Reply x) (sym failed) ∙ sym told ∙ is in cc),
      no_texts old.linked new last (session old.linked (answers_call old.linked old.world d.call).world (map (λ (e : Made). e.call) ds)) ds shut rest last,
    )
texts_on old new last d ds reply false fault told ready a one rest more =
    let wrote : reply ≢ replies.WriteFault = no_fault reply fault in
    let here : IsReadyToCall new = record { done = a.ended ∙ ready.done; still = a.closed ∙ fault } in
    let then = subst (λ (rs : List Replied). TellTexts new.linked rs ds last) (next_is old new d reply a wrote (map (λ (e : Made). e.call) ds)) (more here) in
    (gave_text old new last d reply a wrote one (kept_to new last ds rest), subst (λ (l : LinkedFile). TellTexts l (session old.linked (answers_call old.linked old.world d.call).world (map (λ (e : Made). e.call) ds)) ds last) a.linked then)

texts_first : (old new last : Opened) (d : Made) (ds : List Made) (reply : SessionReply) → d.reply ≡ reply → IsReadyToCall old → AnswersIn old new d.call d.before d.now reply → IsCallMade old new d → AreCallsMade new ds last → (IsReadyToCall new → TellTexts new.linked (session new.linked new.world (map (λ (e : Made). e.call) ds)) ds last)
    → TellsTextInTheEnd old.linked (answers_call old.linked old.world d.call) d last × TellTexts old.linked (session old.linked (answers_call old.linked old.world d.call).world (map (λ (e : Made). e.call) ds)) ds last
texts_first old new last d ds (answers.Reply reply) told ready a one rest more = texts_on old new last d ds reply (is_write_fault reply) refl told ready a.answers one rest more
texts_first old new last d ds answers.NotReady told ready a one rest more = absurd (a.unready ready.done)
texts_first old new last d ds answers.Closed told ready a one rest more = absurd (let two : true ≡ false = sym a.closed ∙ ready.still in cc)

texts_stay : (m last : Opened) (ds : List Made) → IsReadyToCall m → AreCallsMade m ds last → TellTexts m.linked (session m.linked m.world (map (λ (e : Made). e.call) ds)) ds last
texts_stay m last [] ready a = tt
texts_stay m last (d ∷ ds) ready (made.more old new end e es first rest) = texts_first old new end e es e.reply refl ready first.answers first rest (λ next. texts_stay new end es next rest)

-- ---- a life

module _ (l : LinkedFile) (formulas : List Formula) (limits : Limits) (life : Life) (lived : IsLived l formulas limits life) where
  file_is : life.started.linked ≡ l
  file_is = lived.ended.linked ∙ ap (λ (o : Opened). o.linked) lived.opened.is

  not_failed : life.end ≡ ends.Done → life.end ≢ ends.WriteFault
  not_failed done f = absurd (let two : ends.Done ≡ ends.WriteFault = sym done ∙ f in cc)

  ready : life.end ≡ ends.Done → IsReadyToCall life.started
  ready done = record { done = lived.ended.ended ∙ ap (λ (e : End). Some e) done; still = lived.ended.closed ∙ ap (λ (o : Opened). o.closed) lived.opened.is }

  abbrev calls : List Call
  calls = map (λ (d : Made). d.call) life.calls

  -- what the calls mean, from the session that the start left
  meant_is : life.end ≡ ends.Done → session life.started.linked life.started.world calls ≡ replies_meant l limits life
  meant_is done =
      ap (λ (k : LinkedFile). session k life.started.world calls) file_is
      ∙ ap (λ (w : World). session l w calls) (lived.leaves.world (not_failed done))
      ∙ session_silent l (world_of_run life.opened life.formulas life.fuel) calls
      ∙ ap (λ (o : Opened). session l (world_of_run o life.formulas life.fuel) calls) lived.opened.is

  told : life.end ≡ ends.Done → TellTexts l (replies_meant l limits life) life.calls life.last
  told done =
      let here = texts_stay life.started life.last life.calls (ready done) lived.calls in
      subst (λ (rs : List Replied). TellTexts l rs life.calls life.last) (meant_is done) (subst (λ (k : LinkedFile). TellTexts k (session life.started.linked life.started.world calls) life.calls life.last) file_is here)

  follow : life.end ≡ ends.Done → Follow (replies_meant l limits life) life.calls
  follow done = subst (λ (rs : List Replied). Follow rs life.calls) (meant_is done) (calls_follow life.started life.last life.calls (ready done) lived.calls)

  not_done : life.end ≢ ends.Done → life.started.ended ≢ Some ends.Done
  not_done not f = not (let same : Some life.end ≡ Some ends.Done = sym lived.ended.ended ∙ f in cc)

pub lives_follow : LivesFollow
lives_follow l formulas limits life lived = record {
  start = subst (λ (o : Opened). RunsAs (meaning_of o life.formulas life.fuel) life.before life.now life.end) lived.opened.is lived.runs;
  calls = follow l formulas limits life lived;
  texts = told l formulas limits life lived;
  idle = λ not. stay_idle life.started life.last life.calls (not_done l formulas limits life lived not) lived.calls;
}
