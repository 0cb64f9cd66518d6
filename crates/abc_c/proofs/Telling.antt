-- What is told of a text, and what a call came to.
use Rattle.std.proofs.Common.{◌≡◌, ℕ, ℤ, List, ◌++◌, length, take, refl, sym, ap, ◌∙◌, subst, arith}
use Rattle.std.proofs.lemmas.List.{take_all}
use Rattle.std.specs.Prelude.{Bool, true, false, MatchResult, None, Some, Ok, Err}
use Rattle.std.specs.Io.KnownBytes.{append_known}
use Rattle.std.specs.declared.option.Option.{Option}
use Rattle.std.specs.declared.result.Result.{Result}
use Rattle.abc_base.specs.Hosts.{builtin_formulas}
use Rattle.abc_base.specs.Sinks.{GrowsByFront}
use Rattle.abc_base.specs.declared.status.Status.TheVariants as status
use Rattle.abc_machine.specs.Machines.{Opened}
use Rattle.abc_machine.specs.Texts.{told_text}
use Rattle.abc_machine.specs.declared.replies.PlainValue.TheVariants as values
use Rattle.abc_heap_values.specs.declared.values.Span.{Span}
use Rattle.abc_meaning.specs.Calls.{Call as MeantCall}
use Rattle.abc_meaning.specs.Exports.{export}
use Rattle.abc_meaning.specs.Openings.{setting}
use Rattle.abc_session.specs.Sessions.{AnswersIn}
use Rattle.abc_session.specs.declared.replies.SessionReply.{SessionReply}
use Rattle.abc_c.specs.Answered.{IsAnswered, IsDone, Tells, PutsText, PutsValue, meant_call}
use Rattle.abc_c.specs.Answered as told
use Rattle.abc_c.specs.Crossing.{CanBeMade, name_of_call, numbers_of, text_at, without}
use Rattle.abc_c.specs.declared.crossing.Answer.{Answer}
use Rattle.abc_c.specs.declared.crossing.Call.{Call}

-- ---- a text

known_is : (xs ys : List ℕ) → Some xs ≡ Some ys → xs ≡ ys
known_is xs ys e = cc

pub told_whole : (text before now : List ℕ) (a : Answer) → a ≡ text_at (length before) (length text) → Some now ≡ append_known (Some before) text → PutsText text before now a
told_whole text before now a is wrote = subst (PutsText text before now) (sym is) (told.whole (known_is now (before ++ text) wrote))

pub told_front : (text before now : List ℕ) (a : Answer) → a ≡ without status.WriteFault → GrowsByFront (Some before) (Some now) text → PutsText text before now a
told_front text before now a is front = subst (PutsText text before now) (sym is) (told.cut front)

-- the text of a span, which a session tells
pub told_span : (m : Opened) (s : Span) (text before now : List ℕ) (a : Answer) → text ≡ told_text m s → PutsText text before now a → PutsValue m (values.Text s) before now a
told_span m s text before now a is tells = subst (λ (bs : List ℕ). PutsText bs before now a) is tells

-- however writing went, a front of the piece was written
pub some_front : {T E : Type 0} (r : Result T E) (before now : Option (List ℕ)) (piece : List ℕ) → MatchResult r (λ _. now ≡ append_known before piece) (λ _. GrowsByFront before now piece) → GrowsByFront before now piece
some_front (Ok x) before now piece e = record { count = length piece; front = e ∙ ap (append_known before) (sym (take_all (length piece) piece (omega arith))) }
some_front (Err x) before now piece front = front

-- ---- a call

-- a test has one answer
pub not_both : (r : Bool) → r ≡ true → r ≡ false → ⊥
not_both r holds fails = let two : true ≡ false = sym holds ∙ fails in cc

pub done_as : (old new : Opened) (method : ℕ) (c : Call) (args : List ℤ) (before mid now : List ℕ) (reply : SessionReply) (a : Answer) → args ≡ numbers_of c
    → AnswersIn old new (record { method = method; args = args; fuel = c.fuel; formulas = builtin_formulas }) (Some before) (Some mid) reply → Tells new reply mid now a → IsDone old new method c before now a
done_as old new method c args before mid now reply a is answered tells = record {
  reply = reply;
  mid = mid;
  answers = subst (λ (ns : List ℤ). AnswersIn old new (record { method = method; args = ns; fuel = c.fuel; formulas = builtin_formulas }) (Some before) (Some mid) reply) is answered;
  told = tells;
}

pub unmade_as : (names : List ℕ) (m : Opened) (c : Call) (written : List ℕ) (a : Answer) → a ≡ without status.Usage → ¬ CanBeMade names c → IsAnswered names m m c written written a
unmade_as names m c written a is not = subst (IsAnswered names m m c written written) (sym is) (told.unmade not (record { same = refl; output = refl }))

pub unknown_as : (names : List ℕ) (m : Opened) (c : Call) (written : List ℕ) (a : Answer) → a ≡ without status.Refused → CanBeMade names c → export (setting m.linked builtin_formulas) (name_of_call names c) ≡ None
    → IsAnswered names m m c written written a
unknown_as names m c written a is can none = subst (IsAnswered names m m c written written) (sym is) (told.unknown can none (record { same = refl; output = refl }))
