-- A session stays one that may be used beside a host of the same formulas: from its opening on, and whatever it answers.
use Rattle.std.proofs.Common.{◌≡◌, ℕ, List, refl, sym, ap, ◌∙◌, subst}
use Rattle.std.proofs.lemmas.Option.{none-some}
use Rattle.std.specs.Prelude.{◌≢◌, None, Some, true, false}
use Rattle.std.specs.declared.option.Option.{Option}
use Rattle.abc_base.specs.declared.formula.Formula.{Formula}
use Rattle.abc_machine.specs.Invoked.{AnswersCall}
use Rattle.abc_machine.specs.Machines.{IsReadyToCall, Opened}
use Rattle.abc_machine.specs.OneRun.{HasEnded, LeavesRun}
use Rattle.abc_machine.specs.Replied.{is_write_fault}
use Rattle.abc_machine.specs.declared.ends.End.{End}
use Rattle.abc_machine.specs.declared.ends.End.TheVariants as ends
use Rattle.abc_machine.specs.declared.replies.Reply.{Reply}
use Rattle.abc_machine.specs.declared.replies.Reply.TheVariants.{WriteFault}
use Rattle.abc_meaning.specs.Calls.{Call}
use Rattle.abc_session.specs.Beside.{CalledBeside, IsBeside, OpenedBeside, StartedBeside}
use Rattle.abc_session.specs.declared.replies.SessionReply.TheVariants as answers

pub opened_beside : OpenedBeside
opened_beside l formulas limits m opened =
    let same = ap (λ (o : Opened). o.names) opened.is in
    record { new = λ e. sym same; ready = λ e. sym same }

-- ---- a start

is_done : (e : End) → Some e ≡ Some ends.Done → e ≢ ends.WriteFault
is_done ends.Done done is = absurd cc
is_done (ends.Uncaught thrown) done is = absurd cc
is_done (ends.Profile method index fault) done is = absurd cc
is_done ends.FuelSpent done is = absurd cc
is_done (ends.Full limit) done is = absurd cc
is_done ends.WriteFault done is = absurd cc

pub started_beside : StartedBeside
started_beside old new end fuel host formulas has leaves again beside = go old.ended refl
  where
    go : (was : Option End) → old.ended ≡ was → IsBeside new formulas
    go (Some e) was = subst (λ (m : Opened). IsBeside m formulas) (sym (again e was)) beside
    go None was = record {
      new = λ is. absurd (none-some end (sym is ∙ has.ended));
      ready = λ ready. beside.new was ∙ sym ((leaves was).names (is_done end (sym has.ended ∙ ready.done)));
    }

-- ---- a call

not_failed : (reply : Reply) → is_write_fault reply ≡ false → reply ≢ WriteFault
not_failed reply still is = absurd (let e : true ≡ false = sym (ap is_write_fault is) ∙ still in cc)

answered_beside : (old new : Opened) (c : Call) (before now : Option (List ℕ)) (reply : Reply) (formulas : List Formula) → IsReadyToCall old → AnswersCall old new c before now reply → IsBeside old formulas → IsBeside new formulas
answered_beside old new c before now reply formulas ready a beside = record {
  new = λ is. absurd (none-some ends.Done (sym is ∙ a.ended ∙ ready.done));
  ready = λ next. beside.ready ready ∙ sym (a.names (not_failed reply (sym a.closed ∙ next.still)));
}

pub called_beside : CalledBeside
called_beside old new c before now (answers.Reply reply) formulas a beside = answered_beside old new c before now reply formulas a.ready a.answers beside
called_beside old new c before now answers.NotReady formulas a beside = subst (λ (m : Opened). IsBeside m formulas) (sym a.rests.same) beside
called_beside old new c before now answers.Closed formulas a beside = subst (λ (m : Opened). IsBeside m formulas) (sym a.rests.same) beside
