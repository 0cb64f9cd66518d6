-- The whole life of a session: it is opened, started once, and then asked calls, one after the other.
use Rattle.std.specs.Prelude.{◌≡◌, ◌≢◌, ℕ, List, [], ◌∷◌, map, All}
use Rattle.std.specs.declared.option.Option.{Option}
use Rattle.abc_base.specs.declared.formula.Formula.{Formula}
use Rattle.abc_heap_store.specs.Texts.{text_of}
use Rattle.abc_heap_store.specs.declared.records.Limits.{Limits}
use Rattle.abc_heap_values.specs.declared.values.Span.{Span}
use Rattle.abc_link_names.specs.Linked.{LinkedFile}
use Rattle.abc_machine.specs.Ended.{RunsAs}
use Rattle.abc_machine.specs.Machines.{IsOpened, Opened}
use Rattle.abc_machine.specs.OneRun.{HasEnded, LeavesRun, meaning_of}
use Rattle.abc_machine.specs.Texts.{CanTell, told_text}
use Rattle.abc_machine.specs.declared.ends.End.{End}
use Rattle.abc_machine.specs.declared.ends.End.TheVariants.{Done}
use Rattle.abc_machine.specs.declared.replies.PlainValue.TheVariants.{Text}
use Rattle.abc_machine.specs.declared.replies.Reply.TheVariants.{Value}
use Rattle.abc_meaning.specs.Calls.{Replied, session}
use Rattle.abc_meaning.specs.Meaning.{first_state, meaning, runs_for}
use Rattle.abc_meaning.specs.Openings.{setting}
use Rattle.abc_meaning.specs.World.{World}
use Rattle.abc_session.specs.Sessions.{AreCallsMade, Follow, Made}
use Rattle.abc_session.specs.declared.replies.SessionReply.TheVariants as answers

-- the session that was opened; its start, beside a host of some formulas: the fuel, how it ended, and what the sink had before and after
-- it, where it tells that; the session that it left; the calls; and the session that they left
pub record Life : Type 0 where
  pub opened : Opened
  pub formulas : List Formula
  pub fuel : ℕ
  pub end : End
  pub before : Option (List ℕ)
  pub now : Option (List ℕ)
  pub started : Opened
  pub calls : List Made
  pub last : Opened

-- so it went, by what each call says of itself
pub record IsLived (l : LinkedFile) (formulas : List Formula) (limits : Limits) (life : Life) : Type 0 where
  pub opened : IsOpened l formulas limits life.opened
  pub runs : RunsAs (meaning_of life.opened life.formulas life.fuel) life.before life.now life.end
  pub leaves : LeavesRun life.opened life.started life.formulas life.fuel life.end
  pub ended : HasEnded life.opened life.started life.end
  pub calls : AreCallsMade life.started life.calls life.last

-- what the calls mean, each in the world that the run and the calls before it left
abbrev pub world_of_start : LinkedFile → Limits → Life → World
world_of_start l limits life = (runs_for (setting l life.formulas) life.fuel (first_state (setting l life.formulas) limits)).world

abbrev pub replies_meant : LinkedFile → Limits → Life → List Replied
replies_meant l limits life = session l (world_of_start l limits life) (map (λ d. d.call) life.calls)

-- a text that a call gave can be told in the end, with the bytes that it was given with
abbrev pub TellsTextInTheEnd : LinkedFile → Replied → Made → Opened → Type 0
TellsTextInTheEnd l r d last = (s : Span) → d.reply ≡ answers.Reply (Value (Text s)) → CanTell last s × (told_text last s ≡ text_of l.file.strings r.world.heap s)

abbrev pub TellTexts : LinkedFile → List Replied → List Made → Opened → Type 0
TellTexts l [] ds last = Unit {0}
TellTexts l (r ∷ rs) [] last = Unit {0}
TellTexts l (r ∷ rs) (d ∷ ds) last = TellsTextInTheEnd l r d last × TellTexts l rs ds last

-- the start answers the meaning's end, each call its own meaning, and without a start that was done no call does anything
pub record MeansLife (l : LinkedFile) (limits : Limits) (life : Life) : Type 0 where
  pub start : RunsAs (meaning (setting l life.formulas) limits life.fuel) life.before life.now life.end
  pub calls : life.end ≡ Done → Follow (replies_meant l limits life) life.calls
  pub texts : life.end ≡ Done → TellTexts l (replies_meant l limits life) life.calls life.last
  pub idle : life.end ≢ Done → All (λ d. d.reply ≡ answers.NotReady) life.calls

-- so it is of every file, host, limits and fuel, and every list of calls
abbrev pub LivesFollow : Type 0
LivesFollow = (l : LinkedFile) (formulas : List Formula) (limits : Limits) (life : Life) → IsLived l formulas limits life → MeansLife l limits life
