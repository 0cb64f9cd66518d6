-- What comes of a whole use from C.
use Rattle.std.specs.Prelude.{◌≡◌, ◌≢◌, ℕ, ◌++◌, List, [], length, take, drop, min, Some}
use Rattle.abc_base.specs.Hosts.{builtin_formulas}
use Rattle.abc_base.specs.Names.{status_code}
use Rattle.abc_base.specs.Sinks.{GrowsByFront}
use Rattle.abc_base.specs.declared.status.Status.{Status}
use Rattle.abc_base.specs.declared.status.Status.TheVariants as status
use Rattle.abc_file_types.specs.Reasons.{reason_name}
use Rattle.abc_link_names.specs.Items.{link_rule_name}
use Rattle.abc_link_names.specs.declared.items.ItemKind.{ItemKind}
use Rattle.abc_link_names.specs.declared.items.ItemKind.TheVariants as items
use Rattle.abc_link_names.specs.Linked.{LinkedFile}
use Rattle.abc_machine.specs.Ended.{RunsAs}
use Rattle.abc_machine.specs.Machines.{IsOpened, Opened}
use Rattle.abc_machine.specs.OneRun.{HasEnded, LeavesRun, meaning_of}
use Rattle.abc_machine.specs.declared.ends.End.{End}
use Rattle.abc_machine.specs.declared.ends.End.TheVariants.{Done}
use Rattle.abc_heap_store.specs.declared.records.Limit.{Limit}
use Rattle.abc_meaning.specs.Meaning.{first_world, too_small}
use Rattle.abc_meaning.specs.Openings.{setting}
use Rattle.abc_verify.specs.FileRefusing.{IsFileRefused}
use Rattle.abc_verify.specs.Verified.{IsReadVerified}
use Rattle.abc_verify.specs.declared.verified_error.VerifiedError.{VerifiedError}
use Rattle.abc_verify.specs.declared.verified_error.VerifiedError.TheVariants as errors
use Rattle.abc_verify_typing.specs.RuleNames.{rule_name}
use Rattle.abc_c.specs.Answered.{AreAnswered, end_status}
use Rattle.abc_c.specs.Crossing.{limits_of_bounds}
use Rattle.abc_c.specs.declared.crossing.Answer.{Answer}
use Rattle.abc_c.specs.declared.crossing.Bounds.{Bounds}
use Rattle.abc_c.specs.declared.crossing.Call.{Call}
use Rattle.abc_c.specs.declared.crossing.Outcome.{Outcome}
use Rattle.abc_c.specs.declared.crossing.Refusal.{Refusal}

-- ---- a refusal

abbrev pub item_code : ItemKind → ℕ
item_code items.File = 0
item_code items.Method = 1
item_code items.Class = 2
item_code items.Script = 3
item_code items.Body = 4

-- what is handed back for a refusal where there was none
abbrev pub no_refusal : Refusal
no_refusal = record { by = 0; place = 0; offset = 0 }

-- who refused a file, and where
abbrev pub refusal_of : VerifiedError → Refusal
refusal_of (errors.Refused place reason) = record { by = 1; place = place; offset = 0 }
refusal_of (errors.Link rule i) = record { by = 2; place = i.index; offset = item_code i.kind }
refusal_of (errors.Verify m offset rule) = record { by = 3; place = m; offset = offset }
refusal_of errors.ReadFault = no_refusal
refusal_of errors.NoMemory = no_refusal

-- and why: the name of a reason or of a rule
abbrev pub reason_of : VerifiedError → List ℕ
reason_of (errors.Refused place reason) = reason_name reason
reason_of (errors.Link rule i) = link_rule_name rule
reason_of (errors.Verify m offset rule) = rule_name rule
reason_of errors.ReadFault = []
reason_of errors.NoMemory = []

-- ---- opening

-- a verified file is opened beside the built-in host
pub record IsOpenedFor (file : List ℕ) (bounds : Bounds) (m : Opened) : Type 0 where
  pub linked : LinkedFile
  pub starts : List (List ℕ)
  pub verified : IsReadVerified linked starts file
  pub opened : IsOpened linked builtin_formulas (limits_of_bounds bounds) m

-- it is verified, and what every run begins with passes a limit
pub record IsTooSmall (file : List ℕ) (bounds : Bounds) : Type 0 where
  pub linked : LinkedFile
  pub starts : List (List ℕ)
  pub verified : IsReadVerified linked starts file
  pub which : Limit
  pub small : too_small (first_world (setting linked builtin_formulas) (limits_of_bounds bounds)).heap ≡ Some which

-- ---- the run of the last script

-- the last script was run, with this fuel: so it ended, so it left the machine, and so the output grew
pub record IsStarted (old new : Opened) (fuel : ℕ) (end : End) (before now : List ℕ) : Type 0 where
  pub runs : RunsAs (meaning_of old builtin_formulas fuel) (Some before) (Some now) end
  pub leaves : LeavesRun old new builtin_formulas fuel end
  pub ended : HasEnded old new end

-- ---- all

-- what a C caller hands over, beside the memory for what comes
pub record Use : Type 0 where
  pub file : List ℕ
  pub bounds : Bounds
  pub names : List ℕ
  pub calls : List Call

-- what a C caller hands over, as one record
abbrev pub use_of : (file : List ℕ) → Bounds → (names : List ℕ) → List Call → Use
use_of file bounds names calls = record { file = file; bounds = bounds; names = names; calls = calls }

-- the script of a session was run; where that was done, calls were made, as far as there is room for answers
pub record RunsAndAnswers (opened : Opened) (fuel : ℕ) (names : List ℕ) (calls : List Call) (answers : List Answer) (s : Status) (answered : ℕ) (written : List ℕ) : Type 0 where
  pub end : End
  pub status : s ≡ end_status end
  pub started : Opened
  pub wrote : List ℕ
  pub starts : IsStarted opened started fuel end [] wrote
  pub last : Opened
  pub answered_so : end ≡ Done → (answered ≡ min (length calls) (length answers)) × AreAnswered names started (take answered calls) (take answered answers) wrote last written
  pub none : end ≢ Done → (answered ≡ 0) × (written ≡ wrote)

-- the file was opened, its script was run, and calls were made
pub record IsUsed (u : Use) (answers : List Answer) (s : Status) (answered : ℕ) (written : List ℕ) : Type 0 where
  pub opened : Opened
  pub begun : IsOpenedFor u.file u.bounds opened
  pub runs : RunsAndAnswers opened u.bounds.fuel u.names u.calls answers s answered written

-- what came: a status, where the file was refused, how many calls were answered, and what was written
pub data ComesOfUse (u : Use) (answers : List Answer) : Status → Refusal → (answered : ℕ) → (written : List ℕ) → Type 0 where
  refused : (e : VerifiedError) (written : List ℕ) → IsFileRefused u.file e → GrowsByFront (Some []) (Some written) (reason_of e) → ComesOfUse u answers status.Refused (refusal_of e) 0 written
  limited : IsTooSmall u.file u.bounds → ComesOfUse u answers status.Limit no_refusal 0 []
  no_memory : ComesOfUse u answers status.NoMemory no_refusal 0 []
  used : (s : Status) (answered : ℕ) (written : List ℕ) → IsUsed u answers s answered written → ComesOfUse u answers s no_refusal answered written

-- so much of what was written stands in front of the output as there is room for
pub record HasOutcome (u : Use) (answers : List Answer) (before now : List ℕ) (o : Outcome) : Type 0 where
  pub status : Status
  pub code : o.status ≡ status_code status
  pub written : List ℕ
  pub comes : ComesOfUse u answers status o.refusal o.answered written
  pub many : o.written ≡ min (length written) (length before)
  pub output : now ≡ take o.written written ++ drop o.written before
