-- What the reading of the words says of the outcome.
use Rattle.std.proofs.Common.{◌≡◌, ◌≤◌, ◌<◌, ◌^◌, ℕ, suc, Bool, true, false, inl, inr, ◌⊎◌, Some, None, List, [], ◌∷◌, Ok, Err, refl, sym, ap, ◌∙◌, subst, arith, ◌≢◌}
use Rattle.std.specs.Prelude.{◌↔◌, All, IfErr, IfOk}
use Rattle.std.specs.declared.option.Option.{Option}
use Rattle.std.specs.declared.alloc.Global.{Global}
use Rattle.std.specs.declared.result.Result.{Result}
use Rattle.std.specs.declared.vec.Vec.{Vec}
use Rattle.abc_base.specs.declared.status.Status.{Status}
use Rattle.abc_base.specs.declared.status.Status.TheVariants as status
use Rattle.abc_base.specs.Taking.{TakesAtMost}
use Rattle.abc_cli_answers.specs.declared.command.Command.{Command}
use Rattle.abc_cli_answers.specs.declared.command.Command.TheVariants as commands
use Rattle.abc_cli_answers.specs.declared.command.RunOptions.{RunOptions}
use Rattle.abc_cli_answers.specs.declared.command.CallsOptions.{CallsOptions}
use Rattle.abc_cli_answers.specs.declared.command.GenOptions.{GenOptions}
use Rattle.abc_cli_answers.specs.declared.command.Usage.{Usage}
use Rattle.abc_cli_answers.specs.declared.command.Usage.TheVariants as usages
use Rattle.abc_cli_answers.specs.Commands.{OptionSetting}
use Rattle.abc_cli_answers.specs.Grammar.{GiveAll, GivesOne, IsDefault, IsUsageWord, Says}
use Rattle.abc_cli_answers.specs.Answers.{Answer, OfFile, OfFileRead, On}
use Rattle.abc_cli.specs.Outcome.{Asm, AsksNoInput, Canon, Check, CommandOutcome, Dis, IsUsage, OutcomeOf, TakesFor, Tidy, UsageOutcome, reads_input, usage_answer}
use Rattle.abc_cli.specs.Runs.{Gen, RunOfFile}
use Rattle.abc_cli.specs.Calls.{Calls}
use Rattle.abc_cli.specs.Logs.{Log, Replay}
use Rattle.abc_log.specs.Lines.{AreLimits}
use Rattle.abc_meaning.specs.ThrowLaws.{AreCounted}
use Rattle.abc_cli.specs.Meant.{limits_of}
use Rattle.abc_base.specs.declared.formula.Formula.{Formula}
use Rattle.abc_file_types.specs.declared.tables.Abc.{Abc}
use Rattle.abc_cli_answers.specs.End.{Channel, Ends, GivesLine, HasFailed, IsEnd, RunsTo}
use Rattle.abc_cli_answers.specs.Stops.{GivesAllBytes, IsGiven, Stops}
use Rattle.abc_cli_answers.specs.declared.stop.Stop.{Stop}
use Rattle.abc_cli.proofs.Called.{calls_not_usage, calls_on_quiet}
use Rattle.abc_cli_answers.proofs.Ending.{any_input, finished, weaker}
use Rattle.abc_cli.proofs.Logging.{log_on_quiet, logs_not_usage}
use Rattle.abc_cli_answers.proofs.Runs.{runs_end}
use Rattle.abc_cli.proofs.CommandRuns.{runs_not_usage, runs_on_quiet}
use Rattle.abc_cli_answers.proofs.Unverified.{unverified_not_usage}
use Rattle.abc_cli.proofs.Accepting.{replay_not_usage}
use Rattle.abc_cli.proofs.Generating.{gen_not_usage}

-- the answers of words outside the grammar are those that reading the words finds
pub usage_found : (words : List (List ℕ)) (r : Result Command Usage) → ((r ≡ Err usages.NoCommand) ↔ (words ≡ [])) → ((i : ℕ) → (r ≡ Err (usages.Word i)) ↔ IsUsageWord words i)
    → (a : Answer) → UsageOutcome words a → (u : Usage) × (r ≡ Err u) × (a ≡ usage_answer words u)
usage_found words r none word a (UsageOutcome.no_command e) = (usages.NoCommand, none.1 e, refl)
usage_found words r none word a (UsageOutcome.word i u) = (usages.Word i, (word i).1 u, refl)

pub is_usage : (words : List (List ℕ)) (r : Result Command Usage) (u : Usage) → ((r ≡ Err usages.NoCommand) ↔ (words ≡ [])) → ((i : ℕ) → (r ≡ Err (usages.Word i)) ↔ IsUsageWord words i) → r ≡ Err u → IsUsage words u
is_usage words r usages.NoCommand none word e = none.0 e
is_usage words r (usages.Word i) none word e = (word i).0 e

pub usage_outcome : (words : List (List ℕ)) (u : Usage) → IsUsage words u → UsageOutcome words (usage_answer words u)
usage_outcome words usages.NoCommand h = UsageOutcome.no_command h
usage_outcome words (usages.Word i) h = UsageOutcome.word i h

-- the line of such words doesn't say that there was no memory
pub usage_not_memory : (err : Channel) (words : List (List ℕ)) (u : Usage) (s : Status) → GivesLine err (usage_answer words u) s → s ≡ status.NoMemory → ⊥
usage_not_memory err words u s (inl g) e = let k : s ≡ status.Usage = g.1 in cc
usage_not_memory err words u s (inr g) e = let k : s ≡ status.WriteFault = g.2 in cc

pub same_usage : (u v : Usage) (r : Result Command Usage) → r ≡ Err u → r ≡ Err v → u ≡ v
same_usage u v r e f = cc

pub same_command : (c d : Command) (r : Result Command Usage) → r ≡ Ok c → r ≡ Ok d → c ≡ d
same_command c d r e f = cc

pub not_ok : (c : Command) (u : Usage) (r : Result Command Usage) → r ≡ Ok c → r ≡ Err u → ⊥
not_ok c u r e f = cc

-- reading the words finds the command that they say, which then reads no input
pub unread_command : (words : List (List ℕ)) (r : Result Command Usage) (c : Command) → ((i : ℕ) → (r ≡ Err (usages.Word i)) ↔ IsUsageWord words i) → ((r ≡ Err usages.NoCommand) ↔ (words ≡ []))
    → ((d : Command) → (r ≡ Ok d) ↔ Says words d) → r ≡ Ok c → AsksNoInput words → reads_input c ≡ false
unread_command words r c word none command e (AsksNoInput.usage a u) = let f = usage_found words r none word a u in absurd (not_ok c f.0 r e f.1)
unread_command words r c word none command e (AsksNoInput.command d says silent) = let f = (command d).1 says in subst (λ (x : Command). reads_input x ≡ false) (same_command d c r f e) silent

-- a command is the log of one run, or of none
pub same_options : (command : Command) (o q : RunOptions) → command ≡ commands.Log o → command ≡ commands.Log q → o ≡ q
same_options command o q e f = cc

pub other_command : (command c : Command) (o : RunOptions) → command ≡ c → command ≡ commands.Log o → (c ≢ commands.Log o) → ⊥
other_command command c o e f other = other (sym e ∙ f)

-- a command reads its input or it doesn't
pub reading : (command c : Command) → command ≡ c → reads_input c ≡ true → reads_input command ≡ false → ⊥
reading command c e reads silent = let k : reads_input c ≡ false = subst (λ (x : Command). reads_input x ≡ false) e silent in cc

pub unreading : (command c : Command) → command ≡ c → reads_input c ≡ false → reads_input command ≡ true → ⊥
unreading command c e silent reads = let k : reads_input c ≡ true = subst (λ (x : Command). reads_input x ≡ true) e reads in cc

-- words that say a command ask for the input, unless the command doesn't read it
pub asking : (words : List (List ℕ)) (c : Command) → Says words c → ¬ AsksNoInput words → reads_input c ≡ true
asking words c says asks = go (reads_input c) refl
  where
    go : (b : Bool) → reads_input c ≡ b → reads_input c ≡ true
    go true e = e
    go false e = absurd (asks (AsksNoInput.command c says e))

-- what a command takes is what that takes which it is
pub takes_as : (command c : Command) (old new : Option (List ℕ)) → command ≡ c → TakesFor c old new → TakesFor command old new
takes_as command c old new is takes = subst (λ (x : Command). TakesFor x old new) (sym is) takes

-- nothing is taken
pub takes_none : (s : Option (List ℕ)) (most : ℕ) → TakesAtMost s s most
takes_none None most = ([], tt, omega arith)
takes_none (Some left) most = ([], refl, omega arith)

-- ---- what a command's answer is not

file_not_usage : (Answers : Abc → Answer → Type 0) → ((v : Abc) (a : Answer) → Answers v a → a.status ≡ status.Usage → ⊥) → (input : List ℕ) (a : Answer) → OfFile Answers input a → a.status ≡ status.Usage → ⊥
file_not_usage Answers not input a (OfFile.accepted v f x) e = not v a x e
file_not_usage Answers not input a (OfFile.refused r f x) e = let h = ap (λ (y : Answer). y.status) x in cc

check_not_usage : (v : Abc) (starts : List (List ℕ)) (a : Answer) → Check v starts a → a.status ≡ status.Usage → ⊥
check_not_usage v starts a (Check.unverified u) e = unverified_not_usage v starts a u e
check_not_usage v starts a (Check.verified l is x) e = let k = ap (λ (y : Answer). y.status) x in cc

checked_not_usage : (input : List ℕ) (a : Answer) → OfFileRead Check input a → a.status ≡ status.Usage → ⊥
checked_not_usage input a (OfFileRead.accepted v starts f x) e = check_not_usage v starts a x e
checked_not_usage input a (OfFileRead.refused r f x) e = let h = ap (λ (y : Answer). y.status) x in cc

tidy_not_usage : (v : Abc) (a : Answer) → Tidy v a → a.status ≡ status.Usage → ⊥
tidy_not_usage v a (Tidy.tidied t h x) e = let k = ap (λ (y : Answer). y.status) x in cc
tidy_not_usage v a (Tidy.untidy rule i h x) e = let k = ap (λ (y : Answer). y.status) x in cc

asm_not_usage : (text : List ℕ) (a : Answer) → Asm text a → a.status ≡ status.Usage → ⊥
asm_not_usage text a (Asm.assembled v short is x) e = let k = ap (λ (y : Answer). y.status) x in cc
asm_not_usage text a (Asm.refused f short is x) e = let k = ap (λ (y : Answer). y.status) x in cc
asm_not_usage text a (Asm.too_long long x) e = let k = ap (λ (y : Answer). y.status) x in cc

outcome_not_usage : (fs : List Formula) (c : Command) (input : List ℕ) (a : Answer) → OutcomeOf fs c input a → a.status ≡ status.Usage → ⊥
outcome_not_usage fs commands.Canon input a o e = file_not_usage Canon (λ v b x k. let h = ap (λ (y : Answer). y.status) x in cc) input a o e
outcome_not_usage fs commands.Dis input a o e = file_not_usage Dis (λ v b x k. let h = ap (λ (y : Answer). y.status) x in cc) input a o e
outcome_not_usage fs commands.Asm input a o e = asm_not_usage input a o e
outcome_not_usage fs commands.Check input a o e = checked_not_usage input a o e
outcome_not_usage fs commands.Tidy input a o e = file_not_usage Tidy tidy_not_usage input a o e
outcome_not_usage fs (commands.Run options) input a o e = runs_not_usage options fs input a o e
outcome_not_usage fs (commands.Gen options) input a o e = gen_not_usage options fs a o e
outcome_not_usage fs (commands.Calls options) input a o e = calls_not_usage options fs input a o e
outcome_not_usage fs (commands.Log options) input a o e = logs_not_usage options fs input a o e
outcome_not_usage fs commands.Replay input a o e = replay_not_usage fs input a o e

command_not_usage : (fs : List Formula) (c : Command) (input : Option (List ℕ)) (a : Answer) → CommandOutcome fs c input a → a.status ≡ status.Usage → ⊥
command_not_usage fs c (Some b) a o e = outcome_not_usage fs c b a o e
command_not_usage fs c None a o e = outcome_not_usage fs c o.0 a o.1 e

pub end_not_usage : (fs : List Formula) (c : Command) (input : Option (List ℕ)) (F : Type 0) (out err : Channel) (s : Status) → IsEnd (CommandOutcome fs c input) F out err s → s ≡ status.Usage → ⊥
end_not_usage fs c input F out err s (IsEnd.defined a x y z) e = command_not_usage fs c input a x e
end_not_usage fs c input F out err s (IsEnd.read_fault x y z) e = cc
end_not_usage fs c input F out err s (IsEnd.no_memory y z) e = cc
end_not_usage fs c input F out err s (IsEnd.out_failed a x y z w) e = cc
end_not_usage fs c input F out err s (IsEnd.both_failed a x y z w v) e = cc
end_not_usage fs c input F out err s (IsEnd.line_failed a x y z w) e = cc
end_not_usage fs c input F out err s (IsEnd.read_line_failed x y z w) e = cc
end_not_usage fs c input F out err s (IsEnd.memory_line_failed y z w) e = cc

-- ---- commands

pub command_ends : (fs : List Formula) (command c : Command) (source out err : Channel) (done : Result (Vec ℕ Global) Stop) (s : Status) → command ≡ c → IfOk done (λ bytes. GivesAllBytes (OutcomeOf fs c) source bytes.items)
    → IfErr done (λ stop. Stops (OutcomeOf fs c) source stop) → IsGiven done out err s → Ends (CommandOutcome fs command) source out err s
command_ends fs command c source out err done s e g x end =
    subst (λ (d : Command). Ends (CommandOutcome fs d) source out err s) (sym e) (finished (OutcomeOf fs c) source out err done s g x end)

pub run_ends : (fs : List Formula) (command : Command) (o : RunOptions) (source out err : Channel) (s : Status) → command ≡ commands.Run o → RunsTo (On (OfFileRead (RunOfFile o fs)) source.before) (HasFailed source) out err s
    → Ends (CommandOutcome fs command) source out err s
run_ends fs command o source out err s e end =
    subst (λ (d : Command). Ends (CommandOutcome fs d) source out err s) (sym e) (runs_end (On (OfFileRead (RunOfFile o fs)) source.before) (HasFailed source) out err s (runs_on_quiet o fs source.before) end)

pub calls_ends : (fs : List Formula) (command : Command) (o : CallsOptions) (source out err : Channel) (s : Status) → command ≡ commands.Calls o → RunsTo (On (OfFileRead (Calls o fs)) source.before) (HasFailed source) out err s
    → Ends (CommandOutcome fs command) source out err s
calls_ends fs command o source out err s e end =
    subst (λ (d : Command). Ends (CommandOutcome fs d) source out err s) (sym e) (runs_end (On (OfFileRead (Calls o fs)) source.before) (HasFailed source) out err s (calls_on_quiet o fs source.before) end)

pub log_ends : (fs : List Formula) (command : Command) (o : RunOptions) (source out err : Channel) (s : Status) → command ≡ commands.Log o → RunsTo (On (OfFileRead (Log o fs)) source.before) (HasFailed source) out err s
    → Ends (CommandOutcome fs command) source out err s
log_ends fs command o source out err s e end =
    subst (λ (d : Command). Ends (CommandOutcome fs d) source out err s) (sym e) (runs_end (On (OfFileRead (Log o fs)) source.before) (HasFailed source) out err s (log_on_quiet o fs source.before) end)

pub gen_ends : (fs : List Formula) (command : Command) (o : GenOptions) (source out err : Channel) (s : Status) → command ≡ commands.Gen o → IsEnd (Gen o fs) ⊥ out err s → Ends (CommandOutcome fs command) source out err s
gen_ends fs command o source out err s e end =
    subst (λ (d : Command). Ends (CommandOutcome fs d) source out err s) (sym e)
    (weaker (Gen o fs) (On (OutcomeOf fs (commands.Gen o)) source.before) ⊥ (HasFailed source) out err s (λ a x. any_input (λ input. Gen o fs a) source.before (λ input. x)) (λ h. absurd h) end)

-- ---- numbers of options

-- an option has its default, or a number in its range
abbrev AreWithin : List OptionSetting → Type 0
AreWithin [] = Unit {0}
AreWithin (x ∷ xs) = ((x.number ≡ x.option.default) ⊎ (x.number ≤ x.option.greatest)) × AreWithin xs

defaults_within : (xs : List OptionSetting) → All IsDefault xs → AreWithin xs
defaults_within [] all = tt
defaults_within (x ∷ xs) all = (inl (all 0 x (omega arith)), defaults_within xs (λ k d low. all (suc k) d (omega (arith, low))))

one_within : {word : List ℕ} {xs left : List OptionSetting} → GivesOne word xs left → AreWithin left → AreWithin xs
one_within (GivesOne.first g) h = (inr g.greatest, h)
one_within (GivesOne.later g) h = (h.0, one_within g h.1)

all_within : {words : List (List ℕ)} {xs : List OptionSetting} → GiveAll words xs → AreWithin xs
all_within (GiveAll.none all) = defaults_within _ all
all_within (GiveAll.word one more) = one_within one (all_within more)

at_most : (d n g : ℕ) → d ≤ g → (n ≡ d) ⊎ (n ≤ g) → n ≤ g
at_most d n g le (inl e) = omega (arith, le, e)
at_most d n g le (inr h) = h

pub few_methods : (words : List (List ℕ)) (o : GenOptions) → Says words (commands.Gen o) → o.methods ≤ 10000
few_methods words o says = at_most 100 o.methods 10000 (omega arith) (all_within says.settings).1.0

at_limit : (d n : ℕ) → d ≤ 16777216 → (n ≡ d) ⊎ (n ≤ 16777216) → n ≤ 2 ^ 24
at_limit d n le x = let h = at_most d n 16777216 le x in omega (arith, h)

at_fuel : (n : ℕ) → (n ≡ 10000000) ⊎ (n ≤ 4294967295) → n < 2 ^ 32
at_fuel n x = let h = at_most 10000000 n 4294967295 (omega arith) x in omega (arith, h)

-- the limits of a log are in the ranges of a line of limits
pub log_limits : (words : List (List ℕ)) (o : RunOptions) → Says words (commands.Log o) → AreLimits o.fuel (limits_of o)
log_limits words o says =
    let all = all_within says.settings in
    record {
      steps = at_fuel o.fuel all.0;
      objects = at_limit 100000 o.objects (omega arith) all.1.0;
      cells = at_limit 1000000 o.cells (omega arith) all.1.1.0;
      text = at_limit 4000000 o.text (omega arith) all.1.1.1.0;
      frames = at_limit 1000 o.frames (omega arith) all.1.1.1.1.0;
      stack = at_limit 100000 o.stack (omega arith) all.1.1.1.1.1.0;
    }

-- ---- the limits of a run can be counted

cells_counted : (o : RunOptions) → (o.cells ≡ 1000000) ⊎ (o.cells ≤ 16777216) → AreCounted (limits_of o)
cells_counted o x = let h = at_limit 1000000 o.cells (omega arith) x in omega (arith, h)

pub run_counted : (words : List (List ℕ)) (o : RunOptions) → Says words (commands.Run o) → AreCounted (limits_of o)
run_counted words o says = cells_counted o (all_within says.settings).1.1.0

pub log_counted : (words : List (List ℕ)) (o : RunOptions) → Says words (commands.Log o) → AreCounted (limits_of o)
log_counted words o says = cells_counted o (all_within says.settings).1.1.0

pub calls_counted : (words : List (List ℕ)) (o : CallsOptions) → Says words (commands.Calls o) → AreCounted (limits_of o.run)
calls_counted words o says = cells_counted o.run (all_within says.settings).1.1.1.0

pub few_times : (words : List (List ℕ)) (o : CallsOptions) → Says words (commands.Calls o) → o.times ≤ 10000
few_times words o says = at_most 1 o.times 10000 (omega arith) (all_within says.settings).0
