use Rattle.std.proofs.Common.{refl, sym, ap, subst, ◌∙◌}
use Rattle.abc_cli_answers.specs.Grammar.{Says}
use Rattle.abc_cli_answers.specs.declared.command.Usage.{Usage}
use Rattle.abc_cli_answers.specs.declared.command.Command.{Command}
use Rattle.abc_cli_answers.specs.declared.command.Command.TheVariants as commands
use Rattle.abc_cli_answers.specs.End.{Ends, GivesLine, stream}
use Rattle.abc_cli_answers.specs.Answers.{Answer}
use Rattle.abc_cli.specs.Outcome.{AsksNoInput, CommandOutcome, IsOutcome, usage_answer}
use Rattle.abc_session.proofs.Pieces.{nothing}
use Rattle.abc_cli_answers.proofs.Ending.{line_ends, weaker}
use Rattle.abc_cli.proofs.Usages.{usage_found, is_usage, usage_not_memory, usage_outcome, same_command, same_usage, not_ok, end_not_usage, unread_command, asking, few_methods, log_limits, takes_as}
use Rattle.abc_cli.proofs.Listings.{lists}
use Rattle.abc_cli.proofs.Tidyings.{tidies}
use Rattle.abc_cli.proofs.top.abc_main.Goals as goal

pub give_usage-requires : goal.give_usage-requires
give_usage-requires g c = is_usage c.args.words.now c.parse.result c.in-Err.usage c.parse.ensures.none c.parse.ensures.word c.in-Err.is

pub returns-in-Ok-clause-end : goal.returns-in-Ok-clause-end
returns-in-Ok-clause-end g c =
    weaker _ _ _ _ _ _ c.run_command.result (λ a o. IsOutcome.command c.in-Ok.command ((c.parse.ensures.command c.in-Ok.command).0 c.in-Ok.is) o) (λ h. h) c.run_command.ensures.end

pub returns-in-Ok-clause-usage : goal.returns-in-Ok-clause-usage
returns-in-Ok-clause-usage g c = λ a u.
    let f = usage_found c.args.words.now c.parse.result c.parse.ensures.none c.parse.ensures.word a u in
    absurd (not_ok c.in-Ok.command f.0 c.parse.result c.in-Ok.is f.1)

pub returns-in-Ok-clause-unread : goal.returns-in-Ok-clause-unread
returns-in-Ok-clause-unread g c = λ asks.
    c.run_command.ensures.unread (unread_command c.args.words.now c.parse.result c.in-Ok.command c.parse.ensures.word c.parse.ensures.none c.parse.ensures.command c.in-Ok.is asks)

pub returns-in-Ok-clause-untouched : goal.returns-in-Ok-clause-untouched
returns-in-Ok-clause-untouched g c = λ a u.
    let f = usage_found c.args.words.now c.parse.result c.parse.ensures.none c.parse.ensures.word a u in
    absurd (not_ok c.in-Ok.command f.0 c.parse.result c.in-Ok.is f.1)

pub returns-in-Ok-clause-well_formed : goal.returns-in-Ok-clause-well_formed
returns-in-Ok-clause-well_formed g c = λ w e. end_not_usage (g.H.Host.formulas c.args.host.now) c.in-Ok.command (g.S.Source.left c.args.source.now) _ _ _ c.run_command.result c.run_command.ensures.end e

pub returns-in-Err-clause-end : goal.returns-in-Err-clause-end
returns-in-Err-clause-end g c =
    let u = is_usage c.args.words.now c.parse.result c.in-Err.usage c.parse.ensures.none c.parse.ensures.word c.in-Err.is in
    line_ends _ _ _ _ (usage_answer c.args.words.now c.in-Err.usage) c.give_usage.result (IsOutcome.usage (usage_outcome c.args.words.now c.in-Err.usage u)) (nothing (g.K.Sink.written c.args.out.now))
    c.give_usage.ensures

pub returns-in-Err-clause-usage : goal.returns-in-Err-clause-usage
returns-in-Err-clause-usage g c = λ a u.
    let f = usage_found c.args.words.now c.parse.result c.parse.ensures.none c.parse.ensures.word a u in
    let same = same_usage f.0 c.in-Err.usage c.parse.result f.1 c.in-Err.is in
    let is = f.2 ∙ ap (λ (x : Usage). usage_answer c.args.words.now x) same in
    let err = stream g.E.Sink.written g.E.Sink.faults c.args.err.now c.give_usage.new.err in
    subst (λ (x : Answer). GivesLine err x c.give_usage.result) (sym is) c.give_usage.ensures

pub returns-in-Err-clause-well_formed : goal.returns-in-Err-clause-well_formed
returns-in-Err-clause-well_formed g c = λ w e. absurd (not_ok w.0 c.in-Err.usage c.parse.result ((c.parse.ensures.command w.0).1 w.1) c.in-Err.is)

pub returns-in-Ok-clause-listed : goal.returns-in-Ok-clause-listed
returns-in-Ok-clause-listed g c = λ says done.
    let source = stream g.S.Source.left g.S.Source.faults c.args.source.now c.run_command.new.source in
    let out = stream g.K.Sink.written g.K.Sink.faults c.args.out.now c.run_command.new.out in
    let err = stream g.E.Sink.written g.E.Sink.faults c.args.err.now c.run_command.new.err in
    let is = same_command c.in-Ok.command commands.Dis c.parse.result c.in-Ok.is ((c.parse.ensures.command commands.Dis).1 says) in
    lists c.listing_is_read_back.ensures.text c.listing_is_read_back.ensures.no_other c.listing_is_read_back.ensures.no_fault (g.H.Host.formulas c.args.host.now) source out err c.run_command.result
    (subst (λ (x : Command). Ends (CommandOutcome (g.H.Host.formulas c.args.host.now) x) source out err c.run_command.result) is c.run_command.ensures.end) done

pub returns-in-Err-clause-listed : goal.returns-in-Err-clause-listed
returns-in-Err-clause-listed g c = λ says done. absurd (not_ok commands.Dis c.in-Err.usage c.parse.result ((c.parse.ensures.command commands.Dis).1 says) c.in-Err.is)

pub run_command-requires : goal.run_command-requires
run_command-requires g c = λ o e. few_methods c.args.words.now o (subst (λ (x : Command). Says c.args.words.now x) e ((c.parse.ensures.command c.in-Ok.command).0 c.in-Ok.is))

pub returns-in-Ok-clause-used_up : goal.returns-in-Ok-clause-used_up
returns-in-Ok-clause-used_up g c = λ asks. c.run_command.ensures.used_up (asking c.args.words.now c.in-Ok.command ((c.parse.ensures.command c.in-Ok.command).0 c.in-Ok.is) asks)

pub returns-in-Ok-clause-memory : goal.returns-in-Ok-clause-memory
returns-in-Ok-clause-memory g c = λ e. (c.in-Ok.command, (c.parse.ensures.command c.in-Ok.command).0 c.in-Ok.is)

pub returns-in-Err-clause-used_up : goal.returns-in-Err-clause-used_up
returns-in-Err-clause-used_up g c = λ asks. absurd (asks (AsksNoInput.usage (usage_answer c.args.words.now c.in-Err.usage) (usage_outcome c.args.words.now c.in-Err.usage (is_usage c.args.words.now c.parse.result c.in-Err.usage c.parse.ensures.none c.parse.ensures.word c.in-Err.is))))

pub returns-in-Err-clause-unread : goal.returns-in-Err-clause-unread
returns-in-Err-clause-unread g c = λ asks. refl

pub returns-in-Err-clause-untouched : goal.returns-in-Err-clause-untouched
returns-in-Err-clause-untouched g c = λ a u. refl

pub returns-in-Err-clause-memory : goal.returns-in-Err-clause-memory
returns-in-Err-clause-memory g c = λ e. absurd (usage_not_memory (stream g.E.Sink.written g.E.Sink.faults c.args.err.now c.give_usage.new.err) c.args.words.now c.in-Err.usage c.give_usage.result c.give_usage.ensures e)

pub returns-in-Ok-clause-logged : goal.returns-in-Ok-clause-logged
returns-in-Ok-clause-logged g c = λ o says read.
    let is = same_command c.in-Ok.command (commands.Log o) c.parse.result c.in-Ok.is ((c.parse.ensures.command (commands.Log o)).1 says) in
    c.run_command.ensures.logged o is (log_limits c.args.words.now o says) read

pub returns-in-Err-clause-logged : goal.returns-in-Err-clause-logged
returns-in-Err-clause-logged g c = λ o says read. absurd (not_ok (commands.Log o) c.in-Err.usage c.parse.result ((c.parse.ensures.command (commands.Log o)).1 says) c.in-Err.is)

pub returns-in-Ok-clause-tidied : goal.returns-in-Ok-clause-tidied
returns-in-Ok-clause-tidied g c = λ says done.
    let source = stream g.S.Source.left g.S.Source.faults c.args.source.now c.run_command.new.source in
    let out = stream g.K.Sink.written g.K.Sink.faults c.args.out.now c.run_command.new.out in
    let err = stream g.E.Sink.written g.E.Sink.faults c.args.err.now c.run_command.new.err in
    let is = same_command c.in-Ok.command commands.Tidy c.parse.result c.in-Ok.is ((c.parse.ensures.command commands.Tidy).1 says) in
    tidies (g.H.Host.formulas c.args.host.now) source out err c.run_command.result (subst (λ (x : Command). Ends (CommandOutcome (g.H.Host.formulas c.args.host.now) x) source out err c.run_command.result) is c.run_command.ensures.end) done

pub returns-in-Err-clause-tidied : goal.returns-in-Err-clause-tidied
returns-in-Err-clause-tidied g c = λ says done. absurd (not_ok commands.Tidy c.in-Err.usage c.parse.result ((c.parse.ensures.command commands.Tidy).1 says) c.in-Err.is)

pub returns-in-Ok-clause-taken : goal.returns-in-Ok-clause-taken
returns-in-Ok-clause-taken g c = λ k says.
    let is = same_command k c.in-Ok.command c.parse.result ((c.parse.ensures.command k).1 says) c.in-Ok.is in
    takes_as k c.in-Ok.command (g.S.Source.left c.args.source.now) (g.S.Source.left c.run_command.new.source) is c.run_command.ensures.taken

pub returns-in-Err-clause-taken : goal.returns-in-Err-clause-taken
returns-in-Err-clause-taken g c = λ k says. absurd (not_ok k c.in-Err.usage c.parse.result ((c.parse.ensures.command k).1 says) c.in-Err.is)
