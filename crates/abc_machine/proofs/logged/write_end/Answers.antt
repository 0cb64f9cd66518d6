use Rattle.std.proofs.Common.{ℕ, List, subst}
use Rattle.abc_base.specs.Sinks.{WritesAll}
use Rattle.abc_log.specs.Lines.{profile_end}
use Rattle.abc_machine.specs.Ended.{IsEndOf}
use Rattle.abc_machine.proofs.Closing.{line_of_end}
use Rattle.abc_meaning.specs.Throwing as meant
use Rattle.abc_machine.proofs.logged.write_end.Goals as goal

pub returns-in-Done-clause-bytes : goal.returns-in-Done-clause-bytes
returns-in-Done-clause-bytes g c = λ e is. line_of_end c.args.linked.now.file e meant.Done (g.K.Sink.written c.args.log.now) (g.K.Sink.written c.write_word_end.new.log) c.write_word_end.result (subst (IsEndOf e) c.in-Done.is is) c.write_word_end.ensures.bytes

pub returns-in-Uncaught-clause-bytes : goal.returns-in-Uncaught-clause-bytes
returns-in-Uncaught-clause-bytes g c = λ e is. line_of_end c.args.linked.now.file e (meant.Uncaught c.in-Uncaught.thrown) (g.K.Sink.written c.args.log.now) (g.K.Sink.written c.write_uncaught.new.log) c.write_uncaught.result (subst (IsEndOf e) c.in-Uncaught.is is) c.write_uncaught.ensures.bytes

pub returns-in-Profile-clause-bytes : goal.returns-in-Profile-clause-bytes
returns-in-Profile-clause-bytes g c = λ e is.
    let before = g.K.Sink.written c.args.log.now in
    let after = g.K.Sink.written c.write_profile_end.new.log in
    let line = subst (λ (name : List ℕ). WritesAll before after c.write_profile_end.result (profile_end name)) c.name.ensures c.write_profile_end.ensures.bytes in
    line_of_end c.args.linked.now.file e (meant.Profile _ _ c.in-Profile.fault) before after c.write_profile_end.result (subst (IsEndOf e) c.in-Profile.is is) line

pub returns-in-FuelSpent-clause-bytes : goal.returns-in-FuelSpent-clause-bytes
returns-in-FuelSpent-clause-bytes g c = λ e is. line_of_end c.args.linked.now.file e meant.FuelSpent (g.K.Sink.written c.args.log.now) (g.K.Sink.written c.write_word_end-in-FuelSpent.new.log) c.write_word_end-in-FuelSpent.result (subst (IsEndOf e) c.in-FuelSpent.is is) c.write_word_end-in-FuelSpent.ensures.bytes

pub returns-in-Full-clause-bytes : goal.returns-in-Full-clause-bytes
returns-in-Full-clause-bytes g c = λ e is. line_of_end c.args.linked.now.file e (meant.Full c.in-Full.limit) (g.K.Sink.written c.args.log.now) (g.K.Sink.written c.write_limit_end.new.log) c.write_limit_end.result (subst (IsEndOf e) c.in-Full.is is) c.write_limit_end.ensures.bytes

-- where writing failed before, the meaning has no such end
pub returns-in-WriteFault-clause-bytes : goal.returns-in-WriteFault-clause-bytes
returns-in-WriteFault-clause-bytes g c = λ e is. absurd (subst (IsEndOf e) c.in-WriteFault.is is)
