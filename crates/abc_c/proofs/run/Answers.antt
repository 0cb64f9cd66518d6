use Rattle.std.proofs.Common.{◌∙◌, ap, sym}
use Rattle.abc_c.specs.Answered.{end_status}
use Rattle.abc_c.proofs.Using.{runs_done, runs_ended}
use Rattle.abc_c.proofs.run.Goals as goal

pub returns-in-Done-clause-used : goal.returns-in-Done-clause-used
returns-in-Done-clause-used c =
    runs_done c.args.fuel c.args.names.now c.args.calls.now c.args.kept.now.session c.start-end.new.self.session c.args.out.now.taken c.start-end.new.out.taken c.start-end.result _
    c.requires.fresh c.start-end.ensures (sym (ap end_status c.in-Done.is))
    c.answer_all.new.kept.session c.args.answers.now c.answer_all.new.answers c.answer_all.result c.answer_all.new.out.taken c.in-Done.is c.answer_all.ensures.count c.answer_all.ensures.room c.answer_all.ensures.answers

pub returns-in_default-clause-used : goal.returns-in_default-clause-used
returns-in_default-clause-used c =
    runs_ended c.args.fuel c.args.names.now c.args.calls.now c.args.kept.now.session c.start-end.new.self.session c.args.out.now.taken c.start-end.new.out.taken c.start-end.result c.to.result.status
    c.requires.fresh c.start-end.ensures (c.to.ensures.0 ∙ c.status_of_end.ensures)
    c.args.answers.now c.to.result.answered c.in_default.not-Done c.to.ensures.2
