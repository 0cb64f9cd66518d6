use Rattle.std.proofs.lemmas.Result.{err_from_is_err_and}
use Rattle.abc_replay.specs.Prefaces.{TakesLog}
use Rattle.abc_replay.proofs.Judged.{any_refuses}
use Rattle.abc_replay.proofs.answer.replay.Goals as goal

pub returns-in_err-preface-clause-refused : goal.returns-in_err-preface-clause-refused
returns-in_err-preface-clause-refused g c =
    let p = err_from_is_err_and c.from_residual.result c.from_residual.ensures.1 in
    rw (p.1, p.2) (any_refuses (g.H.Host.formulas c.args.host.now) (g.S.Source.left c.args.source.now) c.in_err-preface.field-0.0 (g.met.H.Host.formed c.args.host.now) c.in_err-preface.ensures.refused)

pub returns-clause-replayed : goal.returns-clause-replayed
returns-clause-replayed g c = c.check_in_blocks.ensures.answers.replayed (g.S.Source.left c.args.source.now) c.in_ok-preface.ensures.preface

pub returns-clause-end : goal.returns-clause-end
returns-clause-end g c = c.check_in_blocks.ensures.answers.end (g.S.Source.left c.args.source.now) c.in_ok-preface.ensures.preface

pub returns-clause-refused : goal.returns-clause-refused
returns-clause-refused g c = c.check_in_blocks.ensures.answers.refused (g.S.Source.left c.args.source.now) c.in_ok-preface.ensures.preface

pub returns-in_err-preface-clause-taken : goal.returns-in_err-preface-clause-taken
returns-in_err-preface-clause-taken g c = TakesLog.before c.in_err-preface.ensures.taken

pub returns-clause-taken : goal.returns-clause-taken
returns-clause-taken g c =
    let p = c.in_ok-preface.preface in
    TakesLog.behind p.verified p.line p.place (g.S.Source.left c.read_preface.new.source) c.in_ok-preface.ensures.preface
