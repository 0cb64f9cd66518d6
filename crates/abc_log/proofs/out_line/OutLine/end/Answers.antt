use Rattle.std.proofs.Common.{ap}
use Rattle.std.specs.Prelude.{is_err}
use Rattle.abc_log.proofs.Ended.{cause_ended, closed, failed_by, front_ended, line_ended}
use Rattle.abc_log.proofs.out_line.OutLine.end.Goals as goal

pub returns-clause-line : goal.returns-clause-line
returns-clause-line g c =
    let s = c.args.self in
    let e = c.end-ended.ensures in
    line_ended _ _ _ _ _ _ _ _ _ _ (closed g.L.Log.written g.L.Log.faults s.history.start s.history.bytes s.shown c.end-ended.new.self c.into_inner.result c.end-ended.result c.into_inner.ensures s.follows e.failed e.ends e.later e.cause)

pub returns-clause-front : goal.returns-clause-front
returns-clause-front g c = λ some.
    let s = c.args.self in
    let e = c.end-ended.ensures in
    let bad = failed_by s.shown.failed s.faults s.quiet some in (
      ap is_err (e.failed bad).0,
      front_ended _ _ _ _ _ _ _ _ _ _ (closed g.L.Log.written g.L.Log.faults s.history.start s.history.bytes s.shown c.end-ended.new.self c.into_inner.result c.end-ended.result c.into_inner.ensures s.follows e.failed e.ends e.later e.cause) bad,
    )

pub returns-clause-cause : goal.returns-clause-cause
returns-clause-cause g c =
    let s = c.args.self in
    let e = c.end-ended.ensures in
    cause_ended _ _ _ _ _ _ _ _ _ _ (closed g.L.Log.written g.L.Log.faults s.history.start s.history.bytes s.shown c.end-ended.new.self c.into_inner.result c.end-ended.result c.into_inner.ensures s.follows e.failed e.ends e.later e.cause)
