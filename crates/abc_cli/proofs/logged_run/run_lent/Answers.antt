use Rattle.std.proofs.Common.{ℕ, List, ap, subst, sym}
use Rattle.std.specs.Io.KnownBytes.{Keeps, append_known}
use Rattle.abc_log_blocks.specs.Begun.{BeginsWith}
use Rattle.abc_log_blocks.specs.BlockSinks.{sink_faults, waiting_of, written_of}
use Rattle.abc_machine.specs.Ended.{HasRun}
use Rattle.abc_meaning.specs.Logs.{log}
use Rattle.abc_meaning.specs.Meaning.{meaning}
use Rattle.abc_meaning.specs.Setting.{Setting}
use Rattle.abc_cli.proofs.LoggedRuns.{has_run, in_blocks}
use Rattle.abc_cli.proofs.logged_run.run_lent.Goals as goal

pub run_logged-end-requires : goal.run_logged-end-requires
run_logged-end-requires g c = λ begun. c.requires.names

pub returns-clause-logs : goal.returns-clause-logs
returns-clause-logs g c =
    let p : Setting = record { linked = c.args.machine.now.linked; formulas = g.H.Host.formulas c.args.host.now } in
    let lines : List ℕ = log p c.args.machine.now.limits c.args.fuel in
    let before = g.K.Sink.written c.args.out.now in
    let now = g.K.Sink.written c.into_inner.result.now in
    let waiting : List ℕ = waiting_of c.hand_on_last-last.new.blocks in
    let e = c.hand_on_last-last.ensures in
    let below = ap g.K.Sink.written (sym c.into_inner.ensures.is) in
    let keeps = subst (λ o. Keeps (written_of c.run_logged-end.new.log) (append_known o waiting)) below e.bytes in
    let begun : BeginsWith before now = subst (λ o. BeginsWith o now) (sym c.requires.before) c.into_inner.ensures.begun in
    in_blocks lines (meaning p c.args.machine.now.limits c.args.fuel) before _ _ now waiting c.run_logged-end.result c.hand_on_last-last.result (c.run_logged-end.ensures.logs c.requires.begun) c.new-blocks.ensures.written keeps begun e.ends

pub returns-clause-cause : goal.returns-clause-cause
returns-clause-cause g c =
    let e = c.hand_on_last-last.ensures in
    let run = subst (λ (n : ℕ). HasRun n (sink_faults c.run_logged-end.new.log) c.run_logged-end.result) c.new-blocks.ensures.faults (c.run_logged-end.ensures.cause c.requires.begun) in
    subst (λ k. HasRun (g.K.Sink.faults c.args.out.now) (g.K.Sink.faults k) c.hand_on_last-last.result) (sym c.into_inner.ensures.is) (has_run _ _ _ c.run_logged-end.result c.hand_on_last-last.result run e.later e.cause)
