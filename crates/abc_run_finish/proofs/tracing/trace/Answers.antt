use Rattle.std.proofs.Common.{◌∙◌, refl, sym, ap, subst, arith}
use Rattle.abc_run_finish.proofs.OutwardDone.{line_there, made_long, ready_with, trace_fails, trace_writes, traced_stops}
use Rattle.abc_frames.specs.Frame.{Frames, newest}
use Rattle.abc_run_state.specs.Outer.{setting_in, world}
use Rattle.abc_run_state.specs.Settling.{given_by_how, taken_by}
use Rattle.abc_run_state.specs.Stops.{why}
use Rattle.abc_run_state.specs.Turns.{Halts, bare_newest}
use Rattle.abc_objects.specs.Lines as lines
use Rattle.abc_meaning.specs.Ops.{as_text}
use Rattle.abc_run_finish.proofs.tracing.trace.Goals as goal

pub returns-in-Err-clause-traces : goal.returns-in-Err-clause-traces
returns-in-Err-clause-traces g c =
    let p = setting_in c.args.linked.now g.out in
    let w = world c.args.s.now g.out in
    let new = c.convert_arguments.new.s in
    let there = c.requires.1.1.0.operands in
    let few = c.requires.1.1.1 in (
      traced_stops p c.args.count c.args.how w (world new g.out) c.args.s.now.frames (why c.in-Err.stop) (omega (arith, there, few)) c.in-Err.ensures.part
          ∙ ap (λ (q : Frames). Halts (world new g.out) q (why c.in-Err.stop)) (sym (ap bare_newest c.in-Err.ensures.frames)),
      refl,
    )

pub arguments-texts-requires : goal.arguments-texts-requires
arguments-texts-requires g c =
    let p = setting_in c.args.linked.now g.out in
    let new = c.convert_arguments.new.s in
    let there = c.requires.1.1.0.operands in
    let few = c.requires.1.1.1 in
    let long = made_long (as_text p) c.args.count (world c.args.s.now g.out) (world new g.out) (newest c.args.s.now.frames).stack (newest new.frames).stack c.in_default.ensures.part in
    omega (arith, there, few, long)

pub write_line-requires : goal.write_line-requires
write_line-requires g c =
    let l = c.args.linked.now in
    let p = setting_in l g.out in
    let new = c.convert_arguments.new.s in
    let there = c.requires.1.1.0.operands in
    let few = c.requires.1.1.1 in
    let long = made_long (as_text p) c.args.count (world c.args.s.now g.out) (world new g.out) (newest c.args.s.now.frames).stack (newest new.frames).stack c.in_default.ensures.part in
    subst (lines.AreThere l.file.strings new.arena) (sym c.arguments-texts.ensures) (line_there l new.arena (newest new.frames) c.args.count (omega (arith, there, few, long)) c.in_default.ensures.set.frame.stack)

pub settle-requires : goal.settle-requires
settle-requires g c =
    let p = setting_in c.args.linked.now g.out in
    let new = c.convert_arguments.new.s in
    let long = made_long (as_text p) c.args.count (world c.args.s.now g.out) (world new g.out) (newest c.args.s.now.frames).stack (newest new.frames).stack c.in_default.ensures.part in
    ready_with (taken_by c.args.how) (given_by_how c.args.how) c.args.s.now.frames new.frames (newest new.frames).stack c.in_default.ensures.frames long c.requires.1.1.0

pub returns-in-Ok-clause-traces : goal.returns-in-Ok-clause-traces
returns-in-Ok-clause-traces g c =
    let new = c.convert_arguments.new.s in
    let there = c.requires.1.1.0.operands in
    let few = c.requires.1.1.1 in
    let made = c.in_default.ensures in
    trace_writes c.args.linked.now g.out c.args.count c.args.how c.args.s.now new c.settle.new.frames (g.K.Sink.written c.args.sink.now) (g.K.Sink.written c.write_line.new.out) c.arguments-texts.result.now (omega (arith, there, few)) few made.part made.frames c.settle.ensures c.arguments-texts.ensures c.in-Ok.ensures.bytes

pub returns-in-Err-write_line-clause-traces : goal.returns-in-Err-write_line-clause-traces
returns-in-Err-write_line-clause-traces g c =
    let new = c.convert_arguments.new.s in
    let there = c.requires.1.1.0.operands in
    let few = c.requires.1.1.1 in
    trace_fails c.args.linked.now g.out c.args.count c.args.how c.args.s.now new (g.K.Sink.written c.args.sink.now) (g.K.Sink.written c.write_line.new.out) c.arguments-texts.result.now (omega (arith, there, few)) few c.in_default.ensures.part c.arguments-texts.ensures c.in-Err-write_line.ensures.bytes
