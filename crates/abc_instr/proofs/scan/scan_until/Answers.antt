use Rattle.std.proofs.Common.{◌+◌, ◌-◌, ◌<◌, ◌++◌, ◌∷◌, [], length, length-append, ap, refl, arith}
use Rattle.std.proofs.lemmas.Result.{err_from_is_err_and}
use Rattle.abc_varint.specs.View.{held_bytes}
use Rattle.abc_instr.specs.Scanning.{raw_bytes}
use Rattle.abc_instr.proofs.Running.{scan_run}
use Rattle.abc_instr.proofs.Scanned.{bytes_len, scan_push}
use Rattle.abc_instr.proofs.Until.{until_done, until_ends, until_one, until_read, until_run, until_starts}
use Rattle.abc_instr.proofs.scan.scan_until.Goals as goal

pub loop-init : goal.loop-init
loop-init g c =
    let e = c.begin.ensures in (
      [],
      record {
        scan = record { marks = e.marks; code = e.code; holes = e.holes };
        so_far = until_starts c.args.byte_count c.args.w.now (g.S.Source.left c.args.source.now) c.requires.fresh c.requires.end (omega (arith, c.place-first.ensures.is, c.place-first.ensures.bound));
        few = omega (arith, ap length e.code);
        count = omega arith;
        later = omega arith;
      },
    )

pub loop-preserved : goal.loop-preserved
loop-preserved g c =
    let n = c.args.byte_count in
    let first = c.args.w.now.place in
    let w = c.loop.w in
    let w2 = c.pass_run.new.w in
    let w3 = c.pass_next.new.w in
    let s0 = g.S.Source.left c.args.source.now in
    let s = g.S.Source.left c.loop.source in
    let inv = c.loop.invariant.1 in
    let xs = c.loop.invariant.0 in
    let r = c.in_ok-pass_run.ensures.run in
    let ys = r.run.xs in
    let u = until_run n xs c.args.w.now s0 w s inv.so_far ys r.count w2 r.run.spelled r.run.size r.ready r.is in
    let scanned = scan_run xs (held_bytes w) (c.place.result - c.place-first.result) r.count c.loop.scan c.pass_run.new.self inv.so_far.some inv.so_far.raw (omega (arith, inv.so_far.size, c.place.ensures.is, c.place-first.ensures.is)) inv.scan r.run r.code in
    let step = c.in_ok-pass_next.ensures.value in
    let x = step.instr in
    let m = w3.place - w2.place in
    let before : w2.place < first + n = omega (arith, c.if-here-byte_count.false, c.place-in-loop.ensures.is, c.place-first.ensures.is, u.size) in (
      (xs ++ ys) ++ (x, m) ∷ [],
      record {
        scan = scan_push (xs ++ ys) x m (w2.place - first) c.pass_run.new.self (record c.pass_run.new.self { marks = c.set.new.self }) c.pass_next.new.self u.some u.raw (omega (arith, u.size)) scanned
            (rw (← c.place-first.ensures.is, ← c.place-in-loop.ensures.is, ← c.len-moved.ensures) c.in_ok-set.ensures) refl refl (rw c.place-first.ensures.is at step.adds);
        so_far = until_one n (xs ++ ys) c.args.w.now s0 w2 s u x w3 (g.S.Source.left c.pass_next.new.source) before step.moves step.passes step.room step.raw step.says_so;
        few = omega (arith, inv.few, c.in_ok-pass_run.ensures.few, step.passes.0, ap length step.adds.code, length-append c.pass_run.new.self.code.items (raw_bytes x), bytes_len x step.raw);
        count = omega (arith, inv.count, c.in_ok-pass_run.ensures.forth, step.moves);
        later = omega (arith, inv.later, c.in_ok-pass_next.ensures.later);
      },
    )

pub returns-in_err-pass_next-clause-value : goal.returns-in_err-pass_next-clause-value
returns-in_err-pass_next-clause-value g c =
    let p = err_from_is_err_and c.from_residual-in_err-pass_next.result c.from_residual-in_err-pass_next.ensures.1 in
    let n = c.args.byte_count in
    let w = c.loop.w in
    let w2 = c.pass_run.new.w in
    let s0 = g.S.Source.left c.args.source.now in
    let s = g.S.Source.left c.loop.source in
    let xs = c.loop.invariant.0 in
    let r = c.in_ok-pass_run.ensures.run in
    let u = until_run n xs c.args.w.now s0 w s c.loop.invariant.1.so_far r.run.xs r.count w2 r.run.spelled r.run.size r.ready r.is in
    rw (p.1, p.2) (λ k. until_ends n (xs ++ r.run.xs) c.args.w.now s0 w2 s u c.in_err-pass_next.field-0.0 _ (omega (arith, c.if-here-byte_count.false, c.place-in-loop.ensures.is, c.place-first.ensures.is, u.size))
    (c.in_err-pass_next.ensures.value u.filling.fresh))

pub returns-after-loop-clause-value : goal.returns-after-loop-clause-value
returns-after-loop-clause-value g c =
    let n = c.args.byte_count in
    let xs = c.loop.invariant.0 in
    let inv = c.loop.invariant.1 in
    let s0 = g.S.Source.left c.args.source.now in
    let s = g.S.Source.left c.loop.source in (
      xs,
      inv.scan,
      until_read n xs c.args.w.now s0 c.loop.w s inv.so_far,
      inv.so_far.size,
      until_done n xs c.args.w.now s0 c.loop.w s inv.so_far (omega (arith, inv.count, c.loop-test.false)) c.requires.fresh,
    )

pub returns-then-here-byte_count-clause-value : goal.returns-then-here-byte_count-clause-value
returns-then-here-byte_count-clause-value g c =
    let n = c.args.byte_count in
    let w = c.loop.w in
    let w2 = c.pass_run.new.w in
    let s0 = g.S.Source.left c.args.source.now in
    let s = g.S.Source.left c.loop.source in
    let inv = c.loop.invariant.1 in
    let xs = c.loop.invariant.0 in
    let r = c.in_ok-pass_run.ensures.run in
    let ys = r.run.xs in
    let u = until_run n xs c.args.w.now s0 w s inv.so_far ys r.count w2 r.run.spelled r.run.size r.ready r.is in (
      xs ++ ys,
      scan_run xs (held_bytes w) (c.place.result - c.place-first.result) r.count c.loop.scan c.pass_run.new.self inv.so_far.some inv.so_far.raw (omega (arith, inv.so_far.size, c.place.ensures.is, c.place-first.ensures.is)) inv.scan r.run r.code,
      until_read n (xs ++ ys) c.args.w.now s0 w2 s u,
      u.size,
      until_done n (xs ++ ys) c.args.w.now s0 w2 s u (omega (arith, c.if-here-byte_count.true, c.place-in-loop.ensures.is, c.place-first.ensures.is, u.size)) c.requires.fresh,
    )
