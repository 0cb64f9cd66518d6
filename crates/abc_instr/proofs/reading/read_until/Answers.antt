use Rattle.std.proofs.Common.{◌≡◌, ℕ, ◌-◌, ◌<◌, ◌++◌, ◌∷◌, [], ap, refl, arith}
use Rattle.std.specs.Prelude.{map}
use Rattle.std.proofs.lemmas.List.{map-append}
use Rattle.std.proofs.lemmas.List.Elements.{All-nil, All-push}
use Rattle.std.proofs.lemmas.Result.{err_from_is_err_and}
use Rattle.abc_file_types.specs.Ends.{blame_first}
use Rattle.abc_varint.proofs.Fill.{fill_starts, fill_goes_on, fill_ends, fill_done}
use Rattle.abc_instr.specs.declared.raw.RawInstr.{RawInstr as Raw}
use Rattle.abc_file_types.specs.Instructions.{instruction, pieces}
use Rattle.abc_file_types.proofs.CodeParts.{instruction-exact, instruction-some}
use Rattle.abc_file_types.proofs.Resolving.{size-push}
use Rattle.abc_instr.specs.Offsets.{raw_of}
use Rattle.abc_instr.specs.Reading.{raw_instr}
use Rattle.abc_instr.specs.Scanning.{instrs_in, raws_in}
use Rattle.abc_instr.proofs.Resolved.{raw_push, raws_len-push}
use Rattle.abc_instr.proofs.Aiming.{as_few, read_count, reading_push}
use Rattle.abc_instr.proofs.reading.read_until.Goals as goal

pub loop-init : goal.loop-init
loop-init g c =
    let e = c.begin.ensures in (
      [],
      record {
        reading = record { starts = e.starts; instrs = ap (map raw_instr) e.instrs; aims = e.aims };
        filling = fill_starts (blame_first instruction) c.args.byte_count c.args.w.now (g.S.Source.left c.args.source.now) c.requires.fresh c.requires.end;
        some = All-nil (λ (x : Raw × ℕ). 0 < x.1);
        raw = tt;
        size = omega arith;
        few = omega arith;
        room = omega (arith, c.place-first.ensures.is, c.place-first.ensures.bound);
        within = omega arith;
        later = omega arith;
      },
    )

pub take_next-requires-clause-few : goal.take_next-requires-clause-few
take_next-requires-clause-few g c =
    let xs = c.loop.invariant.0 in
    let inv = c.loop.invariant.1 in
    omega (arith, read_count xs c.loop.reading.instrs inv.reading.instrs, as_few xs inv.some, inv.size, c.if-here-byte_count.false, c.place.ensures.is, c.place-first.ensures.is, c.requires.small)

pub loop-preserved : goal.loop-preserved
loop-preserved g c =
    let xs = c.loop.invariant.0 in
    let inv = c.loop.invariant.1 in
    let step = c.in_ok-take_next.ensures.value in
    let x = step.instr in
    let n = c.take_next.new.w.place - c.loop.w.place in
    let here = c.loop.w.place - c.args.w.now.place in
    let all : instrs_in (xs ++ (x, n) ∷ []) ≡ instrs_in xs ++ x ∷ [] = map-append (λ (y : Raw × ℕ). y.0) xs ((x, n) ∷ []) in
    let raws : raws_in (xs ++ (x, n) ∷ []) ≡ raws_in xs ++ (raw_of x, n) ∷ [] = map-append (λ (y : Raw × ℕ). (raw_of y.0, y.1)) xs ((x, n) ∷ []) in (
      xs ++ (x, n) ∷ [],
      record {
        reading = reading_push xs x n here c.loop.reading (record c.loop.reading { starts = c.push.new.self }) c.take_next.new.self (omega (arith, inv.size)) inv.reading
            (rw (← c.place-first.ensures.is, ← c.place.ensures.is) c.in_ok-push.ensures) refl refl step.takes;
        filling = rw raws (fill_goes_on (blame_first instruction) c.args.byte_count c.loop.counter (raws_in xs) _ _ _ _ _ _ _ instruction-exact instruction-some inv.room c.loop-test.true
            (omega (arith, c.if-here-byte_count.false, c.place.ensures.is, c.place-first.ensures.is, inv.size)) inv.filling step.says_so);
        some = All-push (λ (p : Raw × ℕ). 0 < p.1) xs (x, n) inv.some (omega (arith, step.moves));
        raw = rw all (raw_push (instrs_in xs) x inv.raw step.raw);
        size = omega (arith, inv.size, size-push xs (x, n), step.moves);
        few = rw all (omega (arith, inv.few, step.passes.0, raws_len-push (instrs_in xs) x));
        room = step.room;
        within = omega (arith, step.passes.1, inv.filling.end);
        later = omega (arith, inv.later, c.in_ok-take_next.ensures.later);
      },
    )

pub returns-in_err-take_next-clause-value : goal.returns-in_err-take_next-clause-value
unfolding pieces
returns-in_err-take_next-clause-value g c =
    let p = err_from_is_err_and c.from_residual-in_err-take_next.result c.from_residual-in_err-take_next.ensures.1 in
    let inv = c.loop.invariant.1 in
    rw (p.1, p.2) (λ k. fill_ends c.in_err-take_next.field-0.0 (blame_first instruction) c.args.byte_count c.loop.counter (raws_in c.loop.invariant.0) _ _ _ _ _ c.loop-test.true
    (omega (arith, c.if-here-byte_count.false, c.place.ensures.is, c.place-first.ensures.is, inv.size)) inv.filling (c.in_err-take_next.ensures.value inv.filling.fresh))

pub returns-after-loop-clause-value : goal.returns-after-loop-clause-value
unfolding pieces
returns-after-loop-clause-value g c =
    let xs = c.loop.invariant.0 in
    let inv = c.loop.invariant.1 in (
      xs,
      inv.reading,
      record { some = inv.some; raw = inv.raw; size = omega (arith, inv.size, inv.within); few = omega (arith, inv.few, inv.within) },
      inv.size,
      fill_done (blame_first instruction) c.args.byte_count c.loop.counter (raws_in xs) _ _ _ _ (omega (arith, inv.filling.room.1, c.loop-test.false)) c.requires.fresh inv.filling,
    )

pub returns-then-here-byte_count-clause-value : goal.returns-then-here-byte_count-clause-value
unfolding pieces
returns-then-here-byte_count-clause-value g c =
    let xs = c.loop.invariant.0 in
    let inv = c.loop.invariant.1 in (
      xs,
      inv.reading,
      record { some = inv.some; raw = inv.raw; size = omega (arith, inv.size, inv.within); few = omega (arith, inv.few, inv.within) },
      inv.size,
      fill_done (blame_first instruction) c.args.byte_count c.loop.counter (raws_in xs) _ _ _ _ (omega (arith, c.if-here-byte_count.true, c.place.ensures.is, c.place-first.ensures.is, inv.size)) c.requires.fresh inv.filling,
    )
