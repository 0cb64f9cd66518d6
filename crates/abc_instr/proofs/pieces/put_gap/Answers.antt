use Rattle.std.proofs.Common.{◌≡◌, ◌+◌, ◌-◌, ◌<◌, ℕ, length, get_or, refl, sym, subst, arith}
use Rattle.std.proofs.lemmas.List.{get_or_read_under}
use Rattle.abc_file_types.specs.CodeBytes.{canonical_starts}
use Rattle.abc_file_types.specs.Ready.{AllCanSpell, Small}
use Rattle.abc_file_types.specs.declared.code.Instr.TheVariants as instrs
use Rattle.abc_file_types.proofs.Lengths.{can_at, canonical_count, canonical_small}
use Rattle.abc_instr.proofs.pieces.put_gap.Goals as goal

pub bounds-starts-gap : goal.bounds-starts-gap
bounds-starts-gap c =
    let more : c.args.gap.now.index + 1 < length c.args.starts.now = rw c.requires.starts (omega (arith, canonical_count c.args.code.now, c.requires.within)) in
    omega (arith, more)

pub bounds-starts-gap-2 : goal.bounds-starts-gap-2
bounds-starts-gap-2 c =
    let more : c.args.gap.now.index + 1 < length c.args.starts.now = rw c.requires.starts (omega (arith, canonical_count c.args.code.now, c.requires.within)) in
    more

pub overflow_add-gap : goal.overflow_add-gap
overflow_add-gap c =
    let more : c.args.gap.now.index + 1 < length c.args.starts.now = rw c.requires.starts (omega (arith, canonical_count c.args.code.now, c.requires.within)) in
    omega (arith, c.type_inv.starts, more)

pub offset_bounds-starts-gap : goal.offset_bounds-starts-gap
offset_bounds-starts-gap c =
    let more : c.args.gap.now.index + 1 < length c.args.starts.now = rw c.requires.starts (omega (arith, canonical_count c.args.code.now, c.requires.within)) in
    omega (arith, c.type_inv.starts, more)

pub offset_bounds-starts-gap-2 : goal.offset_bounds-starts-gap-2
offset_bounds-starts-gap-2 c =
    let more : c.args.gap.now.index + 1 < length c.args.starts.now = rw c.requires.starts (omega (arith, canonical_count c.args.code.now, c.requires.within)) in
    omega (arith, c.type_inv.starts, more)

pub put_aimed-requires-clause-can : goal.put_aimed-requires-clause-can
put_aimed-requires-clause-can c =
    let n : length c.args.code.now ≡ length c.args.starts.now - 1 = rw c.requires.starts (omega (arith, canonical_count c.args.code.now)) in
    can_at (length c.args.starts.now - 1) c.args.code.now c.args.gap.now.index c.get-instr.result.now (subst (λ (m : ℕ). AllCanSpell m c.args.code.now) n c.requires.ready.can) c.requires.within (sym c.get-instr.ensures)

pub put_aimed-requires-clause-some : goal.put_aimed-requires-clause-some
put_aimed-requires-clause-some c = rw c.requires.starts (omega (arith, canonical_count c.args.code.now))

pub put_aimed-requires-clause-small : goal.put_aimed-requires-clause-small
put_aimed-requires-clause-small c =
    let n : length c.args.code.now ≡ length (canonical_starts c.args.code.now) - 1 = omega (arith, canonical_count c.args.code.now) in
    rw c.requires.starts (subst (λ (m : ℕ). Small (canonical_starts c.args.code.now) m) n (canonical_small c.args.code.now c.requires.ready.short))

pub put_aimed-requires-clause-here : goal.put_aimed-requires-clause-here
put_aimed-requires-clause-here c = rw c.requires.starts (canonical_small c.args.code.now c.requires.ready.short c.args.gap.now.index (omega (arith, c.requires.within)))

pub put_aimed-requires-clause-next : goal.put_aimed-requires-clause-next
put_aimed-requires-clause-next c = rw c.requires.starts (canonical_small c.args.code.now c.requires.ready.short (c.args.gap.now.index + 1) (omega (arith, c.requires.within)))

pub returns : goal.returns
returns c =
    let e : c.get-instr.result.now ≡ get_or c.args.code.now c.args.gap.now.index (instrs.Plain 0) = get_or_read_under c.args.code.now c.args.gap.now.index (length c.args.code.now) c.get-instr.result.now (instrs.Plain 0) (sym c.get-instr.ensures) c.requires.within refl in
    rw (← e) c.put_aimed.ensures
