use Rattle.std.proofs.Common.{◌≤◌, ◌-◌, arith}
use Rattle.abc_varint.proofs.Held.{held_onward, next_ok}
use Rattle.abc_varint.proofs.window.Window.next.Goals as goal

pub invariant_of-self : goal.invariant_of-self
invariant_of-self c =
    let i = c.self.invariant in
    let inside = c.self.inside in
    let ne = c.if-self.false in
    let le : 1 ≤ inside.to - inside.from = omega (arith, i.0) in
    (omega (arith, le, i.0), i.1, i.2, omega (arith, c.if-place-ge-LIMIT.false), omega (arith, le, i.0, i.4), omega (arith, le, i.0, i.5), held_onward inside.block.items inside.taken.bytes inside.from inside.to 1 inside.place i.6 le, i.7)

pub returns-clause-next : goal.returns-clause-next
returns-clause-next c =
    let i = c.self.invariant in
    let inside = c.self.inside in
    next_ok inside.block.items inside.from inside.to c.index-x.result.now _ c.args.self.now c.self.view_is i.0 c.if-self.false (omega (arith, i.1)) i.6 c.if-place-self.false c.if-place-ge-LIMIT.false c.index-x.ensures
