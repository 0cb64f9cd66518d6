use Rattle.std.proofs.Common.{◌≤◌, ◌-◌, arith}
use Rattle.abc_varint.proofs.Held.{held_onward}
use Rattle.abc_varint.proofs.window.Window.take_held.Goals as goal

pub invariant_of-self : goal.invariant_of-self
invariant_of-self c =
    let i = c.self.invariant in
    let inside = c.self.inside in
    let le : c.min-n.result ≤ inside.to - inside.from = omega arith in
    (omega (arith, le, i.0), i.1, i.2, omega arith, omega (arith, le, i.0, i.4), omega (arith, le, i.0, i.5), held_onward inside.block.items inside.taken.bytes inside.from inside.to c.min-n.result inside.place i.6 le, i.7)
