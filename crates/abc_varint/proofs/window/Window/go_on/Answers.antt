use Rattle.std.proofs.Common.{arith}
use Rattle.abc_varint.proofs.Held.{held_onward, held_room, same_place}
use Rattle.abc_varint.proofs.window.Window.go_on.Goals as goal

pub invariant_of-self : goal.invariant_of-self
invariant_of-self c =
    let i = c.self.invariant in
    let inside = c.self.inside in
    let le = held_room _ c.args.self.now inside.from inside.to c.args.count c.self.view_is i.5 c.requires.held in
    let at = same_place _ c.args.self.now c.self.view_is in
    (omega (arith, le, i.0), i.1, i.2, omega (arith, c.requires.within, at), omega (arith, le, i.0, i.4), omega (arith, le, i.0, i.5), held_onward inside.block.items inside.taken.bytes inside.from inside.to c.args.count inside.place i.6 le, i.7)
