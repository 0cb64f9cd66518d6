use Rattle.std.proofs.Common.{◌≤◌, arith}
use Rattle.abc_varint.proofs.Inputs.{filled}
use Rattle.abc_varint.proofs.window.Window.fill.Goals as goal

pub returns-in-Ok-clause-same : goal.returns-in-Ok-clause-same
returns-in-Ok-clause-same g c = λ input is.
    let fits : c.in-Ok.count ≤ c.self.inside.block.len = omega (arith, c.in-Ok.ensures.room, c.min-room.ensures) in
    filled _ c.args.self.now c.read_front.new.block _ _ _ input c.in-Ok.count c.self.inside.block.len (g.S.Source.left c.args.source.now) (g.S.Source.left c.read_front.new.source) c.self.view_is c.note.ensures c.deref.ensures.value c.in-Ok.ensures.bound.0 fits c.in-Ok.ensures.bytes.0 is
