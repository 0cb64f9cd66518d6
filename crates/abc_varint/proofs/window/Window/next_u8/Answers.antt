use Rattle.std.proofs.Common.{refl}
use Rattle.abc_varint.proofs.Front.{byte_taken}
use Rattle.abc_varint.proofs.window.Window.next_u8.Goals as goal

pub returns-then-is_ready-clause-value : goal.returns-then-is_ready-clause-value
returns-then-is_ready-clause-value g c = byte_taken _ c.held.result.now c.args.self.now _ _ (c.is_ready.ensures.ready c.if-is_ready.true) c.held.ensures refl c.go_on.ensures
