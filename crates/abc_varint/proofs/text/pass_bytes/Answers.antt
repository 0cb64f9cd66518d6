use Rattle.std.proofs.Common.{arith, refl}
use Rattle.abc_varint.proofs.Chunks.{text_taken}
use Rattle.abc_varint.proofs.Passing.{puts_read}
use Rattle.abc_varint.proofs.text.pass_bytes.Goals as goal

pub returns-then-is_ready : goal.returns-then-is_ready
returns-then-is_ready g c = (
  puts_read _ _ (λ b. b) _ _ _ _ _ _ (text_taken c.args.count _ c.held.result.now _ _ _ (c.is_ready.ensures.ready c.if-is_ready.true) c.held.ensures refl c.go_on.ensures) c.in_ok-extend_from_slice.ensures.items,
  λ e h. absurd (let k = c.requires in cc),
  omega arith,
  λ k h. absurd cc,
  tt,
)
