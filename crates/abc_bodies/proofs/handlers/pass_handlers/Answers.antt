use Rattle.std.proofs.Common.{arith}
use Rattle.std.specs.List.{flat_map}
use Rattle.abc_file_types.specs.Canonical.{counted_bytes}
use Rattle.abc_instr.specs.Marks.{mark_at}
use Rattle.abc_bodies.specs.Moved.{moved_bytes, moved_handler}
use Rattle.abc_varint.proofs.Passing.{counted_passes}
use Rattle.abc_bodies.proofs.handlers.pass_handlers.Goals as goal

pub returns : goal.returns
unfolding counted_bytes
returns g c =
    let read = c.in_ok-total.ensures.value.0 in let items = c.in_ok-pass_each_handler.ensures in (
      counted_passes (moved_handler c.args.sizes.now (mark_at c.args.marks.now)) (flat_map moved_bytes) c.in_ok-total.total _ _ _ _ _ _ _ _ _ read.0 c.in_ok-put_u30.ensures items.0,
      (λ e h. absurd (let k = read.0.0 in cc)),
      omega (arith, read.2, items.2),
      (λ k h. absurd cc),
      tt,
    )
