use Rattle.std.proofs.Common.{arith}
use Rattle.std.specs.List.{flat_map}
use Rattle.abc_file_types.specs.Canonical.{counted_bytes}
use Rattle.abc_varint.proofs.Passing.{counted_passes}
use Rattle.abc_varint.proofs.pass.pass_counted.Goals as goal

pub returns-clause-value : goal.returns-clause-value
unfolding counted_bytes
returns-clause-value g c =
    let read = c.in_ok-count.ensures.value.0 in let items = c.in_ok-pass_times.ensures in (
      counted_passes (g.C.Codec.part c.args.codec.now) (flat_map g.C.Codec.canonical) c.in_ok-count.count _ _ _ _ _ _ _ _ _ read.0 c.in_ok-put_u30.ensures items.0,
      (λ e h. absurd (let k = read.0.0 in cc)),
      omega (arith, read.2, items.2),
      (λ k h. absurd cc),
      tt,
    )
