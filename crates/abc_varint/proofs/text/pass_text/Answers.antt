use Rattle.std.proofs.Common.{arith}
use Rattle.abc_file_types.specs.Canonical.{text_bytes}
use Rattle.abc_file_types.specs.Lists.{bytes_with_count}
use Rattle.abc_file_types.specs.Numbers.{u8}
use Rattle.abc_varint.proofs.Passing.{counted_passes}
use Rattle.abc_varint.proofs.text.pass_text.Goals as goal

pub returns : goal.returns
unfolding bytes_with_count text_bytes
returns g c =
    let read = c.in_ok-count.ensures.value.0 in let items = c.in_ok-pass_bytes.ensures in (
      counted_passes u8 (λ b. b) c.in_ok-count.count _ _ _ _ _ _ _ _ _ read.0 c.in_ok-put_u30.ensures items.0,
      (λ e h. absurd (let k = read.0.0 in cc)),
      omega (arith, read.2, items.2),
      (λ k h. absurd cc),
      tt,
    )
