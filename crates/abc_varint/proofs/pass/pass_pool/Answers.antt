use Rattle.std.proofs.Common.{arith, ℕ, ap, ◌∙◌, ◌++◌}
use Rattle.abc_base.specs.Numbers.{number_bytes}
use Rattle.abc_varint.proofs.Passing.{pool_passes}
use Rattle.abc_varint.proofs.pass.pass_pool.Goals as goal

pub returns-clause-value : goal.returns-clause-value
returns-clause-value g c =
    let read = c.in_ok-count.ensures.value.0 in let items = c.in_ok-pass_times.ensures in (
      pool_passes (g.C.Codec.part c.args.codec.now) g.C.Codec.canonical c.in_ok-count.count c.saturating_sub-entries.result _ _ _ _ _ _ _ _ _ c.saturating_sub-entries.ensures read.0 (c.in_ok-put_u30.ensures ∙ ap (λ (k : ℕ). c.args.out.now.items ++ number_bytes k) c.shortest_count.ensures) items.0,
      (λ e h. absurd (let k = read.0.0 in cc)),
      omega (arith, read.2, items.2),
      (λ k h. absurd cc),
      tt,
    )
