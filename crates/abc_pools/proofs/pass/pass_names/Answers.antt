use Rattle.std.proofs.Common.{arith, ℕ, ap, ◌∙◌, ◌++◌}
use Rattle.abc_base.specs.Numbers.{number_bytes}
use Rattle.abc_file_types.specs.Pools.{multiname, multiname_bytes, multinames}
use Rattle.abc_varint.proofs.Passing.{pool_passes}
use Rattle.abc_pools.proofs.Names.{in_pool}
use Rattle.abc_pools.proofs.pass.pass_names.Goals as goal

pub returns : goal.returns
unfolding multinames
returns g c =
    let read = c.in_ok-count.ensures.value in let items = c.in_ok-pass_times.ensures in
    let name = multiname c.args.strings c.args.spaces c.args.sets in let m = c.saturating_sub-names.result in
    let p = pool_passes (name m) multiname_bytes c.in_ok-count.count m _ _ _ _ _ _ _ _ _ c.saturating_sub-names.ensures read.0.0 (c.in_ok-put_u30.ensures ∙ ap (λ (k : ℕ). c.args.out.now.items ++ number_bytes k) c.shortest_count.ensures) items.0 in (
      (
        p.0,
        p.1,
        p.2,
        p.3,
        λ input is. let d = p.4 input is in let x = d.1 in (d.0, record { value = x.value; read = in_pool name m x.value _ _ x.read x.tells; bytes = x.bytes; tells = x.tells }),
      ),
      (λ e h. absurd (let k = read.0.0.0 in cc)),
      omega (arith, read.0.2, items.2),
      (λ k h. absurd cc),
      tt,
    )
