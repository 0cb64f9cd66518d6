use Rattle.std.proofs.Common.{arith, append_assoc, refl, ◌∙◌}
use Rattle.std.proofs.Common.{◌≡◌, length}
use Rattle.abc_file_types.specs.Numbers.{pool_index}
use Rattle.abc_file_types.specs.Methods.{method, method_bytes}
use Rattle.std.proofs.lemmas.Result.{err_from_is_err_and}
use Rattle.abc_varint.specs.Reads.{known_input}
use Rattle.abc_varint.proofs.Inputs.{known_is}
use Rattle.abc_varint.proofs.Passing.{times_count}
use Rattle.abc_traits.proofs.methods.pass_method.Goals as goal

pub returns : goal.returns
unfolding method method_bytes
returns g c =
    let e1 = c.in_ok-count.ensures.value.0 in let e2 = c.in_ok-pass.ensures in let e3 = c.in_ok-pass_times.ensures in let e4 = c.in_ok-pass-2.ensures in let e5 = c.in_ok-flags.ensures.value.0 in let e6 = c.in_ok-pass_options_if.ensures in let e7 = c.in_ok-pass_times_if.ensures in (
      (
        e1.0.0,
        e7.0.1,
        omega (arith, e1.0.2, e2.0.2, e3.0.2, e4.0.2, e5.0.2, e6.0.2, e7.0.2),
        e7.0.3 ∙ e6.0.3 ∙ e5.0.3 ∙ e4.0.3 ∙ e3.0.3 ∙ e2.0.3 ∙ e1.0.3,
        λ input is.
            let d7 = e7.0.4 input is in let d6 = e6.0.4 input d7.0 in let d5 = e5.0.4 input d6.0 in let d4 = e4.0.4 input d5.0 in
            let d3 = e3.0.4 input d4.0 in let d2 = e2.0.4 input d3.0 in let d1 = e1.0.4 input d2.0 in
            let x2 = d2.1 in let x3 = d3.1 in let x4 = d4.1 in let x6 = d6.1 in let x7 = d7.1 in let count : length x3.value ≡ c.in_ok-count.count = times_count c.in_ok-count.count (pool_index (c.args.sizes.now).names) _ _ x3.value x3.read in (
              d1.0,
              record {
                value = record { ret = x2.value; params = x3.value; name = x4.value; flags = c.in_ok-flags.flags; options = x6.value; param_names = x7.value };
                read = rw (d1.1, x2.read, x3.read, x4.read, d5.1, ← c.has_flag-optional.ensures, x6.read, ← c.has_flag-named.ensures, x7.read) refl;
                bytes = rw (x7.bytes, x6.bytes, c.in_ok-put_u8.ensures, x4.bytes, x3.bytes, x2.bytes, c.in_ok-put_u30.ensures, count, ← c.has_flag-optional.ensures, ← c.has_flag-named.ensures) (simp append_assoc);
                tells = refl;
              },
            ),
      ),
      (λ e h. absurd (let k = e1.0.0 in cc)),
      omega (arith, e1.2, e2.2, e3.2, e4.2, e5.2, e6.2, e7.2),
      (λ k h. absurd cc),
      tt,
    )

-- where memory ran out, nothing is said of the bytes but that they may be the input
pub returns-in_err-put_u8 : goal.returns-in_err-put_u8
returns-in_err-put_u8 g c =
    let p = err_from_is_err_and c.from_residual-in_err-put_u8.result c.from_residual-in_err-put_u8.ensures.1 in
    let e1 = c.in_ok-count.ensures.value.0 in let e2 = c.in_ok-pass.ensures in let e3 = c.in_ok-pass_times.ensures in let e4 = c.in_ok-pass-2.ensures in let e5 = c.in_ok-flags.ensures.value.0 in
    rw (p.1, p.2) (
      (λ k.
          let w = c.read_u8.new.w in let s = g.S.Source.left c.read_u8.new.source in let input = known_input w s in
          let d5 = e5.0.4 input (known_is w s) in let d4 = e4.0.4 input d5.0 in let d3 = e3.0.4 input d4.0 in let d2 = e2.0.4 input d3.0 in let d1 = e1.0.4 input d2.0 in
          (d1.0, tt)),
      (λ e h. absurd (let k = e1.0.0 in cc)),
      omega (arith, e1.2, e2.2, e3.2, e4.2, e5.2),
      (λ k h. absurd cc),
      (e5.0.1, e5.0.3 ∙ e4.0.3 ∙ e3.0.3 ∙ e2.0.3 ∙ e1.0.3),
    )
