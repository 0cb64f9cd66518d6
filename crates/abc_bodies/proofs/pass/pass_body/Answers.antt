use Rattle.std.proofs.Common.{arith, append_assoc, refl, ◌∙◌}
use Rattle.std.proofs.lemmas.Result.{err_from_is_err_and}
use Rattle.abc_file_types.specs.Bodies.{body_bytes, body_with}
use Rattle.abc_varint.specs.declared.error.ReadError.TheVariants as errors
use Rattle.abc_varint.specs.Reads.{known_input}
use Rattle.abc_varint.proofs.Loop.{other_err}
use Rattle.abc_bodies.specs.Reading.{free_body, part_behind_sizes, rest_bytes}
use Rattle.abc_bodies.proofs.Rest.{rest_fails}
use Rattle.abc_bodies.proofs.pass.pass_body.Goals as goal

pub returns-in_err-pass_rest-clause-value : goal.returns-in_err-pass_rest-clause-value
returns-in_err-pass_rest-clause-value g c =
    let p = err_from_is_err_and c.from_residual-in_err-pass_rest.result c.from_residual-in_err-pass_rest.ensures.1 in
    let e = c.in_err-pass_rest.field-0.0 in
    let e1 = c.in_ok-method.ensures.value in let e2 = c.in_ok-pass_size.ensures in let e3 = c.in_ok-pass_size-2.ensures in let e4 = c.in_ok-pass_size-3.ensures in let e5 = c.in_ok-pass_size-4.ensures in let v = c.in_err-pass_rest.ensures in
    rw (p.1, p.2) (
      (λ k.
          let f = v.0 e5.0.1 in
          let input = known_input c.pass_rest.new.w (g.S.Source.left c.pass_rest.new.source) in
          let d5 = e5.0.4 input f.0 in let d4 = e4.0.4 input d5.0 in let d3 = e3.0.4 input d4.0 in let d2 = e2.0.4 input d3.0 in
          let d1 = e1.0.4 input d2.0 in
          (d1.0, rest_fails e c.args.sizes.now c.args.flags.now _ _ _ _ _ _ _ _ _ _ _ d1.1 d2.1.read d3.1.read d4.1.read d5.1.read f.1)),
      (λ f h. absurd (let k = e1.0.0 in cc)),
      omega (arith, e1.2, e2.2, e3.2, e4.2, e5.2, v.2),
      (λ k h. let r = v.3 e5.0.1 (other_err e errors.ReadFault h) in omega (arith, e1.2, e2.2, e3.2, e4.2, e5.2, r)),
      (v.4.0, v.4.1 ∙ e5.0.3 ∙ e4.0.3 ∙ e3.0.3 ∙ e2.0.3 ∙ e1.0.3),
    )

pub returns-clause-value : goal.returns-clause-value
unfolding free_body body_with body_bytes part_behind_sizes rest_bytes
returns-clause-value g c =
    let e1 = c.in_ok-method.ensures.value in let e2 = c.in_ok-pass_size.ensures in let e3 = c.in_ok-pass_size-2.ensures in let e4 = c.in_ok-pass_size-3.ensures in let e5 = c.in_ok-pass_size-4.ensures in let e6 = c.in_ok-pass_rest.ensures in (
      (
        e1.0.0,
        e6.0.1,
        omega (arith, e1.0.2, e2.0.2, e3.0.2, e4.0.2, e5.0.2, e6.0.2),
        e6.0.3 ∙ e5.0.3 ∙ e4.0.3 ∙ e3.0.3 ∙ e2.0.3 ∙ e1.0.3,
        λ input is.
            let d6 = e6.0.4 input is in let d5 = e5.0.4 input d6.0 in let d4 = e4.0.4 input d5.0 in let d3 = e3.0.4 input d4.0 in
            let d2 = e2.0.4 input d3.0 in let d1 = e1.0.4 input d2.0 in
            let x2 = d2.1 in let x3 = d3.1 in let x4 = d4.1 in let x5 = d5.1 in let x6 = d6.1 in (
              d1.0,
              record {
                value = (
                  record {
                    method = c.in_ok-method.method;
                    max_stack = x2.value;
                    local_count = x3.value;
                    init_scope = x4.value;
                    max_scope = x5.value;
                    code = x6.value.0.instrs;
                    handlers = x6.value.1.0;
                    traits = x6.value.1.1;
                  },
                  x6.value.0.offsets,
                );
                read = rw (d1.1, x2.read, x3.read, x4.read, x5.read, x6.read) refl;
                bytes = rw (x6.bytes, x5.bytes, x4.bytes, x3.bytes, x2.bytes, c.in_ok-put_u30.ensures) (simp append_assoc);
                tells = refl;
              },
            ),
      ),
      (λ e h. absurd (let k = e1.0.0 in cc)),
      omega (arith, e1.2, e2.2, e3.2, e4.2, e5.2, e6.2),
      (λ k h. absurd cc),
      tt,
    )
