use Rattle.std.proofs.Common.{arith, refl, ◌∙◌}
use Rattle.std.proofs.lemmas.Result.{err_from_is_err_and}
use Rattle.abc_file_types.specs.Files.{file_read}
use Rattle.abc_varint.specs.declared.error.ReadError.TheVariants as errors
use Rattle.abc_varint.specs.Reads.{known_input}
use Rattle.abc_varint.proofs.Inputs.{known_is}
use Rattle.abc_varint.proofs.Loop.{other_err}
use Rattle.abc_bodies.proofs.Passing.{beside}
use Rattle.abc_disasm.proofs.Whole.{bodies_fail, filled_over, joined}
use Rattle.abc_disasm.proofs.file.list_file.Goals as goal

pub returns : goal.returns
unfolding file_read
returns g c =
    let e1 = c.in_ok-read_version.ensures in let e2 = c.in_ok-abc.ensures.value in let e3 = c.in_ok-read_definitions.ensures.value in let e4 = c.in_ok-list_bodies.ensures in (
      (
        e1.0.0,
        e4.0.1,
        omega (arith, e1.0.2, e2.0.2, e3.0.2, e4.0.2),
        e4.0.3 ∙ e3.0.3 ∙ e2.0.3 ∙ e1.0.3,
        λ input is.
            let d4 = e4.0.4 input is in let d3 = e3.0.4 input d4.0 in let d2 = e2.0.4 input d3.0 in let d1 = e1.0.4 input d2.0 in
            let x4 = d4.1 in let full = c.read_definitions.new.abc in (
              d1.0,
              record {
                value = beside full x4.value;
                read = rw (d1.1, d2.1, d3.1, filled_over full c.sizes_of-sizes.result _ c.sizes_of-sizes.ensures, x4.read) refl;
                bytes = joined full x4.value _ _ _ (rw c.in_ok-shown.ensures at c.in_ok-put_front.ensures) (rw c.in_ok-shown.ensures at x4.bytes);
                tells = refl;
              },
            ),
      ),
      (λ e h. absurd (let k = e1.0.0 in cc)),
      omega (arith, e1.2, e2.2, e3.2, e4.2),
      (λ k h. absurd cc),
      tt,
    )

pub returns-in_err-shown : goal.returns-in_err-shown
returns-in_err-shown g c =
    let p = err_from_is_err_and c.from_residual-in_err-shown.result c.from_residual-in_err-shown.ensures.1 in
    let e1 = c.in_ok-read_version.ensures in let e2 = c.in_ok-abc.ensures.value in let e3 = c.in_ok-read_definitions.ensures.value in
    let w = c.read_definitions.new.w in let s = g.S.Source.left c.read_definitions.new.source in
    rw (p.1, p.2) (
      (λ k. let d3 = e3.0.4 (known_input w s) (known_is w s) in let d2 = e2.0.4 (known_input w s) d3.0 in let d1 = e1.0.4 (known_input w s) d2.0 in (d1.0, tt)),
      (λ e h. absurd (let k = e1.0.0 in cc)),
      omega (arith, e1.2, e2.2, e3.2),
      (λ k h. absurd cc),
      (e3.0.1, e3.0.3 ∙ e2.0.3 ∙ e1.0.3),
    )

pub returns-in_err-put_front : goal.returns-in_err-put_front
returns-in_err-put_front g c =
    let p = err_from_is_err_and c.from_residual-in_err-put_front.result c.from_residual-in_err-put_front.ensures.1 in
    let e1 = c.in_ok-read_version.ensures in let e2 = c.in_ok-abc.ensures.value in let e3 = c.in_ok-read_definitions.ensures.value in
    let w = c.read_definitions.new.w in let s = g.S.Source.left c.read_definitions.new.source in
    rw (p.1, p.2) (
      (λ k. let d3 = e3.0.4 (known_input w s) (known_is w s) in let d2 = e2.0.4 (known_input w s) d3.0 in let d1 = e1.0.4 (known_input w s) d2.0 in (d1.0, tt)),
      (λ e h. absurd (let k = e1.0.0 in cc)),
      omega (arith, e1.2, e2.2, e3.2),
      (λ k h. absurd cc),
      (e3.0.1, e3.0.3 ∙ e2.0.3 ∙ e1.0.3),
    )

pub returns-in_err-list_bodies : goal.returns-in_err-list_bodies
returns-in_err-list_bodies g c =
    let p = err_from_is_err_and c.from_residual-in_err-list_bodies.result c.from_residual-in_err-list_bodies.ensures.1 in
    let e1 = c.in_ok-read_version.ensures in let e2 = c.in_ok-abc.ensures.value in let e3 = c.in_ok-read_definitions.ensures.value in let e4 = c.in_err-list_bodies.ensures in
    rw (p.1, p.2) (
      (λ k.
          let f = e4.0 e3.0.1 in let input = known_input c.list_bodies.new.w (g.S.Source.left c.list_bodies.new.source) in
          let d3 = e3.0.4 input f.0 in let d2 = e2.0.4 input d3.0 in let d1 = e1.0.4 input d2.0 in
          (d1.0, bodies_fail c.in_err-list_bodies.field-0.0 _ _ _ _ _ c.in_ok-abc.abc c.read_definitions.new.abc c.sizes_of-sizes.result d1.1 d2.1 d3.1 c.sizes_of-sizes.ensures f.1)),
      (λ e h. absurd (let k = e1.0.0 in cc)),
      omega (arith, e1.2, e2.2, e3.2, e4.2),
      (λ k h. let r = e4.3 e3.0.1 (other_err c.in_err-list_bodies.field-0.0 errors.ReadFault h) in omega (arith, e1.2, e2.2, e3.2, r)),
      (e4.4.0, e4.4.1 ∙ e3.0.3 ∙ e2.0.3 ∙ e1.0.3),
    )
