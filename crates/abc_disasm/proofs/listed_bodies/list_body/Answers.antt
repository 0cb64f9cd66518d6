use Rattle.std.proofs.Common.{◌++◌, List, ℕ, refl, sym, ap, ◌∙◌}
use Rattle.std.proofs.lemmas.Result.{err_from_is_err_and}
use Rattle.abc_varint.specs.Reads.{known_input}
use Rattle.abc_varint.proofs.Inputs.{known_is}
use Rattle.abc_disasm.proofs.Rendering.{body_is}
use Rattle.abc_disasm.proofs.listed_bodies.list_body.Goals as goal

pub returns-clause-value : goal.returns-clause-value
returns-clause-value g c =
    let e = c.in_ok-body.ensures.value in (
      (
        e.0.0,
        e.0.1,
        e.0.2,
        e.0.3,
        λ input is.
            let d = e.0.4 input is in (
              d.0,
              record {
                value = (c.in_ok-body.body, c.read_body.new.reading.starts);
                read = d.1;
                bytes = c.in_ok-put_body.ensures ∙ ap (λ (l : List ℕ). c.args.out.now.items ++ l) (sym (body_is c.args.abc.now c.in_ok-body.body c.in_ok-body.ensures.ready));
                tells = refl;
              },
            ),
      ),
      (λ x h. absurd (let k = e.0.0 in cc)),
      e.2,
      (λ k h. absurd cc),
      tt,
    )

pub returns-in_err-put_body-clause-value : goal.returns-in_err-put_body-clause-value
returns-in_err-put_body-clause-value g c =
    let p = err_from_is_err_and c.from_residual-in_err-put_body.result c.from_residual-in_err-put_body.ensures.1 in
    let e = c.in_ok-body.ensures.value in
    let w = c.read_body.new.w in
    let s = g.S.Source.left c.read_body.new.source in
    rw (p.1, p.2) (
      (λ k. ((e.0.4 (known_input w s) (known_is w s)).0, tt)),
      (λ x h. absurd (let k = e.0.0 in cc)),
      e.2,
      (λ k h. absurd cc),
      (e.0.1, e.0.3),
    )
