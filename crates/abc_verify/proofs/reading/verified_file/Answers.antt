use Rattle.std.proofs.Common.{subst, sym}
use Rattle.std.proofs.lemmas.Result.{err_from_is_err_and}
use Rattle.abc_bodies.specs.Places.{ArePlaces}
use Rattle.abc_file_types.specs.declared.tables.Abc.{Abc}
use Rattle.abc_verify.proofs.Verifying.{link_refuses}
use Rattle.abc_verify.proofs.reading.verified_file.Goals as goal

pub verified_of-requires : goal.verified_of-requires
verified_of-requires c = record {
  linked = c.in_ok-linked.ensures.1;
  numbered = c.numbering_law.ensures;
  places = subst (λ (v : Abc). ArePlaces v.bodies c.args.places.now) (sym c.in_ok-linked.ensures.0) c.requires.places;
}

pub returns-in_err-linked-clause-refused : goal.returns-in_err-linked-clause-refused
returns-in_err-linked-clause-refused c =
    let p = err_from_is_err_and c.from_residual.result c.from_residual.ensures.1 in
    rw (p.1, p.2) (link_refuses c.args.abc c.args.places.now c.in_err-linked.field-0.0 c.in_err-linked.ensures)
