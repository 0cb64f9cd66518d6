use Rattle.std.proofs.Common.{List, ℕ}
use Rattle.std.proofs.lemmas.Result.{err_from_is_err_and}
use Rattle.abc_bodies.specs.declared.places.NoPlaces.{NoPlaces}
use Rattle.abc_file.proofs.Ending.{file_alone}
use Rattle.abc_file.proofs.reading.read_alone.Goals as goal

pub returns-clause-file : goal.returns-clause-file
returns-clause-file g c =
    let of_places : List (List ℕ) → NoPlaces = λ places. record {} in
    file_alone of_places (g.S.Source.left c.args.source.now) (c.in_ok-abc.abc, c.in_ok-abc.field-0-1) c.in_ok-abc.ensures.answers

pub returns-in_err-abc-clause-fault : goal.returns-in_err-abc-clause-fault
returns-in_err-abc-clause-fault g c =
    let p = err_from_is_err_and c.from_residual.result c.from_residual.ensures.1 in
    rw (p.1, p.2) c.in_err-abc.ensures.answers
