use Rattle.std.proofs.Common.{ℕ, ◌+◌, List, [], map, nat_eq, subst, ◌∙◌, arith}
use Rattle.std.specs.Cmp.Lexicographic.{pointwise}
use Rattle.std.proofs.lemmas.Slice.Eq.{bytes_eq-Decides}
use Rattle.abc_tidy_entries.specs.Entries.{double_places}
use Rattle.abc_tidy_entries.specs.Heads.{TellApart}
use Rattle.abc_tidy_entries.proofs.Placing.{as_many_doubles, in_place, placed_tell}
use Rattle.abc_tidy_entries.proofs.places.double_places.Goals as goal

pub returns : goal.returns
returns c =
    let doubles : List (List ℕ) = map (λ d. d.0) c.args.abc.now.doubles in
    subst (λ n. TellApart c.args.marks.now n c.in_ok-places.places (double_places c.args.abc.now)) (λ i. 1 + c.len.ensures i + c.len-2.ensures i)
    (placed_tell (pointwise nat_eq) bytes_eq-Decides c.args.marks.now (1 + c.len.result + c.len-2.result) doubles c.as_slice.result.now doubles c.in_ok-places.places [] (c.as_slice.ensures ∙ c.in_ok-doubles.ensures) c.in_ok-places.ensures (λ i l. in_place doubles i [] l))

pub first_places-requires-clause-few : goal.first_places-requires-clause-few
first_places-requires-clause-few c =
    let many = as_many_doubles c.args.abc.now c.in_ok-doubles.doubles c.as_slice.result.now c.in_ok-doubles.ensures c.as_slice.ensures in
    omega (arith, many, c.requires.few)

pub first_places-requires-clause-marks : goal.first_places-requires-clause-marks
first_places-requires-clause-marks c =
    let many = as_many_doubles c.args.abc.now c.in_ok-doubles.doubles c.as_slice.result.now c.in_ok-doubles.ensures c.as_slice.ensures in
    omega (arith, many, c.requires.marks, c.len.ensures, c.len-2.ensures)
