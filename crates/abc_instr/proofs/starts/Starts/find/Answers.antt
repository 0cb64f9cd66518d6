use Rattle.std.proofs.Common.{◌≡◌, ℕ, get_or, nat_eq, Some, sym, subst, ◌∙◌, arith}
use Rattle.std.specs.List.{position, slice_get}
use Rattle.std.proofs.lemmas.Option.{get_or_from_slice_get, slice_get_within}
use Rattle.abc_file_types.proofs.Resolving.{position_is}
use Rattle.abc_instr.proofs.starts.Starts.find.Goals as goal

-- the guess was tested
pub returns-in-Some : goal.returns-in-Some
returns-in-Some c =
    let ss = c.args.self.now in
    let i = c.guess-guess.result in
    let held : slice_get ss i ≡ Some c.in-Some.start = rw c.self.view_is at (sym c.fetch.ensures ∙ c.in-Some.is) in
    let at : get_or ss i 0 ≡ c.args.place = omega (arith, get_or_from_slice_get ss i c.in-Some.start 0 held, c.if-start-place.true) in
    subst (λ (n : ℕ). Some i ≡ position (λ s. nat_eq s n) ss) at (sym (position_is ss i c.requires.rising (slice_get_within ss i c.in-Some.start held)))
