use Rattle.std.proofs.Common.{◌≡◌, ℕ, subst, arith}
use Rattle.abc_link_known.specs.Spots.{HasSpots}
use Rattle.abc_link_known.proofs.spots.spots_of_spaces.Goals as goal

pub returns : goal.returns
returns c =
    let all : c.loop-space.space ≡ c.args.count = omega arith in
    subst (λ (n : ℕ). HasSpots c.args.names.now.abc.now c.args.names.now.tables.now.numbers c.args.found.now c.loop-space.spots n) all c.loop-space.invariant
