-- How much is taken of an input by one read and then another.
use Rattle.std.proofs.Common.{ℕ, ◌+◌, ◌≤◌, List, ◌++◌, length, arith, length-append}
use Rattle.std.proofs.KnownBytes.{Consumes-trans}
use Rattle.std.specs.Io.KnownBytes.{Consumes}
use Rattle.std.specs.declared.option.Option.{Option}
use Rattle.abc_base.specs.Taking.{TakesAtMost}

-- these bytes were taken, and then some
pub takes_behind : (a b c : Option (List ℕ)) (bytes : List ℕ) (more most : ℕ) → length bytes + more ≤ most → Consumes a b bytes → TakesAtMost b c more → TakesAtMost a c most
takes_behind a b c bytes more most few taken y = (bytes ++ y.0, Consumes-trans a b c bytes y.0 taken y.1, omega (arith, length-append bytes y.0, y.2, few))

pub takes_then : (a b c : Option (List ℕ)) (first more most : ℕ) → first + more ≤ most → TakesAtMost a b first → TakesAtMost b c more → TakesAtMost a c most
takes_then a b c first more most few x y = takes_behind a b c x.0 more most (omega (arith, x.2, few)) x.1 y

pub takes_more : (a b : Option (List ℕ)) (few most : ℕ) → few ≤ most → TakesAtMost a b few → TakesAtMost a b most
takes_more a b few most fits x = (x.0, x.1, omega (arith, x.2, fits))
