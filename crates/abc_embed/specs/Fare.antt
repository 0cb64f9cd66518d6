-- The formula of the host.
use Rattle.std.specs.Prelude.{pos, [], ◌∷◌, codes}
use Rattle.abc_base.specs.declared.formula.Formula.{Formula}

-- 300, and 25 for each stop
abbrev pub fare : Formula
fare = record { name = codes "fare"; constant = pos 300; factors = pos 25 ∷ [] }
