-- The code's table without its padding.
use Rattle.std.specs.Prelude.{ℕ, zero, suc, ◌+◌, List, [], ◌∷◌, map, get_or}
use Rattle.std.specs.Prelude.{Some, None}
use Rattle.std.specs.declared.option.Option.{Option}
use Rattle.abc_verify_typing.specs.declared.row.Row.{Row}
use Rattle.abc_verify_typing.specs.declared.row.Need.{Need}
use Rattle.abc_verify_typing.specs.declared.row.Source.{Source}
use Rattle.abc_verify_typing.specs.declared.row.Takes.{Takes}
use Rattle.abc_verify_typing.specs.declared.row.Takes.TheVariants.{Nothing, One, Two, Three}
use Rattle.abc_verify_typing.specs.declared.row.Gives.{Gives}
use Rattle.abc_verify_typing.specs.declared.row.Gives.TheVariants.{Nothing as GivesNothing, One as GivesOne, Two as GivesTwo}
use Rattle.abc_verify_typing.specs.Rows.{Shape, row_at}

abbrev pub needs : Takes → List Need
needs Nothing = []
needs (One a) = a ∷ []
needs (Two a b) = a ∷ b ∷ []
needs (Three a b c) = a ∷ b ∷ c ∷ []

abbrev pub sources : Gives → List Source
sources GivesNothing = []
sources (GivesOne a) = a ∷ []
sources (GivesTwo a b) = a ∷ b ∷ []

abbrev pub shape_of : Row → Shape
shape_of r = record { operand = r.operand; args = r.args; takes = needs r.takes; gives = sources r.gives; locals = r.locals; scoping = r.scoping; leads = r.leads; site = r.site }

-- the row of the code's table, without its padding, if there is one
abbrev pub shape_in : Option Row → Option Shape
shape_in None = None
shape_in (Some r) = Some (shape_of r)

abbrev pub numbers_from : ℕ → ℕ → List ℕ
numbers_from zero from = []
numbers_from (suc n) from = from ∷ numbers_from n (from + 1)
