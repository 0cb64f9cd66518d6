-- What a search passes over, and what several searches find (profile: docs/MACHINE.md, "The search").
use Rattle.std.specs.Prelude.{Bool, true, false}
use Rattle.abc_objects.specs.declared.found.Found.{Found}
use Rattle.abc_objects.specs.declared.found.Found.TheVariants.{WrongSide, Missing}
use Rattle.abc_objects.specs.declared.found.Skip.{Skip}
use Rattle.abc_objects.specs.declared.found.Skip.TheVariants.{Setters, Getters}
use Rattle.abc_objects.specs.declared.found.Want.{Want}
use Rattle.abc_objects.specs.declared.found.Want.TheVariants as wants
use Rattle.abc_objects.specs.declared.traits.Member.{Member}
use Rattle.abc_objects.specs.declared.traits.Member.TheVariants as members

-- a read, a call or a delete passes over setters, a write over getters
abbrev pub skip_for : Want → Skip
skip_for wants.Read = Setters
skip_for wants.Write = Getters

-- a search passes over such a member
abbrev pub passes_over : Skip → Member → Bool
passes_over Setters (members.Setter m) = true
passes_over Getters (members.Getter m) = true
passes_over s member = false

-- what is found by one search, and else by the next
abbrev pub or_next : Found → Found → Found
or_next Missing next = next
or_next WrongSide Missing = WrongSide
or_next WrongSide next = next
or_next hit next = hit

-- what is found is neither WrongSide nor Missing
abbrev pub is_hit : Found → Bool
is_hit WrongSide = false
is_hit Missing = false
is_hit hit = true
