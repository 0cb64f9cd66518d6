-- The class whose instances have a method, by the method's owner.
use Rattle.std.specs.Prelude.{◌≡◌, ℕ, true, is_some, Some, None}
use Rattle.std.specs.declared.option.Option.{Option}
use Rattle.abc_link_names.specs.Linked.{LinkedFile}
use Rattle.abc_link_names.specs.declared.types.Owner.{Owner}
use Rattle.abc_link_names.specs.declared.types.Owner.TheVariants.{Iinit, Instance}
use Rattle.abc_verify_typing.specs.declared.row.Site.TheVariants.{OnInstance}
use Rattle.abc_verify_typing.specs.Routines.{home_of}
use Rattle.abc_verify_typing.specs.Rules.{super_layout}

abbrev pub class_of_owner : Owner → Option ℕ
class_of_owner (Iinit k) = Some k
class_of_owner (Instance k) = Some k
class_of_owner other = None

-- a super operation may stand in a method of this owner
abbrev pub HasHome : LinkedFile → Owner → Type 0
HasHome l owner = is_some (super_layout OnInstance (home_of l owner)) ≡ true
