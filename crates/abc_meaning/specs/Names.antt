-- The name of an instruction, and the type that its operand names. A runtime name is made a text before its namespace is asked
-- (Overview, chapters 2 and 5; profile: docs/MACHINE.md, "The rules of a run").
use Rattle.std.specs.Prelude.{List, ◌∷◌, Some, None}
use Rattle.std.specs.declared.option.Option.{Option}
use Rattle.abc_base.specs.declared.names.HostClass.TheVariants as hosts
use Rattle.abc_heap_values.specs.declared.values.Value.{Value}
use Rattle.abc_heap_values.specs.declared.values.Value.TheVariants.{Null, Space}
use Rattle.abc_link_names.specs.Types.{type_of}
use Rattle.abc_link_names.specs.declared.types.Ty.{Ty}
use Rattle.abc_objects.specs.declared.name.Name.{Name}
use Rattle.abc_objects.specs.declared.name.Spaces.{Spaces}
use Rattle.abc_objects.specs.declared.name.Spaces.TheVariants as spaces
use Rattle.abc_file_types.specs.declared.names.Multiname.{Multiname}
use Rattle.abc_verify_typing.specs.Effects.{multiname_at}
use Rattle.abc_meaning.specs.Ops.{spells}
use Rattle.abc_meaning.specs.Setting.{NameForm, NoPart, NoSpace, NoText, Setting, Whole, name_form}
use Rattle.abc_meaning.specs.World.{Run, pure, some, sticks, throws, ◌>>=◌}
use Rattle.abc_meaning.specs.At.{ActCase, number_here}

abbrev pub space_of : Value → Run Spaces
space_of (Space n) = pure (spaces.One n)
space_of Null = throws hosts.TypeError
space_of v = sticks

-- the name, by its form and the parts that the stack has of it, the top first
abbrev pub name_by_form : Setting → Option NameForm → List Value → Run Name
name_by_form p (Some (Whole name)) vs = pure name
name_by_form p (Some (NoSpace text)) (s ∷ vs) = space_of s >>= λ of. pure (record { spaces = of; text = text })
name_by_form p (Some (NoText of)) (t ∷ vs) = spells p t >>= λ text. pure (record { spaces = of; text = text })
name_by_form p (Some NoPart) (t ∷ s ∷ vs) = spells p t >>= λ text. space_of s >>= λ of. pure (record { spaces = of; text = text })
name_by_form p form vs = sticks

abbrev pub form_of_name : Setting → Option Multiname → Option NameForm
form_of_name p None = None
form_of_name p (Some name) = name_form p name

abbrev pub name_of : ActCase → Run Name
name_of a = name_by_form a.setting (form_of_name a.setting (multiname_at a.setting.linked (number_here a))) a.parts

abbrev pub type_of_operand : ActCase → Run Ty
type_of_operand a = some (type_of a.setting.linked (number_here a))
