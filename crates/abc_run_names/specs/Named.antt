-- The name of an instruction, whose parts of run time stand on the stack under so many operands.
use Rattle.std.specs.Prelude.{ℕ, ◌+◌, ◌<◌, List, [], ◌∷◌, length, Some, None}
use Rattle.std.specs.declared.option.Option.{Option}
use Rattle.abc_heap_values.specs.declared.values.Value.{Value}
use Rattle.abc_heap_values.specs.declared.values.Value.TheVariants.{Undefined, Null, Num, Bool as Truth, Text, Space, Obj}
use Rattle.abc_objects.specs.declared.name.Name.{Name}
use Rattle.abc_frames.specs.Frame.{Frame}
use Rattle.abc_verify_typing.specs.Effects.{multiname_at}
use Rattle.abc_meaning.specs.Names.{form_of_name, name_by_form}
use Rattle.abc_run_state.specs.Operands.{operand_at}
use Rattle.abc_meaning.specs.Setting.{NameForm, NoPart, NoSpace, NoText, Setting, Whole}
use Rattle.abc_meaning.specs.World.{Run}

-- the form of a name of the pool: which of its parts the stack has
abbrev pub name_form_at : Setting → ℕ → Option NameForm
name_form_at p n = form_of_name p (multiname_at p.linked n)

-- the parts, the top first
abbrev pub parts_for : Option NameForm → ℕ → Frame → List Value
parts_for None above f = []
parts_for (Some (Whole name)) above f = []
parts_for (Some (NoSpace text)) above f = operand_at above f ∷ []
parts_for (Some (NoText of)) above f = operand_at above f ∷ []
parts_for (Some NoPart) above f = operand_at above f ∷ operand_at (above + 1) f ∷ []

-- they are there
abbrev pub HasNameParts : Option NameForm → ℕ → Frame → Type 0
HasNameParts None above f = Unit {0}
HasNameParts (Some (Whole name)) above f = Unit {0}
HasNameParts (Some (NoSpace text)) above f = above < length f.stack
HasNameParts (Some (NoText of)) above f = above < length f.stack
HasNameParts (Some NoPart) above f = above + 1 < length f.stack

-- the name of an instruction, whose parts are under so many operands
abbrev pub named_here : Setting → (name above : ℕ) → Frame → Run Name
named_here p n above f = name_by_form p (name_form_at p n) (parts_for (name_form_at p n) above f)

-- a namespace that comes at run time is one, or null
abbrev pub IsSpaceOrNull : Value → Type 0
IsSpaceOrNull Null = Unit {0}
IsSpaceOrNull (Space n) = Unit {0}
IsSpaceOrNull Undefined = ⊥
IsSpaceOrNull (Num n) = ⊥
IsSpaceOrNull (Truth b) = ⊥
IsSpaceOrNull (Text t) = ⊥
IsSpaceOrNull (Obj o) = ⊥

-- how many parts come at run time
abbrev pub name_parts_count : Option NameForm → ℕ
name_parts_count None = 0
name_parts_count (Some (Whole name)) = 0
name_parts_count (Some (NoSpace text)) = 1
name_parts_count (Some (NoText of)) = 1
name_parts_count (Some NoPart) = 2
