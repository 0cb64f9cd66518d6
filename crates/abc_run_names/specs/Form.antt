-- What a name of the pool leaves to be taken from the stack, as code holds it.
use Rattle.std.specs.Prelude.{ℕ, ◌<◌, ◌^◌, List, Some, None}
use Rattle.std.specs.declared.option.Option.{Option}
use Rattle.abc_heap_store.specs.Heap.{Heap}
use Rattle.abc_heap_store.specs.Texts.{IsText}
use Rattle.abc_file_types.specs.declared.names.Multiname.{Multiname}
use Rattle.abc_file_types.specs.declared.names.Multiname.TheVariants as names
use Rattle.abc_run_names.specs.declared.runtime_names.Form.{Form}
use Rattle.abc_run_names.specs.declared.runtime_names.Form.TheVariants as forms
use Rattle.abc_meaning.specs.Setting.{NameForm, NoPart, NoSpace, NoText, Whole}

abbrev pub name_form_of : Form → NameForm
name_form_of (forms.Whole name) = Whole name
name_form_of (forms.NoSpace text) = NoSpace text
name_form_of (forms.NoText of) = NoText of
name_form_of forms.NoPart = NoPart

abbrev pub forms_of : Option Form → Option NameForm
forms_of None = None
forms_of (Some f) = Some (name_form_of f)

-- a form that has its text has one that is there
abbrev pub HasFormText : List (List ℕ) → Heap → Option NameForm → Type 0
HasFormText pool h None = Unit {0}
HasFormText pool h (Some (Whole name)) = IsText pool h name.text
HasFormText pool h (Some (NoSpace text)) = IsText pool h text
HasFormText pool h (Some (NoText of)) = Unit {0}
HasFormText pool h (Some NoPart) = Unit {0}

-- the string of a name of the pool can be counted
abbrev pub HasString : Multiname → Type 0
HasString (names.QName attr ns i) = i < 2 ^ 30
HasString (names.Rt attr i) = i < 2 ^ 30
HasString (names.RtL attr) = Unit {0}
HasString (names.Multi attr i set) = i < 2 ^ 30
HasString (names.MultiL attr set) = Unit {0}
HasString (names.TypeName base params) = Unit {0}
