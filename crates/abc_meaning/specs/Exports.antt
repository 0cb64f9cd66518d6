-- The functions that a file exports: the method traits of its last script whose names are public (profile: docs/EMBEDDING.md, "A session").
use Rattle.std.specs.Prelude.{◌≡◌, ℕ, List, Bool, true, false, ◌&&◌, Some, None}
use Rattle.std.specs.declared.option.Option.{Option}
use Rattle.std.specs.List.{find}
use Rattle.std.specs.Str.{bytes_eq}
use Rattle.abc_link_names.specs.PartsByNumber.{script_at}
use Rattle.abc_link_names.specs.Pool.{is_public, name, qname, text}
use Rattle.abc_link_names.specs.declared.named.DefiniteName.{DefiniteName}
use Rattle.abc_file_types.specs.declared.tables.Abc.{Abc}
use Rattle.abc_file_types.specs.declared.traits.TraitBody.{TraitBody}
use Rattle.abc_file_types.specs.declared.traits.TraitBody.TheVariants as bodies
use Rattle.abc_file_types.specs.declared.traits.TraitInfo.{TraitInfo}
use Rattle.abc_meaning.specs.Throwing.{last_script}
use Rattle.abc_meaning.specs.Setting.{Setting}
use Rattle.abc_verify_typing.specs.Typing.{In}

abbrev pub exported_method : TraitBody → Option ℕ
exported_method (bodies.Method disp m) = Some m
exported_method other = None

abbrev pub has_public_name : Abc → List ℕ → DefiniteName → Bool
has_public_name v s d = bytes_eq (text v d.string) s && is_public v d.ns

abbrev pub is_method : Option ℕ → Bool
is_method None = false
is_method (Some m) = true

abbrev pub is_export : Abc → List ℕ → TraitInfo → Bool
is_export v s t = is_method (exported_method t.body) && has_public_name v s (qname (name v t.name))

abbrev pub method_of_trait : Option TraitInfo → Option ℕ
method_of_trait None = None
method_of_trait (Some t) = exported_method t.body

-- the method of the first such trait with that text
abbrev pub export : Setting → List ℕ → Option ℕ
export p s = method_of_trait (find (is_export p.linked.file s) (script_at p.linked.file (last_script p)).traits)

-- a method trait of the last script, which is what is exported
pub record IsScriptMethod (p : Setting) (m : ℕ) : Type 0 where
  pub trait : TraitInfo
  pub among : In trait (script_at p.linked.file (last_script p)).traits
  pub disp : ℕ
  pub is : trait.body ≡ bodies.Method disp m
