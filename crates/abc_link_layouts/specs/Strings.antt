-- The strings of traits' names.
use Rattle.std.specs.Prelude.{ℕ, List, map}
use Rattle.abc_link_names.specs.Traits.{trait_name}
use Rattle.abc_file_types.specs.declared.tables.Abc.{Abc}
use Rattle.abc_file_types.specs.declared.traits.TraitInfo.{TraitInfo}

abbrev pub trait_strings : Abc → List TraitInfo → List ℕ
trait_strings v ts = map (λ t. (trait_name v t).string) ts
