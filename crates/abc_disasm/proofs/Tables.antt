-- The lines of each table can be written and read back, and name no number of an instruction.
use Rattle.std.proofs.Common.{ℕ, ◌++◌, map, refl}
use Rattle.abc_text_lines.specs.declared.word.Word.TheVariants as words
use Rattle.abc_file_types.specs.declared.tables.Sizes.{Sizes}
use Rattle.abc_text_lines.specs.Rows.{Faults}
use Rattle.abc_text_lines.specs.Wordlines.{always, flat_lines, lines_of_word}
use Rattle.abc_text_lines.specs.File as file
use Rattle.abc_text_lines.specs.Lineforms.{entry_line, implements_line, instance_line, method_index_line, method_line, number_line, option_line, param_line, protected_line, string_index_line, trait_line, trait_metadata_line}
use Rattle.abc_disasm.proofs.ReadForms.{entry-shown, implements-shown, instance-shown, method-shown, method_index-shown, number-shown, option-shown, param-shown, protected-shown, string_index-shown, trait-shown, trait_metadata-shown}
use Rattle.abc_disasm.proofs.Standing.{Listed, flat-sits, line-sits, many-sits, optional-sits, two_sit}

module _ (leads : ℕ → Type 0) (v : Sizes) (instances : ℕ) where
  pub traits-sit : (faults : Faults) (n : ℕ) → Listed leads (file.traits v instances faults n)
  unfolding file.traits
  traits-sit faults n ts fit =
      many-sits leads (lines_of_word words.Trait (trait_line v) (file.MetadataAgrees v instances)) (flat_lines faults words.TraitMetadata (trait_metadata_line v) n) (line-sits leads words.Trait (trait_line v) (file.MetadataAgrees v instances) refl (trait-shown leads v))
      (flat-sits leads faults words.TraitMetadata (trait_metadata_line v) n refl (trait_metadata-shown leads v)) (map _ ts) fit

  method_below-sits : (n : ℕ) → Listed leads (file.method_below v instances n)
  unfolding file.method_below
  method_below-sits n x fit =
      let fs = file.faults v instances in
      two_sit leads ((flat_lines fs words.Param (param_line v) n).shows x.0) ((flat_lines fs words.Optional (option_line v) n).shows x.1.0 ++ (flat_lines fs words.ParamName number_line n).shows x.1.1) (flat-sits leads fs words.Param (param_line v) n refl (param-shown leads v) x.0 fit.0)
      (two_sit leads ((flat_lines fs words.Optional (option_line v) n).shows x.1.0) ((flat_lines fs words.ParamName number_line n).shows x.1.1) (flat-sits leads fs words.Optional (option_line v) n refl (option-shown leads v) x.1.0 fit.1.0)
      (flat-sits leads fs words.ParamName number_line n refl (number-shown leads v) x.1.1 fit.1.1))

  pub methods-sit : (n : ℕ) → Listed leads (file.methods v instances n)
  unfolding file.methods
  methods-sit n ms fit = many-sits leads (lines_of_word words.Method (method_line v) (file.MethodAgrees v instances)) (file.method_below v instances n) (line-sits leads words.Method (method_line v) (file.MethodAgrees v instances) refl (method-shown leads v)) (method_below-sits n) (map _ ms) fit

  pub metadata-sit : (n : ℕ) → Listed leads (file.metadata v instances n)
  unfolding file.metadata
  metadata-sit n ms fit =
      let fs = file.faults v instances in
      many-sits leads (lines_of_word words.Metadata (string_index_line v) always) (flat_lines fs words.Entry (entry_line v) n) (line-sits leads words.Metadata (string_index_line v) always refl (string_index-shown leads v)) (flat-sits leads fs words.Entry (entry_line v) n refl (entry-shown leads v)) ms fit

  instance_below-sits : (n : ℕ) → Listed leads (file.instance_below v instances n)
  unfolding file.instance_below
  instance_below-sits n x fit =
      let fs = file.faults v instances in
      let a = (flat_lines fs words.Protected (protected_line v) n).shows x.0 in
      let b = (flat_lines fs words.Implements (implements_line v) n).shows x.1.0 in
      two_sit leads a (b ++ _) (flat-sits leads fs words.Protected (protected_line v) n refl (protected-shown leads v) x.0 fit.0)
      (two_sit leads b _ (flat-sits leads fs words.Implements (implements_line v) n refl (implements-shown leads v) x.1.0 fit.1.0)
      (optional-sits leads (lines_of_word words.Initializer (method_index_line v) always) (file.traits v instances fs n) (line-sits leads words.Initializer (method_index_line v) always refl (method_index-shown leads v)) (traits-sit fs n) x.1.1 fit.1.1))

  pub instances-sit : (n : ℕ) → Listed leads (file.instance_lines v instances n)
  unfolding file.instance_lines
  instances-sit n xs fit =
      many-sits leads (lines_of_word words.Instance (instance_line v) (file.InstanceAgrees v instances)) (file.instance_below v instances n) (line-sits leads words.Instance (instance_line v) (file.InstanceAgrees v instances) refl (instance-shown leads v)) (instance_below-sits n) xs fit

  pub classes-sit : (n : ℕ) → Listed leads (file.classes v instances n)
  unfolding file.classes
  classes-sit n cs fit =
      let fs = file.faults v instances in
      many-sits leads (lines_of_word words.Class (method_index_line v) (file.ClassAgrees v instances)) (file.traits v instances fs n) (line-sits leads words.Class (method_index_line v) (file.ClassAgrees v instances) refl (method_index-shown leads v)) (traits-sit fs n) (map _ cs) fit

  pub scripts-sit : (n : ℕ) → Listed leads (file.scripts v instances n)
  unfolding file.scripts
  scripts-sit n ss fit =
      let fs = file.faults v instances in
      many-sits leads (lines_of_word words.Script (method_index_line v) always) (file.traits v instances fs n) (line-sits leads words.Script (method_index_line v) always refl (method_index-shown leads v)) (traits-sit fs n) (map _ ss) fit
