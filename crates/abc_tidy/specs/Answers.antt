-- What tidying answers of any file.
use Rattle.std.specs.Prelude.{◌≡◌, ℕ}
use Rattle.abc_file_types.specs.declared.tables.Abc.{Abc}
use Rattle.abc_tidy_entries.specs.declared.error.TidyRule.{TidyRule}
use Rattle.abc_tidy_entries.specs.Rules.{IsFirstTidyBroken, IsTidied}

-- A file has exactly one tidied file, or exactly one rule is the first that is broken, at exactly one index, and never both.
pub record HasOneTidying (v : Abc) : Type 0 where
  -- it can't be that there is neither
  pub some : ((t : Abc) → ¬ IsTidied v t) → ((rule : TidyRule) (i : ℕ) → ¬ IsFirstTidyBroken v rule i) → ⊥
  pub one_value : (t u : Abc) → IsTidied v t → IsTidied v u → t ≡ u
  pub one_refusal : (rule other : TidyRule) (i j : ℕ) → IsFirstTidyBroken v rule i → IsFirstTidyBroken v other j → (rule ≡ other) × (i ≡ j)
  pub never_both : (t : Abc) (rule : TidyRule) (i : ℕ) → IsTidied v t → IsFirstTidyBroken v rule i → ⊥
