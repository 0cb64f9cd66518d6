-- For the prover alone: new numbers for a file's entries, and the pools of those that stay, which make its tidied value.
use Rattle.abc_tidy_refs.specs.declared.nodes.Numbers.{Numbers}
use Rattle.abc_tidy_refs.specs.Nodes.{new_index}
use Rattle.abc_tidy_refs.specs.Renumbered.{beside, new_file}
use Rattle.abc_file_types.specs.declared.tables.Abc.{Abc}
use Rattle.abc_tidy_entries.specs.declared.error.TidyRule.TheVariants as rules
use Rattle.abc_tidy_entries.specs.Rules.{HoldsTidyRule}
use Rattle.abc_tidy_entries.specs.Visited.{IsTidiedValue}

pub record IsPlan (v : Abc) (numbers : Numbers) (pools : Abc) : Type 0 where
  pub operands : HoldsTidyRule v rules.Operand
  pub param_names : HoldsTidyRule v rules.ParamName
  pub names : HoldsTidyRule v rules.NameCycle
  pub value : IsTidiedValue v (beside (new_file (new_index numbers) v) pools)
