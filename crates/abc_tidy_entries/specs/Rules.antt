-- The rules of tidying, each with what breaks it, and the first that is broken (profile: docs/TIDYING.md, "What is refused").
use Rattle.std.specs.Prelude.{◌≡◌, ℕ, ◌<◌, ◌≤◌, List, All, Bool, true, false, codes, length, get_or}
use Rattle.std.specs.List.{flat_map}
use Rattle.abc_base_graphs.specs.Graph.{Leads, Returns}
use Rattle.abc_tidy_refs.specs.declared.refs.Ref.{Ref}
use Rattle.abc_tidy_refs.specs.Refs.{instr_refs}
use Rattle.abc_file_types.specs.declared.code.Body.{Body}
use Rattle.abc_file_types.specs.declared.code.Instr.{Instr}
use Rattle.abc_file_types.specs.declared.methods.Method.{Method}
use Rattle.abc_file_types.specs.declared.opcodes.Pool.{Pool}
use Rattle.abc_file_types.specs.declared.opcodes.Pool.TheVariants as pools
use Rattle.abc_file_types.specs.declared.tables.Abc.{Abc}
use Rattle.abc_file_types.specs.Files.{Fits}
use Rattle.abc_tidy_entries.specs.declared.error.TidyError.{TidyError}
use Rattle.abc_tidy_entries.specs.declared.error.TidyError.TheVariants as errors
use Rattle.abc_tidy_entries.specs.declared.error.TidyRule.{TidyRule}
use Rattle.abc_tidy_entries.specs.declared.error.TidyRule.TheVariants as rules
use Rattle.abc_tidy_entries.specs.NameGraph.{name_graph}
use Rattle.abc_tidy_entries.specs.Visited.{IsTidiedValue}

-- the name of a rule, as error lines show it
abbrev pub tidy_rule_name : TidyRule → List ℕ
tidy_rule_name rules.Operand = codes "Operand"
tidy_rule_name rules.ParamName = codes "ParamName"
tidy_rule_name rules.NameCycle = codes "NameCycle"
tidy_rule_name rules.TooLarge = codes "TooLarge"

-- how many entries a pool has
abbrev pub pool_size : Abc → Pool → ℕ
pool_size v pools.NoPool = 0
pool_size v pools.Int = length v.ints
pool_size v pools.UInt = length v.uints
pool_size v pools.Double = length v.doubles
pool_size v pools.Text = length v.strings
pool_size v pools.Space = length v.namespaces
pool_size v pools.Name = length v.names

abbrev pub names_pool : Pool → Bool
names_pool pools.NoPool = false
names_pool pools.Int = true
names_pool pools.UInt = true
names_pool pools.Double = true
names_pool pools.Text = true
names_pool pools.Space = true
names_pool pools.Name = true

-- the index names an entry, or nothing
abbrev pub IsEntryThere : Abc → Ref → Type 0
IsEntryThere v r = names_pool r.pool ≡ true → r.index ≤ pool_size v r.pool

abbrev pub InstrHolds : Abc → Instr → Type 0
InstrHolds v i = All (IsEntryThere v) (instr_refs i)

abbrev pub BodyHolds : Abc → Body → Type 0
BodyHolds v b = All (IsEntryThere v) (flat_map instr_refs b.code)

abbrev pub MethodHolds : Abc → Method → Type 0
MethodHolds v m = All (λ name. name ≤ length v.strings) m.param_names

-- Some item has the index, and what should hold of it does not.
pub record IsSomeBroken {A : Type 0} (P : A → Type 0) (xs : List A) (i : ℕ) : Type 0 where
  pub item : A
  pub within : i < length xs
  pub at : get_or xs i item ≡ item
  pub breaks : P item → ⊥

-- The name is visited, and reaches itself.
pub record IsCyclic (v : Abc) (i : ℕ) : Type 0 where
  pub visited : Leads (name_graph v) 0 i
  pub returns : Returns (name_graph v) i

-- No bytes of at most 2^24 spell the tidied value.
pub record IsTooLarge (v : Abc) (i : ℕ) : Type 0 where
  pub zero : i ≡ 0
  pub tidied : Abc
  pub is : IsTidiedValue v tidied
  pub unfit : Fits tidied → ⊥

abbrev pub BreaksTidyRule : Abc → TidyRule → ℕ → Type 0
BreaksTidyRule v rules.Operand i = IsSomeBroken (BodyHolds v) v.bodies i
BreaksTidyRule v rules.ParamName i = IsSomeBroken (MethodHolds v) v.methods i
BreaksTidyRule v rules.NameCycle i = IsCyclic v i
BreaksTidyRule v rules.TooLarge i = IsTooLarge v i

-- Nothing breaks the rule.
abbrev pub HoldsTidyRule : Abc → TidyRule → Type 0
HoldsTidyRule v rule = (i : ℕ) → BreaksTidyRule v rule i → ⊥

abbrev pub HoldBefore : Abc → TidyRule → Type 0
HoldBefore v rules.Operand = Unit {0}
HoldBefore v rules.ParamName = HoldsTidyRule v rules.Operand
HoldBefore v rules.NameCycle = HoldsTidyRule v rules.Operand × HoldsTidyRule v rules.ParamName
HoldBefore v rules.TooLarge = HoldsTidyRule v rules.Operand × HoldsTidyRule v rules.ParamName × HoldsTidyRule v rules.NameCycle

-- The rules before hold, and this one is broken at no lower index.
pub record IsFirstTidyBroken (v : Abc) (rule : TidyRule) (i : ℕ) : Type 0 where
  pub before : HoldBefore v rule
  pub broken : BreaksTidyRule v rule i
  pub least : (j : ℕ) → j < i → BreaksTidyRule v rule j → ⊥

-- If the error is a refusal, its rule is the first that is broken, at its least index.
abbrev pub IsTidyError : Abc → TidyError → Type 0
IsTidyError v (errors.Refused rule index) = IsFirstTidyBroken v rule index
IsTidyError v errors.NoMemory = Unit {0}

-- No rule is broken, and this is the tidied value, which some bytes spell.
pub record IsTidied (v t : Abc) : Type 0 where
  pub operands : HoldsTidyRule v rules.Operand
  pub param_names : HoldsTidyRule v rules.ParamName
  pub names : HoldsTidyRule v rules.NameCycle
  pub value : IsTidiedValue v t
  pub fits : Fits t
