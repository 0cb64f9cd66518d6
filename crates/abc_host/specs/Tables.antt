-- What a table of stored closures means, and what adding to it answers.
use Rattle.std.specs.Prelude.{◌≡◌, ◌⊎◌, ℕ, ◌<◌, ◌≤◌, List, length, map, All, Any, Contains, Ok, Err}
use Rattle.std.specs.declared.result.Result.{Result}
use Rattle.abc_base.specs.Hosts.{IsSmall, taken_names}
use Rattle.abc_base.specs.declared.formula.Formula.{Formula}
use Rattle.abc_host.specs.declared.entry.Entry.{Entry}
use Rattle.abc_host.specs.declared.table.HostTable.{HostTable}
use Rattle.abc_host.specs.declared.table.AddError.{AddError}
use Rattle.abc_host.specs.declared.table.AddError.TheVariants as errors

-- the formula that an entry computes
abbrev pub formula_of : {X : _} {F : _} {m : _} → Entry X F m → Formula
formula_of entry = entry.formula

-- the formulas of a table's entries, in order
abbrev pub formulas_of : {X : _} {F : _} {m : _} → HostTable X F m → List Formula
formulas_of table = map (λ entry. entry.formula) table.entries.items

-- a name of at most 64 bytes, at most four factors, and numbers from -2^31 to 2^31
pub record IsWithinBounds (formula : Formula) : Type 0 where
  pub short : length formula.name ≤ 64
  pub constant : IsSmall formula.constant
  pub few : length formula.factors ≤ 4
  pub small : All IsSmall formula.factors

-- the name stands in the host object already, or is that of one of the formulas
abbrev pub IsNameTaken : List Formula → List ℕ → Type 0
IsNameTaken formulas name = Contains taken_names name ⊎ Any (λ f. f.name ≡ name) formulas

-- the formula may stand behind the others
abbrev pub IsAddable : List Formula → Formula → Type 0
IsAddable formulas formula = IsWithinBounds formula × (length formulas < 64) × ¬ IsNameTaken formulas formula.name

-- What `add` answers for an entry of this formula, behind entries of those formulas. A refusal hands the entry back; the
-- first that applies is the answer.
abbrev pub AddAnswer : {X : _} {F : _} {m : _} → List Formula → Entry X F m → Result (Unit {0}) (AddError X F m) → Type 0
AddAnswer formulas entry (Ok _) = IsAddable formulas entry.formula
AddAnswer formulas entry (Err (errors.BadFormula back)) = (back ≡ entry) × ¬ IsWithinBounds entry.formula
AddAnswer formulas entry (Err (errors.Full back)) = (back ≡ entry) × IsWithinBounds entry.formula × (length formulas ≡ 64)
AddAnswer formulas entry (Err (errors.NameTaken back)) = (back ≡ entry) × IsWithinBounds entry.formula × (length formulas < 64) × IsNameTaken formulas entry.formula.name
AddAnswer formulas entry (Err (errors.NoMemory back)) = (back ≡ entry) × IsAddable formulas entry.formula
