-- What many calls of `add` do, one after the other. A call is an entry with what `add` answered for it.
use Rattle.std.specs.Prelude.{◌≡◌, List, [], ◌∷◌, ◌++◌, if◌then◌else◌, is_ok, OnOk, OnErr}
use Rattle.std.specs.List.{FoldsTo}
use Rattle.std.specs.declared.result.Result.{Result}
use Rattle.abc_base.specs.declared.formula.Formula.{Formula}
use Rattle.abc_host.specs.Tables.{AddAnswer, formulas_of}
use Rattle.abc_host.specs.declared.entry.Entry.{Entry}
use Rattle.abc_host.specs.declared.table.AddError.{AddError}
use Rattle.abc_host.specs.declared.table.HostTable.{HostTable}

-- one call, by the formulas before and after it, as the clauses of `add` say
abbrev pub AddsFormula : {X : _} {F : _} {m : _} → List Formula → Entry X F m × Result (Unit {0}) (AddError X F m) → List Formula → Type 0
AddsFormula before call after = AddAnswer before call.0 call.1 × OnOk call.1 (after ≡ before ++ call.0.formula ∷ []) × OnErr call.1 (after ≡ before)

-- the formulas that the calls accepted
abbrev pub accepted_formulas : {X : _} {F : _} {m : _} → List (Entry X F m × Result (Unit {0}) (AddError X F m)) → List Formula
accepted_formulas [] = []
accepted_formulas (call ∷ calls) = (if is_ok call.1 then call.0.formula ∷ accepted_formulas calls else accepted_formulas calls)

-- the table means the formulas from before the calls and then those that they accepted, and each call answered by what was
-- accepted before it
pub record AddInTurn {X : _} {F : _} {m : _} (first : List Formula) (calls : List (Entry X F m × Result (Unit {0}) (AddError X F m))) (last : List Formula) : Type 0 where
  pub means : last ≡ first ++ accepted_formulas calls
  pub answers : (before after : List (Entry X F m × Result (Unit {0}) (AddError X F m))) (call : Entry X F m × Result (Unit {0}) (AddError X F m)) → calls ≡ before ++ call ∷ after → AddAnswer (first ++ accepted_formulas before) call.0 call.1

-- whatever the calls on the table are
abbrev pub AnyCallsAddInTurn : {X : _} {F : _} {m : _} → HostTable X F m → Type 0
AnyCallsAddInTurn {X} {F} {m} table = (calls : List (Entry X F m × Result (Unit {0}) (AddError X F m))) (last : List Formula) → FoldsTo AddsFormula (formulas_of table) calls last → AddInTurn (formulas_of table) calls last
