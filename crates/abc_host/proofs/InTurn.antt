-- Calls of `add`, one after the other.
use Rattle.std.proofs.Common.{◌≡◌, List, [], ◌∷◌, ◌++◌, if◌then◌else◌, is_ok, Ok, Err, OnOk, OnErr, sym, ap, subst, ◌∙◌}
use Rattle.std.proofs.lemmas.List.{append_assoc, append-nil}
use Rattle.std.specs.List.{FoldsTo}
use Rattle.std.specs.declared.result.Result.{Result}
use Rattle.abc_base.specs.declared.formula.Formula.{Formula}
use Rattle.abc_host.specs.Calls.{AddsFormula, AddInTurn, accepted_formulas}
use Rattle.abc_host.specs.Tables.{AddAnswer}
use Rattle.abc_host.specs.declared.entry.Entry.{Entry}
use Rattle.abc_host.specs.declared.table.AddError.{AddError}

-- what one call leaves, and more behind it
one_call : {E : Type 0} (before after more : List Formula) (formula : Formula) (answer : Result (Unit {0}) E) → OnOk answer (after ≡ before ++ formula ∷ []) → OnErr answer (after ≡ before) → after ++ more ≡ before ++ (if is_ok answer then formula ∷ more else more)
one_call before after more formula (Ok _) ok err = ap (λ (l : List Formula). l ++ more) ok ∙ append_assoc before (formula ∷ []) more
one_call before after more formula (Err _) ok err = ap (λ (l : List Formula). l ++ more) err

pub add_in_turn : {X : _} {F : _} {m : _} (first : List Formula) (calls : List (Entry X F m × Result (Unit {0}) (AddError X F m))) (last : List Formula) → FoldsTo AddsFormula first calls last → AddInTurn first calls last
add_in_turn first [] last same = record {
  means = sym same ∙ sym (append-nil first);
  answers = elim [ [] ↦ λ after call e. absurd (cc) | b ∷ before ↦ λ after call e. absurd (cc) ];
}
add_in_turn {X} {F} {m} first (call ∷ calls) last (next, one, rest) =
    let turn = add_in_turn next calls last rest in
    let leaves : (more : List Formula) → next ++ more ≡ first ++ (if is_ok call.1 then call.0.formula ∷ more else more) = λ more. one_call first next more call.0.formula call.1 one.1 one.2 in
    record {
      means = turn.means ∙ leaves (accepted_formulas calls);
      answers = elim [
        | [] ↦ λ after c e. (
            let same : call ≡ c = cc in
            subst (λ (f : List Formula). AddAnswer f c.0 c.1) (sym (append-nil first)) (subst (λ (d : Entry X F m × Result (Unit {0}) (AddError X F m)). AddAnswer first d.0 d.1) same one.0)
            )
        | b ∷ before ↦ λ after c e. (
            let same : call ≡ b = cc in
            let others : calls ≡ before ++ c ∷ after = cc in
            subst (λ (f : List Formula). AddAnswer f c.0 c.1) (leaves (accepted_formulas before) ∙ ap (λ (d : Entry X F m × Result (Unit {0}) (AddError X F m)). first ++ accepted_formulas (d ∷ before)) same) (turn.answers before after c others)
            )
      ];
    }
