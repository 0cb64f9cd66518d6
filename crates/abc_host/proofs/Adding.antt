-- A formula that may stand behind others keeps them such as a host may have.
use Rattle.std.proofs.Common.{◌≡◌, ◌+◌, List, [], ◌∷◌, ◌++◌, length, get_or, map, if◌then◌else◌, is_ok, Ok, Err, inl, inr, sym, ap, subst, ◌∙◌, length-append, arith}
use Rattle.std.specs.declared.result.Result.{Result}
use Rattle.std.proofs.lemmas.List.{map-append}
use Rattle.std.proofs.Math.ListN.{get_or-append}
use Rattle.std.proofs.Math.Seq.{get_or-append_seam}
use Rattle.std.proofs.lemmas.List.{get_or_default}
use Rattle.std.proofs.lemmas.List.Elements.{All-push}
use Rattle.std.proofs.lemmas.List.Quantifiers.{all_pairs_push}
use Rattle.abc_base.specs.Hosts.{AreFormulas, IsFormula, taken_names}
use Rattle.abc_base.specs.declared.formula.Formula.{Formula}
use Rattle.abc_host.specs.Tables.{IsAddable}

is_formula : (formulas : List Formula) (formula : Formula) → IsAddable formulas formula → IsFormula formula
is_formula formulas formula addable = record {
  short = addable.0.short;
  free = λ k d lt e. addable.2 (inl (k, lt, get_or_default taken_names k formula.name d lt ∙ e));
  constant = addable.0.constant;
  few = addable.0.few;
  small = addable.0.small;
}

pub formed_push : (formulas : List Formula) (formula : Formula) → AreFormulas formulas → IsAddable formulas formula → AreFormulas (formulas ++ formula ∷ [])
formed_push formulas formula formed addable = record {
  few = omega (arith, length-append formulas (formula ∷ []), addable.1);
  each = All-push IsFormula formulas formula formed.each (is_formula formulas formula addable);
  distinct = all_pairs_push (λ f g. ¬ (f.name ≡ g.name)) formulas formula formed.distinct (λ k d lt e. addable.2 (inr (k, get_or formulas k d, lt, get_or_default formulas k (get_or formulas k d) d lt, e)));
}

-- The same of a list of values with formulas, at the end of which one was put or not.
pub formed_after : {X E : Type 0} (f : X → Formula) (xs : List X) (x : X) (after : List X) (r : Result (Unit {0}) E) → AreFormulas (map f xs) → IsAddable (map f xs) (f x) → after ≡ (if is_ok r then xs ++ x ∷ [] else xs) → AreFormulas (map f after)
formed_after f xs x after (Ok _) formed addable is = subst (λ (ys : List Formula). AreFormulas ys) (sym (ap (map f) is ∙ map-append f xs (x ∷ []))) (formed_push (map f xs) (f x) formed addable)
formed_after f xs x after (Err _) formed addable is = subst (λ (ys : List _). AreFormulas (map f ys)) (sym is) formed

-- A formula that stands at the end of formulas such as a host may have may be added to those before it.
pub addable_last : (formulas : List Formula) (formula : Formula) → AreFormulas (formulas ++ formula ∷ []) → IsAddable formulas formula
addable_last formulas formula formed =
    let more : length (formulas ++ formula ∷ []) ≡ length formulas + 1 = length-append formulas (formula ∷ []) in
    let last : get_or (formulas ++ formula ∷ []) (length formulas) formula ≡ formula = get_or-append_seam formulas formula [] formula in
    let is : IsFormula formula = subst IsFormula last (formed.each (length formulas) formula (omega arith)) in (
      record { short = is.short; constant = is.constant; few = is.few; small = is.small },
      omega (arith, formed.few),
      elim [
        | inl (k, lt, at) ↦ is.free k formula.name lt at
        | inr (k, other, lt, at, same) ↦
            let there : get_or (formulas ++ formula ∷ []) k formula ≡ get_or formulas k formula = get_or-append formulas (formula ∷ []) formula k lt in
            let it : get_or formulas k formula ≡ other = get_or_default formulas k formula other lt ∙ at in
            formed.distinct k (length formulas) formula lt (omega arith) (ap (λ (f : Formula). f.name) (there ∙ it) ∙ same ∙ ap (λ (f : Formula). f.name) (sym last))
      ],
    )
