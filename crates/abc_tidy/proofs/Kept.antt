-- What follows of tidied files from their free forms.
use Rattle.std.proofs.Common.{◌≡◌, ℕ, Err, MatchResult, Ok, Result, refl, sym, subst}
use Rattle.abc_tidy.specs.Free.{HaveOneFree, IsFreeForm}
use Rattle.abc_tidy.proofs.Forms.{one_free, tidied_has_free}
use Rattle.abc_file_types.specs.declared.tables.Abc.{Abc}
use Rattle.abc_file_types.specs.Files.{Fits}
use Rattle.abc_tidy_entries.specs.declared.error.TidyError.{TidyError}
use Rattle.abc_tidy_entries.specs.declared.error.TidyError.TheVariants as errors
use Rattle.abc_tidy_entries.specs.declared.error.TidyRule.{TidyRule}
use Rattle.abc_tidy_entries.specs.declared.error.TidyRule.TheVariants as rules
use Rattle.abc_tidy_entries.specs.Rules.{IsFirstTidyBroken, IsTidied, IsTidyError}
use Rattle.abc_tidy.proofs.Again.{no_cycle, no_operand, no_param_name}
use Rattle.abc_tidy.proofs.Back.{all_refs_there, free_kept}
use Rattle.abc_tidy.proofs.Same.{same_tidied}

pub kept : (v t : Abc) → IsTidied v t → HaveOneFree v t
kept v t is = let f = tidied_has_free v t is.value in record { free = f.0; first = f.1; second = free_kept v t is.value f.0 f.1 }

pub same : (v t w u : Abc) → IsTidied v t → IsTidied w u → HaveOneFree v w → t ≡ u
same v t w u f g h = same_tidied v t w u h.free f.value g.value h.first h.second

pub one_form : (v t w u : Abc) → IsTidied v t → IsTidied w u → t ≡ u → HaveOneFree v w
one_form v t w u f g e =
    let a = kept v t f in
    let b = kept w u g in
    record { free = a.free; first = a.first; second = subst (IsFreeForm w) (sym (one_free u a.free b.free (subst (λ x. IsFreeForm x a.free) e a.second) b.second)) b.first }

-- a tidied file breaks no rule
refused : (v t : Abc) (rule : TidyRule) (i : ℕ) → IsTidied v t → IsFirstTidyBroken t rule i → ⊥
refused v t rules.Operand i is b = no_operand t i (all_refs_there v t is.value) b.broken
refused v t rules.ParamName i is b = no_param_name t i (all_refs_there v t is.value) b.broken
refused v t rules.NameCycle i is b = let k = kept v t is in no_cycle t k.second.trees i k.second.rooted b.broken
refused v t rules.TooLarge i is b =
    let k = kept v t is in
    let e : t ≡ b.broken.tidied = same_tidied v t t b.broken.tidied k.free is.value b.broken.is k.first k.second in
    b.broken.unfit (subst Fits e is.fits)

-- what tidying a tidied file answers
pub answered : (v t : Abc) (answer : Result Abc TidyError) → IsTidied v t → MatchResult answer (IsTidied t) (IsTidyError t) → MatchResult answer (λ u. u ≡ t) (λ e. e ≡ errors.NoMemory)
answered v t (Ok u) is g = sym (same v t t u is g (kept v t is))
answered v t (Err (errors.Refused rule i)) is g = absurd (refused v t rule i is g)
answered v t (Err errors.NoMemory) is g = refl
