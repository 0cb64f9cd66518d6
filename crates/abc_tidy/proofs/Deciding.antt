-- A file has one tidied file, or one first broken rule.
use Rattle.std.proofs.Common.{◌≡◌, ℕ, zero, suc, ◌<◌, ◌⊎◌, inl, inr, refl, subst, arith}
use Rattle.std.proofs.lemmas.Bool.{cases_order}
use Rattle.abc_file_types.specs.declared.tables.Abc.{Abc}
use Rattle.abc_file_types.specs.Files.{Fits}
use Rattle.abc_tidy_entries.specs.declared.error.TidyRule.{TidyRule}
use Rattle.abc_tidy_entries.specs.declared.error.TidyRule.TheVariants as rules
use Rattle.abc_tidy_entries.specs.Rules.{BreaksTidyRule, HoldBefore, HoldsTidyRule, IsFirstTidyBroken, IsTidied}
use Rattle.abc_tidy_entries.specs.Visited.{IsTidiedValue}
use Rattle.abc_tidy.specs.Answers.{HasOneTidying}
use Rattle.abc_tidy.proofs.Existing.{has_value}
use Rattle.abc_tidy.proofs.Forms.{tidied_has_free}
use Rattle.abc_tidy.proofs.Kept.{kept, same}
use Rattle.abc_tidy.proofs.Same.{same_tidied}

-- ---- two answers

-- a file has one tidied value, whether bytes spell it or not
one_value : (v t u : Abc) → IsTidiedValue v t → IsTidiedValue v u → t ≡ u
one_value v t u f g = let h = tidied_has_free v t f in same_tidied v t v u h.0 f g h.1 h.1

least : (v : Abc) (rule : TidyRule) (i j : ℕ) → IsFirstTidyBroken v rule i → IsFirstTidyBroken v rule j → i ≡ j
least v rule i j f g = go (cases_order i j)
  where
    go : (i ≡ j) ⊎ ((i < j) ⊎ (j < i)) → i ≡ j
    go (inl e) = e
    go (inr (inl lt)) = absurd (g.least i lt f.broken)
    go (inr (inr lt)) = absurd (f.least j lt g.broken)

one_refusal : (v : Abc) (rule other : TidyRule) (i j : ℕ) → IsFirstTidyBroken v rule i → IsFirstTidyBroken v other j → (rule ≡ other) × (i ≡ j)
one_refusal v rules.Operand rules.Operand i j f g = (refl, least v rules.Operand i j f g)
one_refusal v rules.Operand rules.ParamName i j f g = absurd (g.before i f.broken)
one_refusal v rules.Operand rules.NameCycle i j f g = absurd (g.before.0 i f.broken)
one_refusal v rules.Operand rules.TooLarge i j f g = absurd (g.before.0 i f.broken)
one_refusal v rules.ParamName rules.Operand i j f g = absurd (f.before j g.broken)
one_refusal v rules.ParamName rules.ParamName i j f g = (refl, least v rules.ParamName i j f g)
one_refusal v rules.ParamName rules.NameCycle i j f g = absurd (g.before.1 i f.broken)
one_refusal v rules.ParamName rules.TooLarge i j f g = absurd (g.before.1 i f.broken)
one_refusal v rules.NameCycle rules.Operand i j f g = absurd (f.before.0 j g.broken)
one_refusal v rules.NameCycle rules.ParamName i j f g = absurd (f.before.1 j g.broken)
one_refusal v rules.NameCycle rules.NameCycle i j f g = (refl, least v rules.NameCycle i j f g)
one_refusal v rules.NameCycle rules.TooLarge i j f g = absurd (g.before.2 i f.broken)
one_refusal v rules.TooLarge rules.Operand i j f g = absurd (f.before.0 j g.broken)
one_refusal v rules.TooLarge rules.ParamName i j f g = absurd (f.before.1 j g.broken)
one_refusal v rules.TooLarge rules.NameCycle i j f g = absurd (f.before.2 j g.broken)
one_refusal v rules.TooLarge rules.TooLarge i j f g = (refl, least v rules.TooLarge i j f g)

never_both : (v t : Abc) (rule : TidyRule) (i : ℕ) → IsTidied v t → IsFirstTidyBroken v rule i → ⊥
never_both v t rules.Operand i is b = is.operands i b.broken
never_both v t rules.ParamName i is b = is.param_names i b.broken
never_both v t rules.NameCycle i is b = is.names i b.broken
never_both v t rules.TooLarge i is b = b.broken.unfit (subst Fits (one_value v t b.broken.tidied is.value b.broken.is) is.fits)

-- ---- some answer

-- what is true of some number is so of a least one
none_first : (P : ℕ → Type 0) → ((i : ℕ) → P i → ((j : ℕ) → j < i → P j → ⊥) → ⊥) → (n i : ℕ) → i < n → P i → ⊥
none_first P none zero i lt p = absurd (below i lt)
  where
    below : (i : ℕ) → i < 0 → ⊥
    below i l = omega arith
none_first P none (suc n) i lt p = none i p (λ j l. none_first P none n j (omega (arith, lt, l)))

module _ (v : Abc) (untidied : (t : Abc) → ¬ IsTidied v t) (unbroken : (rule : TidyRule) (i : ℕ) → ¬ IsFirstTidyBroken v rule i) where
  holds : (rule : TidyRule) → HoldBefore v rule → HoldsTidyRule v rule
  holds rule before i b = none_first (BreaksTidyRule v rule) (λ j k l. unbroken rule j (record { before = before; broken = k; least = l })) (suc i) i (omega arith) b

  operands : HoldsTidyRule v rules.Operand
  operands = holds rules.Operand tt

  param_names : HoldsTidyRule v rules.ParamName
  param_names = holds rules.ParamName operands

  names : HoldsTidyRule v rules.NameCycle
  names = holds rules.NameCycle (operands, param_names)

  neither : ⊥
  neither =
      let value = has_value v names in
      let unfit : Fits value.0 → ⊥ = λ fits. untidied value.0 (record { operands = operands; param_names = param_names; names = names; value = value.1; fits = fits }) in
      holds rules.TooLarge (operands, param_names, names) 0 (record { zero = refl; tidied = value.0; is = value.1; unfit = unfit })

pub has_one : (v : Abc) → HasOneTidying v
has_one v = record {
  some = neither v;
  one_value = λ t u f g. same v t v u f g (let k = kept v t f in record { free = k.free; first = k.first; second = k.first });
  one_refusal = one_refusal v;
  never_both = never_both v;
}
