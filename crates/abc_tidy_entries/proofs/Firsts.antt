-- The first item that is broken.
use Rattle.std.proofs.Common.{◌≡◌, ℕ, ◌+◌, ◌<◌, ◌≤◌, ◌⊎◌, inl, inr, List, length, get_or, sym, ap, subst, ◌∙◌, arith}
use Rattle.std.proofs.lemmas.Bool.{cases_lt}
use Rattle.std.proofs.lemmas.List.{get_or_default}
use Rattle.abc_file_types.specs.declared.code.Body.{Body}
use Rattle.abc_file_types.specs.declared.methods.Method.{Method}
use Rattle.abc_file_types.specs.declared.tables.Abc.{Abc}
use Rattle.abc_tidy_entries.specs.declared.error.TidyRule.TheVariants as rules
use Rattle.abc_tidy_entries.specs.Firsts.{HoldBelow, IsFirstPlace}
use Rattle.abc_tidy_entries.specs.Rules.{BodyHolds, HoldsTidyRule, IsSomeBroken, IsFirstTidyBroken, MethodHolds}
use Rattle.std.proofs.Common.{Some, None}

below_zero : (x : ℕ) → x < 0 → ⊥
below_zero x lt = omega arith

pub same_item : {A : Type 0} (xs : List A) (i : ℕ) (a b : A) → i < length xs → get_or xs i a ≡ a → get_or xs i b ≡ b → a ≡ b
same_item xs i a b lt p q = sym p ∙ get_or_default xs i a b lt ∙ q

pub holds_next : {A : Type 0} (P : A → Type 0) (xs : List A) (i : ℕ) (x : A) → HoldBelow P xs i → i < length xs → get_or xs i x ≡ x → P x → HoldBelow P xs (i + 1)
holds_next {A} P xs i x before lt at holds = λ j l b. go j l b (cases_lt j i)
  where
    go : (j : ℕ) → j < i + 1 → IsSomeBroken P xs j → (j < i) ⊎ (i ≤ j) → ⊥
    go j l b (inl h) = before j h b
    go j l b (inr h) =
        let q : j ≡ i = omega arith in
        b.breaks (subst P (same_item xs j x b.item b.within (ap (λ n. get_or xs n x) q ∙ at) b.at) holds)

pub found : {A : Type 0} (P : A → Type 0) (xs : List A) (i : ℕ) (x : A) → HoldBelow P xs i → i < length xs → get_or xs i x ≡ x → (P x → ⊥) → IsFirstPlace P xs (Some i)
found P xs i x before lt at breaks = (record { item = x; within = lt; at = at; breaks = breaks }, before)

pub none_found : {A : Type 0} (P : A → Type 0) (xs : List A) (n : ℕ) → HoldBelow P xs n → length xs ≤ n → IsFirstPlace P xs None
none_found P xs n before le = λ i b. before i (let w = b.within in omega arith) b

pub none_before : {A : Type 0} (P : A → Type 0) (xs : List A) → HoldBelow P xs 0
none_before P xs = λ j lt b. below_zero j lt

pub at_zero : (xs : List ℕ) (i r : ℕ) → i < length xs → get_or xs i r ≡ r → r ≡ get_or xs i 0
at_zero xs i r lt e = sym e ∙ get_or_default xs i r 0 lt

-- ---- the rules of indices

pub refused_body : (v : Abc) (i : ℕ) (x : Body) → HoldBelow (BodyHolds v) v.bodies i → i < length v.bodies → get_or v.bodies i x ≡ x → (BodyHolds v x → ⊥) → IsFirstTidyBroken v rules.Operand i
refused_body v i x before lt at breaks = record { before = tt; broken = record { item = x; within = lt; at = at; breaks = breaks }; least = before }

pub refused_method : (v : Abc) (i : ℕ) (x : Method) → HoldsTidyRule v rules.Operand → HoldBelow (MethodHolds v) v.methods i → i < length v.methods → get_or v.methods i x ≡ x → (MethodHolds v x → ⊥) → IsFirstTidyBroken v rules.ParamName i
refused_method v i x first before lt at breaks = record { before = first; broken = record { item = x; within = lt; at = at; breaks = breaks }; least = before }
