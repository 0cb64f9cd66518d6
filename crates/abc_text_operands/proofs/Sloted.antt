-- The values of slots.
use Rattle.std.proofs.Common.{◌≡◌, ℕ, zero, suc, ◌<◌, ◌==◌, List, [], ◌∷◌, length, true, false, Some, None, Ok, Err, refl, sym, ap, ◌∙◌, arith}
use Rattle.std.specs.declared.option.Option.{Option}
use Rattle.std.specs.declared.result.Result.{Result}
use Rattle.abc_text_lines.specs.declared.reason.AsmReason.{AsmReason}
use Rattle.abc_text_lines.specs.declared.reason.AsmReason.TheVariants as reasons
use Rattle.abc_text_lines.specs.Reasons.{rank_of_reason}
use Rattle.abc_text_lines.specs.Tokens.{Token}
use Rattle.abc_text_lines.specs.Lines.{Label}
use Rattle.abc_text_lines.specs.Operands.{any_number, by, none, u30_operand, value_if_any}
use Rattle.abc_file_types.specs.declared.methods.ValueKind.{ValueKind}
use Rattle.abc_file_types.specs.declared.tables.Sizes.{Sizes}
use Rattle.abc_text_lines.specs.Kinds.{value_kind_operand}
use Rattle.abc_text_lines.specs.Lineforms.{kind_or, slot_kind_operand, slot_rest, slot_value_operand, slot_value_in, slot_value_of_parts}
use Rattle.abc_text_tokens.specs.declared.token.Token as code
use Rattle.abc_text_tokens.specs.Walks.{token_as_text, tokens_of}
use Rattle.abc_text_operands.specs.Joined.{earlier_reason, both_or_reason, line_result, map_operand}
use Rattle.abc_text_operands.proofs.Joining.{badly_counted, one_result, seen_mapped}
use Rattle.abc_text_operands.proofs.Kinded.{none_bad, none_good, single_bad, single_good}
use Rattle.abc_text_operands.specs.Numbered.{unknown_value}
use Rattle.abc_text_operands.proofs.Late.{IsLate, by_late, u30_late, wrong_behind}

abbrev after : Sizes → List Label → List Token → Option ℕ → Result (Option ValueKind) AsmReason
after v labels ts o = line_result (slot_rest v o) labels ts

pub slot_empty : (v : Sizes) (labels : List Label) (ts : List code.Token) → ts ≡ [] → line_result (slot_value_operand v) labels (tokens_of ts) ≡ Err reasons.Operands
unfolding slot_value_operand
slot_empty v labels ts e = ap (λ l. line_result (slot_value_operand v) labels (tokens_of l)) e ∙ badly_counted (slot_value_operand v) labels [] refl

slot_next : (v : Sizes) (labels : List Label) (t : Token) (ts : List Token) → line_result (slot_value_operand v) labels (t ∷ ts) ≡ map_operand slot_value_of_parts (both_or_reason (u30_operand.reads labels t) (after v labels ts (value_if_any (u30_operand.reads labels t))))
unfolding slot_value_operand
slot_next v labels t ts = seen_mapped slot_value_of_parts slot_value_in (by u30_operand (slot_rest v)) labels (t ∷ ts) ∙ ap (map_operand slot_value_of_parts) (by_late u30_operand (slot_rest v) labels t ts (u30_late labels t))

with_index : (n : ℕ) (s : Result (Option ValueKind) AsmReason) → map_operand slot_value_of_parts (both_or_reason (Ok n) s) ≡ map_operand (λ o. slot_value_of_parts (n, o)) s
with_index n (Ok o) = refl
with_index n (Err r) = refl

pub slot_known : (v : Sizes) (labels : List Label) (ts : List code.Token) (t : code.Token) (others : List code.Token) (n : ℕ) → ts ≡ t ∷ others → Ok n ≡ u30_operand.reads [] (token_as_text t) → line_result (slot_value_operand v) labels (tokens_of ts) ≡ map_operand (λ o. slot_value_of_parts (n, o)) (after v labels (tokens_of others) (Some n))
unfolding any_number
slot_known v labels ts t others n e is =
    ap (λ l. line_result (slot_value_operand v) labels (tokens_of l)) e
    ∙ slot_next v labels (token_as_text t) (tokens_of others)
    ∙ ap (λ (r : Result ℕ AsmReason). map_operand slot_value_of_parts (both_or_reason r (after v labels (tokens_of others) (value_if_any r)))) (sym is)
    ∙ with_index n (after v labels (tokens_of others) (Some n))

-- ---- a kind behind an index

pub kind_bad : (v : Sizes) (labels : List Label) (n : ℕ) (ts : List code.Token) → ¬ (length ts ≡ 1) → after v labels (tokens_of ts) (Some (suc n)) ≡ Err reasons.Operands
kind_bad v labels n ts many = single_bad (λ x. Some x.0) (λ o. (kind_or o, tt)) (slot_kind_operand v (suc n)) ts labels many

pub kind_good : (v : Sizes) (labels : List Label) (n : ℕ) (ts : List code.Token) (t : code.Token) (r : Result ValueKind AsmReason) → ts ≡ t ∷ [] → r ≡ (slot_kind_operand v (suc n)).reads [] (token_as_text t) → after v labels (tokens_of ts) (Some (suc n)) ≡ map_operand (λ k. Some k) r
unfolding value_kind_operand
kind_good v labels n ts t r e is = single_good (λ x. Some x.0) (λ o. (kind_or o, tt)) (slot_kind_operand v (suc n)) ts t labels r e is

pub known_bad : (v : Sizes) (labels : List Label) (value : ℕ) (ts : List code.Token) → ¬ (value ≡ 0) → ¬ (length ts ≡ 1) → Err reasons.Operands ≡ map_operand (λ o. slot_value_of_parts (value, o)) (after v labels (tokens_of ts) (Some value))
known_bad v labels zero ts some many = absurd (some refl)
known_bad v labels (suc n) ts some many = sym (ap (map_operand (λ o. slot_value_of_parts (suc n, o))) (kind_bad v labels n ts many))

pub known_good : (v : Sizes) (labels : List Label) (value : ℕ) (ts : List code.Token) (t : code.Token) (r : Result ValueKind AsmReason) → ¬ (value ≡ 0) → ts ≡ t ∷ [] → r ≡ (slot_kind_operand v value).reads [] (token_as_text t) → map_operand (λ k. Some (record { kind = k; value = value })) r ≡ map_operand (λ o. slot_value_of_parts (value, o)) (after v labels (tokens_of ts) (Some value))
known_good v labels zero ts t r some e is = absurd (some refl)
known_good v labels (suc n) ts t (Ok k) some e is = sym (ap (map_operand (λ o. slot_value_of_parts (suc n, o))) (kind_good v labels n ts t (Ok k) e is))
known_good v labels (suc n) ts t (Err x) some e is = sym (ap (map_operand (λ o. slot_value_of_parts (suc n, o))) (kind_good v labels n ts t (Err x) e is))

pub none_empty : (v : Sizes) (labels : List Label) (ts : List code.Token) → (length ts == 0) ≡ true → map_operand (λ o. slot_value_of_parts (0, o)) (after v labels (tokens_of ts) (Some 0)) ≡ Ok None
none_empty v labels ts e = ap (map_operand (λ o. slot_value_of_parts (0, o))) (none_good (λ x. None) (λ o. tt) ts labels e)

pub none_more : (v : Sizes) (labels : List Label) (ts : List code.Token) → (length ts == 0) ≡ false → map_operand (λ o. slot_value_of_parts (0, o)) (after v labels (tokens_of ts) (Some 0)) ≡ Err reasons.Operands
none_more v labels ts e = ap (map_operand (λ o. slot_value_of_parts (0, o))) (none_bad (λ x. None) (λ o. tt) ts labels e)

-- ---- an index that is none

late_reason : (r : AsmReason) (s : Result ℕ AsmReason) → s ≡ Err r → IsLate s → 4 < rank_of_reason r
late_reason r (Ok n) e late = absurd cc
late_reason r (Err x) e late = let same : x ≡ r = cc in let l : 4 < rank_of_reason x = late in omega (arith, l, ap rank_of_reason same)

unknown_told : (r : AsmReason) (s : Result ValueKind AsmReason) → map_operand slot_value_of_parts (both_or_reason {A = ℕ} (Err r) (map_operand (λ k. Some k) s)) ≡ Err (earlier_reason r s)
unknown_told r (Ok k) = refl
unknown_told r (Err s) = refl

rest_none : (v : Sizes) (labels : List Label) (r : AsmReason) → 4 < rank_of_reason r → (ts : List Token) → map_operand slot_value_of_parts (both_or_reason {A = ℕ} (Err r) (after v labels ts None)) ≡ Err (unknown_value r labels ts)
rest_none v labels r late [] = ap (λ (x : Result (Option ValueKind) AsmReason). map_operand slot_value_of_parts (both_or_reason {A = ℕ} (Err r) x)) (badly_counted (slot_rest v None) labels [] refl) ∙ late_wrong r late
  where
    late_wrong : (r : AsmReason) → 4 < rank_of_reason r → map_operand slot_value_of_parts (both_or_reason {A = ℕ} (Err r) (Err reasons.Operands)) ≡ Err reasons.Operands
    late_wrong r late = ap (map_operand slot_value_of_parts) (wrong_behind {A = ℕ} {B = Option ValueKind} (Err r) late)
rest_none v labels r late (t ∷ []) = ap (λ (x : Result (Option ValueKind) AsmReason). map_operand slot_value_of_parts (both_or_reason {A = ℕ} (Err r) x)) (one_result (λ x. Some x.0) (λ o. (kind_or o, tt)) value_kind_operand labels t) ∙ unknown_told r (value_kind_operand.reads labels t)
rest_none v labels r late (t ∷ u ∷ ts) = ap (λ (x : Result (Option ValueKind) AsmReason). map_operand slot_value_of_parts (both_or_reason {A = ℕ} (Err r) x)) (badly_counted (slot_rest v None) labels (t ∷ u ∷ ts) refl) ∙ ap (map_operand slot_value_of_parts) (wrong_behind {A = ℕ} {B = Option ValueKind} (Err r) late)

pub slot_unknown : (v : Sizes) (labels : List Label) (ts : List code.Token) (t : code.Token) (others : List code.Token) (r told_ : AsmReason) → ts ≡ t ∷ others → Err r ≡ u30_operand.reads [] (token_as_text t) → told_ ≡ unknown_value r labels (tokens_of others) → line_result (slot_value_operand v) labels (tokens_of ts) ≡ Err told_
unfolding any_number
slot_unknown v labels ts t others r told_ e is same =
    ap (λ l. line_result (slot_value_operand v) labels (tokens_of l)) e
    ∙ slot_next v labels (token_as_text t) (tokens_of others)
    ∙ ap (λ (x : Result ℕ AsmReason). map_operand slot_value_of_parts (both_or_reason x (after v labels (tokens_of others) (value_if_any x)))) (sym is)
    ∙ rest_none v labels r (late_reason r (u30_operand.reads labels (token_as_text t)) (sym is) (u30_late labels (token_as_text t))) (tokens_of others)
    ∙ ap (λ (x : AsmReason). Err x) (sym same)
