-- The operands of traits.
use Rattle.std.proofs.Common.{◌≡◌, ℕ, Bool, true, false, List, [], ◌∷◌, length, Some, None, Ok, Err, refl, sym, ap, ◌∙◌}
use Rattle.std.specs.declared.option.Option.{Option}
use Rattle.std.specs.declared.result.Result.{Result}
use Rattle.abc_text_lines.specs.declared.reason.AsmReason.{AsmReason}
use Rattle.abc_text_lines.specs.declared.reason.AsmReason.TheVariants as reasons
use Rattle.abc_text_lines.specs.Tokens.{Token}
use Rattle.abc_text_lines.specs.Lines.{Label}
use Rattle.abc_text_lines.specs.Operands.{any_number, by, entry_upto, index_upto, number_below, map_operands, u30_operand, ◌&◌}
use Rattle.abc_file_types.specs.declared.methods.OptionValue.{OptionValue}
use Rattle.abc_file_types.specs.declared.tables.Sizes.{Sizes}
use Rattle.abc_file_types.specs.declared.traits.TraitBody.{TraitBody}
use Rattle.abc_file_types.specs.declared.traits.TraitBody.TheVariants as bodies
use Rattle.abc_file_types.specs.declared.traits.TraitKind.{TraitKind}
use Rattle.abc_file_types.specs.declared.traits.TraitKind.TheVariants as traits
use Rattle.abc_file_types.specs.Traits.{trait_kind_in}
use Rattle.abc_text_lines.specs.Kinds.{trait_kind_operand}
use Rattle.abc_text_lines.specs.Lineforms.{TraitHead, pair_fields, pair_in, slot_fields, slot_parts, slot_value_operand, trait_operands, trait_line, trait_rest}
use Rattle.abc_text_tokens.specs.declared.token.Token as code
use Rattle.abc_text_tokens.specs.Walks.{token_as_text, tokens_of}
use Rattle.abc_text_operands.specs.Joined.{both_or_reason, line_result, map_operand}
use Rattle.abc_text_operands.proofs.Joining.{badly_counted, seen_mapped}
use Rattle.abc_text_operands.proofs.Kinded.{by_known, by_unknown, unseen_is}
use Rattle.abc_text_operands.specs.Numbered.{numbered_trait, is_numbered, pair_result, size_of_table, slot_kind_of}
use Rattle.abc_text_operands.proofs.Late.{below_late, entry_late, next_late, u30_late, upto_late}

second : {A B : Type 0} (k : A) (s : Result B AsmReason) → map_operand (λ (x : A × B). x.1) (both_or_reason (Ok k) s) ≡ s
second k (Ok y) = refl
second k (Err r) = refl

abbrev head_of : TraitKind × TraitHead → TraitHead
head_of x = x.1

pub trait_known : (v : Sizes) (labels : List Label) (ts : List code.Token) (t : code.Token) (others : List code.Token) (k : TraitKind) → ts ≡ t ∷ others → Ok k ≡ trait_kind_operand.reads [] (token_as_text t) → line_result (trait_line v) labels (tokens_of ts) ≡ line_result (trait_rest v (Some k)) labels (tokens_of others)
unfolding trait_line trait_kind_operand
trait_known v labels ts t others k e known =
    ap (λ l. line_result (trait_line v) labels (tokens_of l)) e
    ∙ seen_mapped head_of (λ t. (trait_kind_in t.body, t)) (by trait_kind_operand (trait_rest v)) labels (token_as_text t ∷ tokens_of others)
    ∙ ap (map_operand head_of) (by_known trait_kind_operand (trait_rest v) labels (token_as_text t) (tokens_of others) k (sym known))
    ∙ second k (line_result (trait_rest v (Some k)) labels (tokens_of others))

pub trait_unknown : (v : Sizes) (labels : List Label) (ts : List code.Token) (t : code.Token) (others : List code.Token) (r : AsmReason) → ts ≡ t ∷ others → Err r ≡ trait_kind_operand.reads [] (token_as_text t) → line_result (trait_line v) labels (tokens_of ts) ≡ Err r
unfolding trait_line trait_kind_operand
trait_unknown v labels ts t others r e known =
    ap (λ l. line_result (trait_line v) labels (tokens_of l)) e
    ∙ seen_mapped head_of (λ t. (trait_kind_in t.body, t)) (by trait_kind_operand (trait_rest v)) labels (token_as_text t ∷ tokens_of others)
    ∙ ap (map_operand head_of) (by_unknown trait_kind_operand (trait_rest v) labels (token_as_text t) (tokens_of others) r (sym known) refl ∙ ap (both_or_reason {A = TraitKind} (Err r)) (unseen_is (record { attrs = 0; name = 0; body = bodies.Method 0 0 }) labels (tokens_of others)))

pub trait_empty : (v : Sizes) (labels : List Label) (ts : List code.Token) → ts ≡ [] → line_result (trait_line v) labels (tokens_of ts) ≡ Err reasons.Operands
unfolding trait_line
trait_empty v labels ts e = ap (λ l. line_result (trait_line v) labels (tokens_of l)) e ∙ badly_counted (trait_line v) labels [] refl

-- ---- attributes, name and body

abbrev headed : ℕ × (ℕ × TraitBody) → TraitHead
headed x = record { attrs = x.0; name = x.1.0; body = x.1.1 }

pub named_good : (v : Sizes) (kind : TraitKind) (labels : List Label) (ts : List code.Token) (t : code.Token) (others : List code.Token) (u : code.Token) (rest : List code.Token) (r s : Result ℕ AsmReason) (b : Result TraitBody AsmReason) (last : Result (ℕ × TraitBody) AsmReason) (all : Result (ℕ × (ℕ × TraitBody)) AsmReason) → ts ≡ t ∷ others → others ≡ u ∷ rest → r ≡ (number_below 16).reads [] (token_as_text t) → s ≡ (entry_upto v.names).reads [] (token_as_text u) → b ≡ line_result (trait_operands v kind) labels (tokens_of rest) → last ≡ both_or_reason s b → all ≡ both_or_reason r last → line_result (trait_rest v (Some kind)) labels (tokens_of ts) ≡ map_operand headed all
unfolding any_number
named_good v kind labels ts t others u rest r s b last all e f a c d last_is all_is =
    let p = number_below 16 in
    let q = entry_upto v.names in
    let o = trait_operands v kind in
    ap (λ l. line_result (trait_rest v (Some kind)) labels (tokens_of l)) (e ∙ ap (λ (l : List code.Token). t ∷ l) f)
    ∙ seen_mapped headed (λ t. (t.attrs, (t.name, t.body))) (p & (q & o)) labels (token_as_text t ∷ token_as_text u ∷ tokens_of rest)
    ∙ ap (map_operand headed) (
    next_late p (q & o) labels (token_as_text t) (token_as_text u ∷ tokens_of rest) (below_late 16 labels (token_as_text t))
    ∙ ap (both_or_reason (p.reads labels (token_as_text t))) (next_late q o labels (token_as_text u) (tokens_of rest) (entry_late v.names labels (token_as_text u)))
    ∙ ap (λ x. both_or_reason x (both_or_reason (q.reads labels (token_as_text u)) (line_result o labels (tokens_of rest)))) (sym a)
    ∙ ap (λ x. both_or_reason r (both_or_reason x (line_result o labels (tokens_of rest)))) (sym c)
    ∙ ap (λ x. both_or_reason r (both_or_reason s x)) (sym d)
    ∙ ap (both_or_reason r) (sym last_is)
    ∙ sym all_is)

pub named_empty : (v : Sizes) (kind : TraitKind) (labels : List Label) (ts : List code.Token) → ts ≡ [] → line_result (trait_rest v (Some kind)) labels (tokens_of ts) ≡ Err reasons.Operands
named_empty v kind labels ts e = ap (λ l. line_result (trait_rest v (Some kind)) labels (tokens_of l)) e ∙ badly_counted (trait_rest v (Some kind)) labels [] refl

pub named_one : (v : Sizes) (kind : TraitKind) (labels : List Label) (ts : List code.Token) (t : code.Token) (others : List code.Token) → ts ≡ t ∷ others → others ≡ [] → line_result (trait_rest v (Some kind)) labels (tokens_of ts) ≡ Err reasons.Operands
named_one v kind labels ts t others e f = ap (λ l. line_result (trait_rest v (Some kind)) labels (tokens_of l)) (e ∙ ap (λ (l : List code.Token). t ∷ l) f) ∙ badly_counted (trait_rest v (Some kind)) labels (token_as_text t ∷ []) refl

-- ---- slots

abbrev slotted : Bool → ℕ × (ℕ × Option OptionValue) → TraitBody
slotted c x = bodies.Slot x.0 x.1.0 x.1.1 c

slots_as : (v : Sizes) (c : Bool) (labels : List Label) (ts : List Token) → line_result (trait_operands v (slot_kind_of c)) labels ts ≡ map_operand (slotted c) (line_result (slot_fields v) labels ts)
slots_as v true labels ts = seen_mapped (slotted true) slot_parts (slot_fields v) labels ts
slots_as v false labels ts = seen_mapped (slotted false) slot_parts (slot_fields v) labels ts

pub slot_good : (v : Sizes) (c : Bool) (labels : List Label) (ts : List code.Token) (t : code.Token) (others : List code.Token) (u : code.Token) (rest : List code.Token) (r s : Result ℕ AsmReason) (b : Result (Option OptionValue) AsmReason) (last : Result (ℕ × Option OptionValue) AsmReason) (all : Result (ℕ × (ℕ × Option OptionValue)) AsmReason) → ts ≡ t ∷ others → others ≡ u ∷ rest → r ≡ u30_operand.reads [] (token_as_text t) → s ≡ (index_upto v.names).reads [] (token_as_text u) → b ≡ line_result (slot_value_operand v) labels (tokens_of rest) → last ≡ both_or_reason s b → all ≡ both_or_reason r last → line_result (trait_operands v (slot_kind_of c)) labels (tokens_of ts) ≡ map_operand (slotted c) all
unfolding any_number
slot_good v c labels ts t others u rest r s b last all e f a x d last_is all_is =
    let q = index_upto v.names in
    let o = slot_value_operand v in
    slots_as v c labels (tokens_of ts)
    ∙ ap (λ l. map_operand (slotted c) (line_result (slot_fields v) labels (tokens_of l))) (e ∙ ap (λ (l : List code.Token). t ∷ l) f)
    ∙ ap (map_operand (slotted c)) (
    next_late u30_operand (q & o) labels (token_as_text t) (token_as_text u ∷ tokens_of rest) (u30_late labels (token_as_text t))
    ∙ ap (both_or_reason (u30_operand.reads labels (token_as_text t))) (next_late q o labels (token_as_text u) (tokens_of rest) (upto_late v.names labels (token_as_text u)))
    ∙ ap (λ y. both_or_reason y (both_or_reason (q.reads labels (token_as_text u)) (line_result o labels (tokens_of rest)))) (sym a)
    ∙ ap (λ y. both_or_reason r (both_or_reason y (line_result o labels (tokens_of rest)))) (sym x)
    ∙ ap (λ y. both_or_reason r (both_or_reason s y)) (sym d)
    ∙ ap (both_or_reason r) (sym last_is)
    ∙ sym all_is)

pub slot_none : (v : Sizes) (c : Bool) (labels : List Label) (ts : List code.Token) → ts ≡ [] → line_result (trait_operands v (slot_kind_of c)) labels (tokens_of ts) ≡ Err reasons.Operands
slot_none v c labels ts e = ap (λ l. line_result (trait_operands v (slot_kind_of c)) labels (tokens_of l)) e ∙ slots_as v c labels [] ∙ ap (map_operand (slotted c)) (badly_counted (slot_fields v) labels [] refl)

pub slot_one : (v : Sizes) (c : Bool) (labels : List Label) (ts : List code.Token) (t : code.Token) (others : List code.Token) → ts ≡ t ∷ others → others ≡ [] → line_result (trait_operands v (slot_kind_of c)) labels (tokens_of ts) ≡ Err reasons.Operands
slot_one v c labels ts t others e f = ap (λ l. line_result (trait_operands v (slot_kind_of c)) labels (tokens_of l)) (e ∙ ap (λ (l : List code.Token). t ∷ l) f) ∙ slots_as v c labels (token_as_text t ∷ []) ∙ ap (map_operand (slotted c)) (badly_counted (slot_fields v) labels (token_as_text t ∷ []) refl)

-- ---- a number and an index

abbrev flat : ℕ × (ℕ × Unit {0}) → ℕ × ℕ
flat x = (x.0, x.1.0)

paired : (f : ℕ × (ℕ × Unit {0}) → TraitBody) (s : Result (ℕ × (ℕ × Unit {0})) AsmReason) → map_operand f s ≡ map_operand (λ (y : ℕ × ℕ). f (y.0, (y.1, tt))) (map_operand flat s)
paired f (Ok x) = refl
paired f (Err r) = refl

by_pair : (f : ℕ × (ℕ × Unit {0}) → TraitBody) (size : ℕ) (labels : List Label) (ts : List Token) → line_result (map_operands f pair_in (pair_fields size)) labels ts ≡ map_operand (λ (y : ℕ × ℕ). f (y.0, (y.1, tt))) (pair_result size labels ts)
by_pair f size labels ts = seen_mapped f pair_in (pair_fields size) labels ts ∙ paired f (line_result (pair_fields size) labels ts) ∙ ap (map_operand (λ (y : ℕ × ℕ). f (y.0, (y.1, tt)))) (sym (seen_mapped flat (λ e. (e.0, (e.1, tt))) (pair_fields size) labels ts))

pub numbered_is : (v : Sizes) (kind : TraitKind) (labels : List Label) (ts : List Token) → is_numbered kind ≡ true → line_result (trait_operands v kind) labels ts ≡ map_operand (λ (y : ℕ × ℕ). numbered_trait kind y.0 y.1) (pair_result (size_of_table v kind) labels ts)
numbered_is v traits.Slot labels ts e = absurd cc
numbered_is v traits.Const labels ts e = absurd cc
numbered_is v traits.Method labels ts e = by_pair (λ x. bodies.Method x.0 x.1.0) v.methods labels ts
numbered_is v traits.Getter labels ts e = by_pair (λ x. bodies.Getter x.0 x.1.0) v.methods labels ts
numbered_is v traits.Setter labels ts e = by_pair (λ x. bodies.Setter x.0 x.1.0) v.methods labels ts
numbered_is v traits.Class labels ts e = by_pair (λ x. bodies.Class x.0 x.1.0) v.classes labels ts
numbered_is v traits.Function labels ts e = by_pair (λ x. bodies.Function x.0 x.1.0) v.methods labels ts
