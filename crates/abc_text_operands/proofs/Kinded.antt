-- Operands behind a kind word.
use Rattle.std.proofs.Common.{◌≡◌, ℕ, suc, ◌-◌, ◌⊎◌, inl, inr, Bool, true, false, List, [], ◌∷◌, ◌++◌, length, ◌==◌, arith, Some, None, Ok, Err, refl, sym, ap, ◌∙◌}
use Rattle.std.specs.declared.option.Option.{Option}
use Rattle.std.specs.declared.result.Result.{Result}
use Rattle.abc_text_lines.specs.declared.reason.AsmReason.{AsmReason}
use Rattle.abc_text_lines.specs.declared.reason.AsmReason.TheVariants as reasons
use Rattle.abc_text_lines.specs.Reasons.{least}
use Rattle.abc_text_lines.specs.Tokens.{Token}
use Rattle.abc_text_lines.proofs.Bools.{split_bool}
use Rattle.abc_text_lines.specs.Firsts.{value_or_reason}
use Rattle.abc_text_lines.specs.Lines.{Label}
use Rattle.abc_text_lines.specs.Operands.{Operand, Operands, any_number, by, entry_upto, index_upto, none, map_operands, several, unseen, value_if_any, ◌&◌}
use Rattle.abc_file_types.specs.declared.names.Multiname.{Multiname}
use Rattle.abc_file_types.specs.declared.names.Multiname.TheVariants as names
use Rattle.abc_file_types.specs.declared.names.MultinameKind.{MultinameKind}
use Rattle.abc_file_types.specs.declared.names.MultinameKind.TheVariants as kinds
use Rattle.abc_file_types.specs.declared.tables.Sizes.{Sizes}
use Rattle.abc_text_lines.specs.Kinds.{multiname_kind_operand}
use Rattle.abc_text_lines.specs.Lineforms.{kind_in, multiname_operands, multiname_rest, name_line, type_parts}
use Rattle.abc_text_tokens.specs.declared.token.Token as code
use Rattle.abc_text_tokens.specs.Walks.{token_as_text, tokens_of}
use Rattle.abc_text_operands.specs.Joined.{earlier_reason, both_or_reason, line_result, map_operand}
use Rattle.abc_text_operands.proofs.Joining.{badly_counted, next_operand, no_operand, not_many, one_counts, one_result, seen_mapped}
use Rattle.abc_text_operands.proofs.More.{next_by}
use Rattle.abc_text_tokens.proofs.Walking.{some_is, zero_is}
use Rattle.abc_text_operands.specs.Each.{each_result, index_in, reason_after}
use Rattle.abc_text_operands.proofs.Eaching.{several_is}

module _ {A B : Type 0} (f : A × Unit {0} → B) (g : B → A × Unit {0}) (p : Operand A) where
  pub single_bad : (ts : List code.Token) (labels : List Label) → ¬ (length ts ≡ 1) → line_result (map_operands f g (p & none)) labels (tokens_of ts) ≡ Err reasons.Operands
  single_bad ts labels e = badly_counted (map_operands f g (p & none)) labels (tokens_of ts) (one_counts p labels (tokens_of ts) (not_many ts 1 e))

  pub single_good : (ts : List code.Token) (t : code.Token) (labels : List Label) (r : Result A AsmReason) → ts ≡ t ∷ [] → r ≡ p.reads labels (token_as_text t) → line_result (map_operands f g (p & none)) labels (tokens_of ts) ≡ map_operand (λ x. f (x, tt)) r
  single_good ts t labels r e is = ap (λ l. line_result (map_operands f g (p & none)) labels (tokens_of l)) e ∙ one_result f g p labels (token_as_text t) ∙ ap (map_operand (λ (x : A). f (x, tt))) (sym is)

module _ {A B : Type 0} (p : Operand A) (rest : Option A → Operands B) (labels : List Label) (t : Token) (ts : List Token) where
  pub by_known : (k : A) → p.reads labels t ≡ Ok k → line_result (by p rest) labels (t ∷ ts) ≡ both_or_reason (Ok k) (line_result (rest (Some k)) labels ts)
  by_known k e =
      let counts_is : (rest (value_if_any (p.reads labels t))).counts labels ts ≡ (rest (Some k)).counts labels ts = ap (λ (o : Result A AsmReason). (rest (value_if_any o)).counts labels ts) e in
      elim (split_bool ((rest (Some k)).counts labels ts)) [
        | inl c ↦ next_by p rest labels t ts (counts_is ∙ c) ∙ ap (λ (o : Result A AsmReason). both_or_reason o (line_result (rest (value_if_any o)) labels ts)) e
        | inr c ↦ badly_counted (by p rest) labels (t ∷ ts) (counts_is ∙ c) ∙ ap (both_or_reason (Ok k)) (sym (badly_counted (rest (Some k)) labels ts c))
      ]

  pub by_unknown : (r : AsmReason) → p.reads labels t ≡ Err r → (rest None).counts labels ts ≡ true → line_result (by p rest) labels (t ∷ ts) ≡ both_or_reason (Err r) (line_result (rest None) labels ts)
  by_unknown r e c =
      let counts_is : (rest (value_if_any (p.reads labels t))).counts labels ts ≡ (rest None).counts labels ts = ap (λ (o : Result A AsmReason). (rest (value_if_any o)).counts labels ts) e in
      next_by p rest labels t ts (counts_is ∙ c) ∙ ap (λ (o : Result A AsmReason). both_or_reason o (line_result (rest (value_if_any o)) labels ts)) e

pub unseen_is : {A : Type 0} (x : A) (labels : List Label) (ts : List Token) → line_result (unseen x) labels ts ≡ Ok x
unfolding least
unseen_is x labels ts = refl

-- ---- multinames

second : {A B : Type 0} (k : A) (s : Result B AsmReason) → map_operand (λ (x : A × B). x.1) (both_or_reason (Ok k) s) ≡ s
second k (Ok y) = refl
second k (Err r) = refl

abbrev fields_of : MultinameKind × Multiname → Multiname
fields_of x = x.1

pub name_known : (v : Sizes) (labels : List Label) (ts : List code.Token) (t : code.Token) (others : List code.Token) (k : MultinameKind) → ts ≡ t ∷ others → Ok k ≡ multiname_kind_operand.reads [] (token_as_text t) → line_result (name_line v) labels (tokens_of ts) ≡ line_result (multiname_operands v k) labels (tokens_of others)
unfolding name_line multiname_kind_operand
name_known v labels ts t others k e known =
    ap (λ l. line_result (name_line v) labels (tokens_of l)) e
    ∙ seen_mapped fields_of (λ m. (kind_in m, m)) (by multiname_kind_operand (multiname_rest v)) labels (token_as_text t ∷ tokens_of others)
    ∙ ap (map_operand fields_of) (by_known multiname_kind_operand (multiname_rest v) labels (token_as_text t) (tokens_of others) k (sym known))
    ∙ second k (line_result (multiname_operands v k) labels (tokens_of others))

pub name_unknown : (v : Sizes) (labels : List Label) (ts : List code.Token) (t : code.Token) (others : List code.Token) (r : AsmReason) → ts ≡ t ∷ others → Err r ≡ multiname_kind_operand.reads [] (token_as_text t) → line_result (name_line v) labels (tokens_of ts) ≡ Err r
unfolding name_line multiname_kind_operand
name_unknown v labels ts t others r e known =
    ap (λ l. line_result (name_line v) labels (tokens_of l)) e
    ∙ seen_mapped fields_of (λ m. (kind_in m, m)) (by multiname_kind_operand (multiname_rest v)) labels (token_as_text t ∷ tokens_of others)
    ∙ ap (map_operand fields_of) (by_unknown multiname_kind_operand (multiname_rest v) labels (token_as_text t) (tokens_of others) r (sym known) refl ∙ ap (both_or_reason {A = MultinameKind} (Err r)) (unseen_is (names.RtL false) labels (tokens_of others)))

pub name_empty : (v : Sizes) (labels : List Label) (ts : List code.Token) → ts ≡ [] → line_result (name_line v) labels (tokens_of ts) ≡ Err reasons.Operands
unfolding name_line
name_empty v labels ts e = ap (λ l. line_result (name_line v) labels (tokens_of l)) e ∙ badly_counted (name_line v) labels [] refl

-- ---- a type with parameters

abbrev typed : ℕ × List ℕ → Multiname
typed x = names.TypeName x.0 x.1

pub type_fields : (v : Sizes) (labels : List Label) (ts : List code.Token) (t : code.Token) (others : List code.Token) (base : Result ℕ AsmReason) → ts ≡ t ∷ others → base ≡ (entry_upto v.names).reads [] (token_as_text t) → line_result (multiname_operands v kinds.TypeName) labels (tokens_of ts) ≡ map_operand typed (both_or_reason base (each_result (index_in v.names) (tokens_of others)))
unfolding any_number
type_fields v labels ts t others base e is =
    ap (λ l. line_result (multiname_operands v kinds.TypeName) labels (tokens_of l)) e
    ∙ seen_mapped typed type_parts (entry_upto v.names & several (index_upto v.names)) labels (token_as_text t ∷ tokens_of others)
    ∙ ap (map_operand typed) (next_operand (entry_upto v.names) (several (index_upto v.names)) labels (token_as_text t) (tokens_of others) refl ∙ ap (both_or_reason ((entry_upto v.names).reads labels (token_as_text t))) (several_is (index_upto v.names) labels (tokens_of others)) ∙ ap (λ (o : Result ℕ AsmReason). both_or_reason o (each_result (index_in v.names) (tokens_of others))) (sym is))

pub type_empty : (v : Sizes) (labels : List Label) (ts : List code.Token) → ts ≡ [] → line_result (multiname_operands v kinds.TypeName) labels (tokens_of ts) ≡ Err reasons.Operands
type_empty v labels ts e = ap (λ l. line_result (multiname_operands v kinds.TypeName) labels (tokens_of l)) e ∙ badly_counted (multiname_operands v kinds.TypeName) labels [] refl

pub type_told : (v : Sizes) (labels : List Label) (ts : List code.Token) (t : code.Token) (others : List code.Token) (base : Result ℕ AsmReason) (s : Result (List ℕ) AsmReason) → ts ≡ t ∷ others → base ≡ (entry_upto v.names).reads [] (token_as_text t) → each_result (index_in v.names) (tokens_of others) ≡ s → line_result (multiname_operands v kinds.TypeName) labels (tokens_of ts) ≡ map_operand typed (both_or_reason base s)
type_told v labels ts t others base s e is each = type_fields v labels ts t others base e is ∙ ap (λ (o : Result (List ℕ) AsmReason). map_operand typed (both_or_reason base o)) each

refused_after : (base : Result ℕ AsmReason) (r : AsmReason) → map_operand typed (both_or_reason {B = List ℕ} base (Err r)) ≡ Err (reason_after base r)
refused_after (Ok b) r = refl
refused_after (Err f) r = refl

pub type_refused : (v : Sizes) (labels : List Label) (ts : List code.Token) (t : code.Token) (others : List code.Token) (base : Result ℕ AsmReason) (r told_ : AsmReason) → ts ≡ t ∷ others → base ≡ (entry_upto v.names).reads [] (token_as_text t) → each_result (index_in v.names) (tokens_of others) ≡ Err r → told_ ≡ reason_after base r → line_result (multiname_operands v kinds.TypeName) labels (tokens_of ts) ≡ Err told_
type_refused v labels ts t others base r told_ e is each same = type_told v labels ts t others base (Err r) e is each ∙ refused_after base r ∙ ap (λ (x : AsmReason). Err x) (sym same)

with_list : (base : Result ℕ AsmReason) (ps : List ℕ) → map_operand typed (both_or_reason base (Ok ps)) ≡ map_operand (λ b. names.TypeName b ps) base
with_list (Ok b) ps = refl
with_list (Err r) ps = refl

pub type_made : (v : Sizes) (labels : List Label) (ts : List code.Token) (t : code.Token) (others : List code.Token) (base : Result ℕ AsmReason) (ps : List ℕ) → ts ≡ t ∷ others → base ≡ (entry_upto v.names).reads [] (token_as_text t) → each_result (index_in v.names) (tokens_of others) ≡ Ok ps → line_result (multiname_operands v kinds.TypeName) labels (tokens_of ts) ≡ map_operand (λ b. names.TypeName b ps) base
type_made v labels ts t others base ps e is each = type_told v labels ts t others base (Ok ps) e is each ∙ with_list base ps

-- ---- no fields

module _ {A : Type 0} (f : Unit {0} → A) (g : A → Unit {0}) where
  pub none_good : (ts : List code.Token) (labels : List Label) → (length ts == 0) ≡ true → line_result (map_operands f g none) labels (tokens_of ts) ≡ Ok (f tt)
  none_good [] labels e = seen_mapped f g none labels [] ∙ ap (map_operand f) (no_operand labels)
  none_good (t ∷ ts) labels e = let z = zero_is (length (t ∷ ts)) e in absurd (omega arith)

  pub none_bad : (ts : List code.Token) (labels : List Label) → (length ts == 0) ≡ false → line_result (map_operands f g none) labels (tokens_of ts) ≡ Err reasons.Operands
  none_bad [] labels e = let z = some_is 0 e in absurd (omega arith)
  none_bad (t ∷ ts) labels e = badly_counted (map_operands f g none) labels (tokens_of (t ∷ ts)) refl
