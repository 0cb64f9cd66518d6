-- The operands of a line, taken one by one.
use Rattle.std.proofs.Common.{◌≡◌, ℕ, suc, true, false, List, [], ◌∷◌, ◌++◌, length, Some, None, Ok, Err, refl, sym, ap, ◌∙◌}
use Rattle.std.specs.declared.option.Option.{Option}
use Rattle.std.specs.declared.result.Result.{Result}
use Rattle.abc_text_lines.specs.declared.reason.AsmReason.{AsmReason}
use Rattle.abc_text_lines.specs.declared.reason.AsmReason.TheVariants as reasons
use Rattle.abc_text_lines.specs.Reasons.{least, lesser}
use Rattle.abc_text_lines.specs.Tokens.{Token}
use Rattle.abc_text_lines.specs.Firsts.{value_or_reason}
use Rattle.abc_text_lines.specs.Lines.{Label}
use Rattle.abc_text_lines.specs.Operands.{Operand, Operands, none, reasons_in, reasons_of, map_operands, value_or, ◌&◌}
use Rattle.abc_text_lines.specs.Lineforms.{one_operand_alone}
use Rattle.abc_text_tokens.specs.declared.token.Token as code
use Rattle.abc_text_tokens.specs.Walks.{token_as_text, tokens_of}
use Rattle.abc_text_operands.specs.Joined.{both_or_reason, line_result, map_operand}

-- ---- one operand more

joined_ok : {A B : Type 0} (x : A) (v : B) (o : Option AsmReason) → value_or_reason o (x, v) ≡ both_or_reason (Ok x) (value_or_reason o v)
joined_ok x v None = refl
joined_ok x v (Some r) = refl

joined_err : {A B : Type 0} (r : AsmReason) (d : A) (v : B) (o : Option AsmReason) → value_or_reason (Some (lesser r o)) (d, v) ≡ both_or_reason {A = A} (Err r) (value_or_reason o v)
joined_err r d v None = refl
joined_err r d v (Some s) = refl

pub joined_is : {A B : Type 0} (a : Result A AsmReason) (fs : List AsmReason) (v : B) (d : A) → value_or_reason (least (reasons_in a ++ fs)) (value_or a d, v) ≡ both_or_reason a (value_or_reason (least fs) v)
unfolding least
joined_is (Ok x) fs v d = joined_ok x v (least fs)
joined_is (Err r) fs v d = joined_err r d v (least fs)

pub next_operand : {A B : Type 0} (p : Operand A) (q : Operands B) (labels : List Label) (t : Token) (ts : List Token) → q.counts labels ts ≡ true → line_result (p & q) labels (t ∷ ts) ≡ both_or_reason (p.reads labels t) (line_result q labels ts)
next_operand p q labels t ts e = rw e (joined_is (p.reads labels t) (q.faults labels ts) (q.value labels ts) p.default)

pub no_operand : (labels : List Label) → line_result none labels [] ≡ Ok tt
unfolding least
no_operand labels = refl

pub badly_counted : {A : Type 0} (p : Operands A) (labels : List Label) (ts : List Token) → p.counts labels ts ≡ false → line_result p labels ts ≡ Err reasons.Operands
unfolding least
badly_counted p labels ts e = rw e refl

told_mapped : {A B : Type 0} (f : A → B) (o : Option AsmReason) (x : A) → value_or_reason o (f x) ≡ map_operand f (value_or_reason o x)
told_mapped f None x = refl
told_mapped f (Some r) x = refl

pub seen_mapped : {A B : Type 0} (f : A → B) (g : B → A) (p : Operands A) (labels : List Label) (ts : List Token) → line_result (map_operands f g p) labels ts ≡ map_operand f (line_result p labels ts)
seen_mapped f g p labels ts = told_mapped f (least (reasons_of p labels ts)) (p.value labels ts)

joined_last : {A B : Type 0} (f : A × Unit {0} → B) (r : Result A AsmReason) → map_operand f (both_or_reason r (Ok tt)) ≡ map_operand (λ x. f (x, tt)) r
joined_last f (Ok x) = refl
joined_last f (Err r) = refl

pub last_operand : {A : Type 0} (p : Operand A) (labels : List Label) (t : Token) → line_result (p & none) labels (t ∷ []) ≡ both_or_reason (p.reads labels t) (Ok tt)
last_operand p labels t = next_operand p none labels t [] refl ∙ ap (both_or_reason (p.reads labels t)) (no_operand labels)

-- ---- a line with one operand

pub one_result : {A B : Type 0} (f : A × Unit {0} → B) (g : B → A × Unit {0}) (p : Operand A) (labels : List Label) (t : Token) → line_result (map_operands f g (p & none)) labels (t ∷ []) ≡ map_operand (λ x. f (x, tt)) (p.reads labels t)
one_result f g p labels t = seen_mapped f g (p & none) labels (t ∷ []) ∙ ap (map_operand f) (last_operand p labels t) ∙ joined_last f (p.reads labels t)

pub mapped_same : {A : Type 0} (r : Result A AsmReason) → map_operand (λ (x : A). x) r ≡ r
mapped_same (Ok x) = refl
mapped_same (Err r) = refl

pub one_counts : {A : Type 0} (p : Operand A) (labels : List Label) (ts : List Token) → ¬ (length ts ≡ 1) → (p & none).counts labels ts ≡ false
one_counts p labels [] e = refl
one_counts p labels (a ∷ []) e = absurd (e refl)
one_counts p labels (a ∷ b ∷ ts) e = refl

length_tokens : (ts : List code.Token) → length (tokens_of ts) ≡ length ts
length_tokens [] = refl
length_tokens (t ∷ ts) = ap (λ (n : ℕ). suc n) (length_tokens ts)

pub not_many : (ts : List code.Token) (n : ℕ) → ¬ (length ts ≡ n) → ¬ (length (tokens_of ts) ≡ n)
not_many ts n e f = e (sym (length_tokens ts) ∙ f)

pub alone_bad : {A : Type 0} (p : Operand A) (ts : List code.Token) (labels : List Label) → ¬ (length ts ≡ 1) → Err reasons.Operands ≡ line_result (one_operand_alone p) labels (tokens_of ts)
alone_bad p ts labels e = sym (badly_counted (one_operand_alone p) labels (tokens_of ts) (one_counts p labels (tokens_of ts) (not_many ts 1 e)))

pub alone_good : {A : Type 0} (p : Operand A) (ts : List code.Token) (t : code.Token) (labels : List Label) (r : Result A AsmReason) → ts ≡ t ∷ [] → r ≡ p.reads labels (token_as_text t) → r ≡ line_result (one_operand_alone p) labels (tokens_of ts)
alone_good p ts t labels r e is =
    is ∙ sym (ap (λ l. line_result (one_operand_alone p) labels (tokens_of l)) e ∙ one_result (λ x. x.0) (λ x. (x, tt)) p labels (token_as_text t) ∙ mapped_same (p.reads labels (token_as_text t)))

-- ---- with two operands

joined_two : {A B C : Type 0} (f : A × (B × Unit {0}) → C) (r : Result A AsmReason) (s : Result B AsmReason) → map_operand f (both_or_reason r (both_or_reason s (Ok tt))) ≡ map_operand (λ x. f (x.0, (x.1, tt))) (both_or_reason r s)
joined_two f (Ok x) (Ok y) = refl
joined_two f (Ok x) (Err b) = refl
joined_two f (Err a) (Ok y) = refl
joined_two f (Err a) (Err b) = refl

two_counts : {A B : Type 0} (p : Operand A) (q : Operand B) (labels : List Label) (ts : List Token) → ¬ (length ts ≡ 2) → (p & (q & none)).counts labels ts ≡ false
two_counts p q labels [] e = refl
two_counts p q labels (a ∷ []) e = refl
two_counts p q labels (a ∷ b ∷ []) e = absurd (e refl)
two_counts p q labels (a ∷ b ∷ c ∷ ts) e = refl

module _ {A B C : Type 0} (f : A × (B × Unit {0}) → C) (g : C → A × (B × Unit {0})) (p : Operand A) (q : Operand B) where
  pub two_bad : (ts : List code.Token) (labels : List Label) → ¬ (length ts ≡ 2) → line_result (map_operands f g (p & (q & none))) labels (tokens_of ts) ≡ Err reasons.Operands
  two_bad ts labels e = badly_counted (map_operands f g (p & (q & none))) labels (tokens_of ts) (two_counts p q labels (tokens_of ts) (not_many ts 2 e))

  pub two_good : (ts : List code.Token) (t u : code.Token) (labels : List Label) (r : Result A AsmReason) (s : Result B AsmReason) (both : Result (A × B) AsmReason) → ts ≡ t ∷ u ∷ [] → r ≡ p.reads labels (token_as_text t) → s ≡ q.reads labels (token_as_text u) → both ≡ both_or_reason r s → line_result (map_operands f g (p & (q & none))) labels (tokens_of ts) ≡ map_operand (λ x. f (x.0, (x.1, tt))) both
  two_good ts t u labels r s both e first second is =
      ap (λ l. line_result (map_operands f g (p & (q & none))) labels (tokens_of l)) e
      ∙ seen_mapped f g (p & (q & none)) labels (token_as_text t ∷ token_as_text u ∷ [])
      ∙ ap (map_operand f) (next_operand p (q & none) labels (token_as_text t) (token_as_text u ∷ []) refl ∙ ap (both_or_reason (p.reads labels (token_as_text t))) (last_operand q labels (token_as_text u)))
      ∙ joined_two f (p.reads labels (token_as_text t)) (q.reads labels (token_as_text u))
      ∙ ap (λ a. map_operand (λ (x : A × B). f (x.0, (x.1, tt))) (both_or_reason a (q.reads labels (token_as_text u)))) (sym first)
      ∙ ap (λ b. map_operand (λ (x : A × B). f (x.0, (x.1, tt))) (both_or_reason r b)) (sym second)
      ∙ ap (map_operand (λ (x : A × B). f (x.0, (x.1, tt)))) (sym is)

-- ---- with three operands

joined_three : {A B C D : Type 0} (f : A × (B × (C × Unit {0})) → D) (r : Result A AsmReason) (s : Result B AsmReason) (t : Result C AsmReason) → map_operand f (both_or_reason r (both_or_reason s (both_or_reason t (Ok tt)))) ≡ map_operand (λ x. f (x.0, (x.1.0, (x.1.1, tt)))) (both_or_reason r (both_or_reason s t))
joined_three f (Ok x) (Ok y) (Ok z) = refl
joined_three f (Ok x) (Ok y) (Err c) = refl
joined_three f (Ok x) (Err b) (Ok z) = refl
joined_three f (Ok x) (Err b) (Err c) = refl
joined_three f (Err a) (Ok y) (Ok z) = refl
joined_three f (Err a) (Ok y) (Err c) = refl
joined_three f (Err a) (Err b) (Ok z) = refl
joined_three f (Err a) (Err b) (Err c) = refl

pub three_counts : {A B C : Type 0} (p : Operand A) (q : Operand B) (o : Operand C) (labels : List Label) (ts : List Token) → ¬ (length ts ≡ 3) → (p & (q & (o & none))).counts labels ts ≡ false
three_counts p q o labels [] e = refl
three_counts p q o labels (a ∷ []) e = refl
three_counts p q o labels (a ∷ b ∷ []) e = refl
three_counts p q o labels (a ∷ b ∷ c ∷ []) e = absurd (e refl)
three_counts p q o labels (a ∷ b ∷ c ∷ d ∷ ts) e = refl

module _ {A B C D : Type 0} (f : A × (B × (C × Unit {0})) → D) (g : D → A × (B × (C × Unit {0}))) (p : Operand A) (q : Operand B) (o : Operand C) where
  pub three_bad : (ts : List code.Token) (labels : List Label) → ¬ (length ts ≡ 3) → line_result (map_operands f g (p & (q & (o & none)))) labels (tokens_of ts) ≡ Err reasons.Operands
  three_bad ts labels e = badly_counted (map_operands f g (p & (q & (o & none)))) labels (tokens_of ts) (three_counts p q o labels (tokens_of ts) (not_many ts 3 e))

  pub three_good : (ts : List code.Token) (t u v : code.Token) (labels : List Label) (r : Result A AsmReason) (s : Result B AsmReason) (w : Result C AsmReason) (last : Result (B × C) AsmReason) (all : Result (A × (B × C)) AsmReason) → ts ≡ t ∷ u ∷ v ∷ [] → r ≡ p.reads labels (token_as_text t) → s ≡ q.reads labels (token_as_text u) → w ≡ o.reads labels (token_as_text v) → last ≡ both_or_reason s w → all ≡ both_or_reason r last → line_result (map_operands f g (p & (q & (o & none)))) labels (tokens_of ts) ≡ map_operand (λ x. f (x.0, (x.1.0, (x.1.1, tt)))) all
  three_good ts t u v labels r s w last all e first second third two is =
      ap (λ l. line_result (map_operands f g (p & (q & (o & none)))) labels (tokens_of l)) e
      ∙ seen_mapped f g (p & (q & (o & none))) labels (token_as_text t ∷ token_as_text u ∷ token_as_text v ∷ [])
      ∙ ap (map_operand f) (next_operand p (q & (o & none)) labels (token_as_text t) (token_as_text u ∷ token_as_text v ∷ []) refl ∙ ap (both_or_reason (p.reads labels (token_as_text t))) (next_operand q (o & none) labels (token_as_text u) (token_as_text v ∷ []) refl ∙ ap (both_or_reason (q.reads labels (token_as_text u))) (last_operand o labels (token_as_text v))))
      ∙ joined_three f (p.reads labels (token_as_text t)) (q.reads labels (token_as_text u)) (o.reads labels (token_as_text v))
      ∙ ap (map_operand (λ (x : A × (B × C)). f (x.0, (x.1.0, (x.1.1, tt))))) (
      ap (λ a. both_or_reason a (both_or_reason (q.reads labels (token_as_text u)) (o.reads labels (token_as_text v)))) (sym first)
      ∙ ap (λ b. both_or_reason r (both_or_reason b (o.reads labels (token_as_text v)))) (sym second)
      ∙ ap (λ c. both_or_reason r (both_or_reason s c)) (sym third)
      ∙ ap (both_or_reason r) (sym two)
      ∙ sym is)
