-- Operands that depend on others, and texts.
use Rattle.std.proofs.Common.{◌≡◌, ℕ, List, [], ◌∷◌, length, true, false, Some, None, Ok, Err, refl, sym, ap, ◌∙◌, arith}
use Rattle.std.specs.declared.option.Option.{Option}
use Rattle.std.specs.declared.result.Result.{Result}
use Rattle.abc_text_lines.specs.declared.reason.AsmReason.{AsmReason}
use Rattle.abc_text_lines.specs.declared.reason.AsmReason.TheVariants as reasons
use Rattle.abc_text_lines.specs.Tokens.{Token}
use Rattle.abc_text_lines.specs.Lines.{Label}
use Rattle.abc_text_lines.specs.Operands.{Operand, Operands, any_number, by, none, map_operands, ◌&◌, is_name, place_of_label, target, target_operand, text_operand, text_of_token, u30_operand, value_if_any}
use Rattle.abc_file_types.specs.declared.methods.ValueKind.{ValueKind}
use Rattle.abc_file_types.specs.declared.methods.OptionValue.{OptionValue}
use Rattle.abc_file_types.specs.declared.tables.Sizes.{Sizes}
use Rattle.abc_text_lines.specs.Kinds.{value_kind_operand}
use Rattle.abc_text_lines.specs.Lineforms.{option_line, option_rest, string_line, value_index}
use Rattle.abc_text_tokens.specs.declared.token.Token as code
use Rattle.abc_text_tokens.specs.declared.token.Token.TheVariants as codes
use Rattle.std.specs.Borrow.{Bor}
use Rattle.abc_text_tokens.specs.Walks.{quoted_text, token_as_text, tokens_of}
use Rattle.abc_text_operands.specs.Joined.{earlier_reason, both_or_reason, line_result, map_operand}
use Rattle.abc_text_operands.proofs.Joining.{badly_counted, joined_is, last_operand, mapped_same, next_operand, not_many, one_result, seen_mapped}

pub next_by : {A B : Type 0} (p : Operand A) (rest : Option A → Operands B) (labels : List Label) (t : Token) (ts : List Token) → (rest (value_if_any (p.reads labels t))).counts labels ts ≡ true → line_result (by p rest) labels (t ∷ ts) ≡ both_or_reason (p.reads labels t) (line_result (rest (value_if_any (p.reads labels t))) labels ts)
next_by p rest labels t ts e = rw e (joined_is (p.reads labels t) ((rest (value_if_any (p.reads labels t))).faults labels ts) ((rest (value_if_any (p.reads labels t))).value labels ts) p.default)

-- ---- optional values

option_counts : (v : Sizes) (labels : List Label) (o : Option ValueKind) (ts : List Token) → ¬ (length ts ≡ 1) → (option_rest v o).counts labels ts ≡ false
option_counts v labels (Some k) [] e = refl
option_counts v labels (Some k) (a ∷ []) e = absurd (e refl)
option_counts v labels (Some k) (a ∷ b ∷ ts) e = refl
option_counts v labels None [] e = refl
option_counts v labels None (a ∷ []) e = absurd (e refl)
option_counts v labels None (a ∷ b ∷ ts) e = refl

options_bad : (v : Sizes) (labels : List Label) (ts : List Token) → ¬ (length ts ≡ 2) → (by value_kind_operand (option_rest v)).counts labels ts ≡ false
options_bad v labels [] e = refl
options_bad v labels (t ∷ ts) e = option_counts v labels (value_if_any (value_kind_operand.reads labels t)) ts (λ (f : length ts ≡ 1). e (omega arith))

pub option_bad : (v : Sizes) (ts : List code.Token) (labels : List Label) → ¬ (length ts ≡ 2) → Err reasons.Operands ≡ line_result (option_line v) labels (tokens_of ts)
unfolding option_line
option_bad v ts labels e = sym (badly_counted (option_line v) labels (tokens_of ts) (options_bad v labels (tokens_of ts) (not_many ts 2 e)))

option_counted : (v : Sizes) (labels : List Label) (o : Option ValueKind) (u : Token) → (option_rest v o).counts labels (u ∷ []) ≡ true
option_counted v labels (Some k) u = refl
option_counted v labels None u = refl

abbrev made : ValueKind × (ℕ × Unit {0}) → OptionValue
made x = record { kind = x.0; value = x.1.0 }

option_two : (v : Sizes) (labels : List Label) (t u : Token) → line_result (option_line v) labels (t ∷ u ∷ []) ≡ map_operand made (both_or_reason (value_kind_operand.reads labels t) (line_result (option_rest v (value_if_any (value_kind_operand.reads labels t))) labels (u ∷ [])))
unfolding option_line
option_two v labels t u = seen_mapped made (λ o. (o.kind, (o.value, tt))) (by value_kind_operand (option_rest v)) labels (t ∷ u ∷ []) ∙ ap (map_operand made) (next_by value_kind_operand (option_rest v) labels t (u ∷ []) (option_counted v labels (value_if_any (value_kind_operand.reads labels t)) u))

value_told : (k : ValueKind) (s : Result ℕ AsmReason) → map_operand made (both_or_reason (Ok k) (both_or_reason s (Ok tt))) ≡ map_operand (λ n. record { kind = k; value = n }) s
value_told k (Ok n) = refl
value_told k (Err r) = refl

none_told : (r : AsmReason) (s : Result ℕ AsmReason) → map_operand made (both_or_reason {A = ValueKind} (Err r) (both_or_reason s (Ok tt))) ≡ Err (earlier_reason r s)
none_told r (Ok n) = refl
none_told r (Err s) = refl

pub option_known : (v : Sizes) (ts : List code.Token) (t u : code.Token) (labels : List Label) (k : ValueKind) (s : Result ℕ AsmReason) → ts ≡ t ∷ u ∷ [] → Ok k ≡ value_kind_operand.reads [] (token_as_text t) → s ≡ (value_index v k).reads [] (token_as_text u) → line_result (option_line v) labels (tokens_of ts) ≡ map_operand (λ n. record { kind = k; value = n }) s
unfolding any_number value_kind_operand
option_known v ts t u labels k s e known is =
    ap (λ l. line_result (option_line v) labels (tokens_of l)) e
    ∙ option_two v labels (token_as_text t) (token_as_text u)
    ∙ ap (λ (o : Result ValueKind AsmReason). map_operand made (both_or_reason o (line_result (option_rest v (value_if_any o)) labels (token_as_text u ∷ [])))) (sym known)
    ∙ ap (λ (o : Result (ℕ × Unit {0}) AsmReason). map_operand made (both_or_reason (Ok k) o)) (last_operand (value_index v k) labels (token_as_text u))
    ∙ value_told k ((value_index v k).reads labels (token_as_text u))
    ∙ ap (map_operand (λ n. record { kind = k; value = n })) (sym is)

pub option_unknown : (v : Sizes) (ts : List code.Token) (t u : code.Token) (labels : List Label) (r : AsmReason) (s : Result ℕ AsmReason) → ts ≡ t ∷ u ∷ [] → Err r ≡ value_kind_operand.reads [] (token_as_text t) → s ≡ u30_operand.reads [] (token_as_text u) → line_result (option_line v) labels (tokens_of ts) ≡ Err (earlier_reason r s)
unfolding any_number value_kind_operand
option_unknown v ts t u labels r s e known is =
    ap (λ l. line_result (option_line v) labels (tokens_of l)) e
    ∙ option_two v labels (token_as_text t) (token_as_text u)
    ∙ ap (λ (o : Result ValueKind AsmReason). map_operand made (both_or_reason o (line_result (option_rest v (value_if_any o)) labels (token_as_text u ∷ [])))) (sym known)
    ∙ ap (λ (o : Result (ℕ × Unit {0}) AsmReason). map_operand made (both_or_reason (Err r) o)) (last_operand u30_operand labels (token_as_text u))
    ∙ none_told r (u30_operand.reads labels (token_as_text u))
    ∙ ap (λ (o : Result ℕ AsmReason). Err (earlier_reason r o)) (sym is)

abbrev pub refused_as : AsmReason → Result OptionValue AsmReason
refused_as r = Err r

-- ---- texts

pub text_line : (ts : List code.Token) (t : code.Token) (labels : List Label) → ts ≡ t ∷ [] → line_result string_line labels (tokens_of ts) ≡ text_of_token (token_as_text t)
unfolding string_line text_operand
text_line ts t labels e = ap (λ l. line_result string_line labels (tokens_of l)) e ∙ one_result (λ x. x.0) (λ x. (x, tt)) text_operand labels (token_as_text t) ∙ mapped_same (text_of_token (token_as_text t))

pub text_quoted : (ts : List code.Token) (t : code.Token) (q : Bor (List ℕ)) (labels : List Label) (s : List ℕ) → ts ≡ t ∷ [] → t ≡ codes.Quoted q → s ≡ quoted_text q.now → line_result string_line labels (tokens_of ts) ≡ Ok s
text_quoted ts t q labels s e is same = text_line ts t labels e ∙ ap (λ (u : code.Token). text_of_token (token_as_text u)) is ∙ ap (λ (x : List ℕ). Ok x) (sym same)

pub text_bare : (ts : List code.Token) (t : code.Token) (q : Bor (List ℕ)) (labels : List Label) → ts ≡ t ∷ [] → t ≡ codes.Bare q → line_result string_line labels (tokens_of ts) ≡ Err reasons.Kind
text_bare ts t q labels e is = text_line ts t labels e ∙ ap (λ (u : code.Token). text_of_token (token_as_text u)) is

-- ---- labels

abbrev reads_target : List Label → code.Token → Result ℕ AsmReason
reads_target labels t = target_operand labels (token_as_text t)

pub target_quoted : (t : code.Token) (q : Bor (List ℕ)) (labels : List Label) → t ≡ codes.Quoted q → target.reads labels (token_as_text t) ≡ Err reasons.Kind
unfolding target
target_quoted t q labels is = ap (reads_target labels) is

pub target_unnamed : (t : code.Token) (q : Bor (List ℕ)) (labels : List Label) → t ≡ codes.Bare q → is_name q.now ≡ false → target.reads labels (token_as_text t) ≡ Err reasons.Kind
unfolding target
target_unnamed t q labels is none = ap (reads_target labels) is ∙ (let n = none in rw n refl)

pub target_found : (t : code.Token) (q : Bor (List ℕ)) (labels : List Label) (n : ℕ) → t ≡ codes.Bare q → is_name q.now ≡ true → place_of_label labels q.now ≡ Some n → target.reads labels (token_as_text t) ≡ Ok n
unfolding target
target_found t q labels n is name known = ap (reads_target labels) is ∙ (let a = name in let b = known in rw (a, b) refl)

pub target_missing : (t : code.Token) (q : Bor (List ℕ)) (labels : List Label) → t ≡ codes.Bare q → is_name q.now ≡ true → place_of_label labels q.now ≡ None → target.reads labels (token_as_text t) ≡ Err reasons.LabelMissing
unfolding target
target_missing t q labels is name none = ap (reads_target labels) is ∙ (let a = name in let b = none in rw (a, b) refl)

-- ---- five operands

joined_unit : {A : Type 0} (r : Result A AsmReason) → both_or_reason {B = Unit {0}} r (Ok tt) ≡ map_operand {B = A × Unit {0}} (λ (x : A). (x, tt)) r
joined_unit (Ok x) = refl
joined_unit (Err r) = refl

push : {A B C : Type 0} (r : Result A AsmReason) (s : Result B AsmReason) (h : B → C) → both_or_reason r (map_operand h s) ≡ map_operand (λ (x : A × B). (x.0, h x.1)) (both_or_reason r s)
push (Ok x) (Ok y) h = refl
push (Ok x) (Err b) h = refl
push (Err a) (Ok y) h = refl
push (Err a) (Err b) h = refl

pub behind : {A B C : Type 0} (r : Result A AsmReason) (s : Result C AsmReason) (h : B → C) (t : Result B AsmReason) → s ≡ map_operand h t → both_or_reason r s ≡ map_operand (λ (x : A × B). (x.0, h x.1)) (both_or_reason r t)
behind r s h t e = ap (both_or_reason r) e ∙ push r t h

mapped_mapped : {A B C : Type 0} (f : B → C) (h : A → B) (r : Result A AsmReason) → map_operand f (map_operand h r) ≡ map_operand (λ x. f (h x)) r
mapped_mapped f h (Ok x) = refl
mapped_mapped f h (Err r) = refl

five_counts : {A B C D E : Type 0} (p : Operand A) (q : Operand B) (o : Operand C) (n : Operand D) (m : Operand E) (labels : List Label) (ts : List Token) → ¬ (length ts ≡ 5) → (p & (q & (o & (n & (m & none))))).counts labels ts ≡ false
five_counts p q o n m labels [] e = refl
five_counts p q o n m labels (a ∷ []) e = refl
five_counts p q o n m labels (a ∷ b ∷ []) e = refl
five_counts p q o n m labels (a ∷ b ∷ c ∷ []) e = refl
five_counts p q o n m labels (a ∷ b ∷ c ∷ d ∷ []) e = refl
five_counts p q o n m labels (a ∷ b ∷ c ∷ d ∷ x ∷ []) e = absurd (e refl)
five_counts p q o n m labels (a ∷ b ∷ c ∷ d ∷ x ∷ y ∷ ts) e = refl

module _ {A B C D E F : Type 0} (f : A × (B × (C × (D × (E × Unit {0})))) → F) (g : F → A × (B × (C × (D × (E × Unit {0}))))) (p : Operand A) (q : Operand B) (o : Operand C) (n : Operand D) (m : Operand E) where
  abbrev all_five : Operands F
  all_five = map_operands f g (p & (q & (o & (n & (m & none)))))

  pub five_bad : (ts : List code.Token) (labels : List Label) → ¬ (length ts ≡ 5) → line_result (map_operands f g (p & (q & (o & (n & (m & none)))))) labels (tokens_of ts) ≡ Err reasons.Operands
  five_bad ts labels e = badly_counted all_five labels (tokens_of ts) (five_counts p q o n m labels (tokens_of ts) (not_many ts 5 e))

  abbrev pub flat_five : A × (B × (C × (D × E))) → F
  flat_five x = f (x.0, (x.1.0, (x.1.1.0, (x.1.1.1.0, (x.1.1.1.1, tt)))))

  five_tokens : (t u v w z : Token) (labels : List Label) → line_result all_five labels (t ∷ u ∷ v ∷ w ∷ z ∷ []) ≡ map_operand flat_five (both_or_reason (p.reads labels t) (both_or_reason (q.reads labels u) (both_or_reason (o.reads labels v) (both_or_reason (n.reads labels w) (m.reads labels z)))))
  five_tokens t u v w z labels =
      let r1 = p.reads labels t in
      let r2 = q.reads labels u in
      let r3 = o.reads labels v in
      let r4 = n.reads labels w in
      let r5 = m.reads labels z in
      let e5 : line_result (m & none) labels (z ∷ []) ≡ map_operand (λ (x : E). (x, tt)) r5 = last_operand m labels z ∙ joined_unit r5 in
      let e4 : line_result (n & (m & none)) labels (w ∷ z ∷ []) ≡ map_operand (λ (x : D × E). (x.0, (x.1, tt))) (both_or_reason r4 r5) = next_operand n (m & none) labels w (z ∷ []) refl ∙ behind r4 (line_result (m & none) labels (z ∷ [])) (λ (x : E). (x, tt)) r5 e5 in
      let e3 : line_result (o & (n & (m & none))) labels (v ∷ w ∷ z ∷ []) ≡ map_operand (λ (x : C × (D × E)). (x.0, (x.1.0, (x.1.1, tt)))) (both_or_reason r3 (both_or_reason r4 r5)) = next_operand o (n & (m & none)) labels v (w ∷ z ∷ []) refl ∙ behind r3 (line_result (n & (m & none)) labels (w ∷ z ∷ [])) (λ (x : D × E). (x.0, (x.1, tt))) (both_or_reason r4 r5) e4 in
      let e2 : line_result (q & (o & (n & (m & none)))) labels (u ∷ v ∷ w ∷ z ∷ []) ≡ map_operand (λ (x : B × (C × (D × E))). (x.0, (x.1.0, (x.1.1.0, (x.1.1.1, tt))))) (both_or_reason r2 (both_or_reason r3 (both_or_reason r4 r5))) = next_operand q (o & (n & (m & none))) labels u (v ∷ w ∷ z ∷ []) refl ∙ behind r2 (line_result (o & (n & (m & none))) labels (v ∷ w ∷ z ∷ [])) (λ (x : C × (D × E)). (x.0, (x.1.0, (x.1.1, tt)))) (both_or_reason r3 (both_or_reason r4 r5)) e3 in
      let e1 : line_result (p & (q & (o & (n & (m & none))))) labels (t ∷ u ∷ v ∷ w ∷ z ∷ []) ≡ map_operand (λ (x : A × (B × (C × (D × E)))). (x.0, (x.1.0, (x.1.1.0, (x.1.1.1.0, (x.1.1.1.1, tt)))))) (both_or_reason r1 (both_or_reason r2 (both_or_reason r3 (both_or_reason r4 r5)))) = next_operand p (q & (o & (n & (m & none)))) labels t (u ∷ v ∷ w ∷ z ∷ []) refl ∙ behind r1 (line_result (q & (o & (n & (m & none)))) labels (u ∷ v ∷ w ∷ z ∷ [])) (λ (x : B × (C × (D × E))). (x.0, (x.1.0, (x.1.1.0, (x.1.1.1, tt))))) (both_or_reason r2 (both_or_reason r3 (both_or_reason r4 r5))) e2 in
      seen_mapped f g (p & (q & (o & (n & (m & none))))) labels (t ∷ u ∷ v ∷ w ∷ z ∷ []) ∙ ap (map_operand f) e1 ∙ mapped_mapped f (λ (x : A × (B × (C × (D × E)))). (x.0, (x.1.0, (x.1.1.0, (x.1.1.1.0, (x.1.1.1.1, tt)))))) (both_or_reason r1 (both_or_reason r2 (both_or_reason r3 (both_or_reason r4 r5))))

  pub five_good : (ts : List code.Token) (t u v w z : code.Token) (labels : List Label) (r1 : Result A AsmReason) (r2 : Result B AsmReason) (r3 : Result C AsmReason) (r4 : Result D AsmReason) (r5 : Result E AsmReason) (s4 : Result (D × E) AsmReason) (s3 : Result (C × (D × E)) AsmReason) (s2 : Result (B × (C × (D × E))) AsmReason) (s1 : Result (A × (B × (C × (D × E)))) AsmReason) → ts ≡ t ∷ u ∷ v ∷ w ∷ z ∷ [] → r1 ≡ p.reads labels (token_as_text t) → r2 ≡ q.reads labels (token_as_text u) → r3 ≡ o.reads labels (token_as_text v) → r4 ≡ n.reads labels (token_as_text w) → r5 ≡ m.reads labels (token_as_text z) → s4 ≡ both_or_reason r4 r5 → s3 ≡ both_or_reason r3 s4 → s2 ≡ both_or_reason r2 s3 → s1 ≡ both_or_reason r1 s2 → line_result (map_operands f g (p & (q & (o & (n & (m & none)))))) labels (tokens_of ts) ≡ map_operand flat_five s1
  five_good ts t u v w z labels r1 r2 r3 r4 r5 s4 s3 s2 s1 e a b c d x e4 e3 e2 e1 =
      ap (λ l. line_result all_five labels (tokens_of l)) e
      ∙ five_tokens (token_as_text t) (token_as_text u) (token_as_text v) (token_as_text w) (token_as_text z) labels
      ∙ ap (map_operand flat_five) (
      ap (λ y. both_or_reason y (both_or_reason (q.reads labels (token_as_text u)) (both_or_reason (o.reads labels (token_as_text v)) (both_or_reason (n.reads labels (token_as_text w)) (m.reads labels (token_as_text z)))))) (sym a)
      ∙ ap (λ y. both_or_reason r1 (both_or_reason y (both_or_reason (o.reads labels (token_as_text v)) (both_or_reason (n.reads labels (token_as_text w)) (m.reads labels (token_as_text z)))))) (sym b)
      ∙ ap (λ y. both_or_reason r1 (both_or_reason r2 (both_or_reason y (both_or_reason (n.reads labels (token_as_text w)) (m.reads labels (token_as_text z)))))) (sym c)
      ∙ ap (λ y. both_or_reason r1 (both_or_reason r2 (both_or_reason r3 (both_or_reason y (m.reads labels (token_as_text z)))))) (sym d)
      ∙ ap (λ y. both_or_reason r1 (both_or_reason r2 (both_or_reason r3 (both_or_reason r4 y)))) (sym x)
      ∙ ap (λ y. both_or_reason r1 (both_or_reason r2 (both_or_reason r3 y))) (sym e4)
      ∙ ap (λ y. both_or_reason r1 (both_or_reason r2 y)) (sym e3)
      ∙ ap (λ y. both_or_reason r1 y) (sym e2)
      ∙ sym e1)
