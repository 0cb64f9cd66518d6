-- The operands of instructions.
use Rattle.std.proofs.Common.{◌≡◌, ℕ, suc, ◌+◌, ◌⊎◌, inl, inr, Bool, true, false, cond, List, [], ◌∷◌, ◌++◌, length, ◌==◌, map, ℤ, ◌&&◌, rules, Some, None, Ok, Err, refl, sym, ap, ◌∙◌, arith}
use Rattle.std.specs.Prelude.{◌≤ℤ◌, int_le}
use Rattle.abc_text_lines.proofs.Bools.{and_true, split_bool}
use Rattle.std.specs.Borrow.{Bor}
use Rattle.std.specs.Map.{lookup}
use Rattle.std.specs.Str.{bytes_eq}
use Rattle.std.specs.declared.option.Option.{Option}
use Rattle.std.specs.declared.result.Result.{Result}
use Rattle.abc_text_lines.specs.declared.reason.AsmReason.{AsmReason}
use Rattle.abc_text_lines.specs.declared.reason.AsmReason.TheVariants as reasons
use Rattle.abc_text_lines.specs.Reasons.{least}
use Rattle.abc_text_lines.specs.Tokens.{Token, Bare, Quoted}
use Rattle.abc_text_lines.specs.Lines.{Label}
use Rattle.abc_text_lines.specs.Operands.{Operand, Operands, found_place, is_name, none, place_of_label, map_operands, any_signed, several, signed_between, signed_token, target, test_result, ◌&◌}
use Rattle.abc_file_types.specs.declared.code.Instr.{Instr}
use Rattle.abc_file_types.specs.declared.code.Instr.TheVariants as instrs
use Rattle.abc_file_types.specs.declared.opcodes.Form.TheVariants as forms
use Rattle.abc_file_types.specs.declared.opcodes.OpInfo.{OpInfo}
use Rattle.abc_file_types.specs.Opcodes.{form_at, form_in, info_at}
use Rattle.abc_text_lines.specs.Lineforms.{operands_by_form, instruction_fields, instruction_operands, switch_in}
use Rattle.abc_text_tokens.specs.declared.token.Token as code
use Rattle.abc_text_tokens.specs.Names.{NameMap, found_name, is_name_equal}
use Rattle.abc_text_tokens.specs.Walks.{token_as_text, tokens_of}
use Rattle.abc_text_tokens.proofs.Walking.{some_is, zero_is}
use Rattle.abc_text_operands.specs.Joined.{both_or_reason, line_result, map_operand}
use Rattle.abc_text_operands.specs.Places.{Places}
use Rattle.abc_text_operands.proofs.Joining.{badly_counted, next_operand, not_many, seen_mapped, three_counts, three_good}
use Rattle.abc_text_operands.proofs.More.{behind}
use Rattle.abc_text_operands.specs.Each.{each_result, label_place, reason_after}
use Rattle.abc_text_operands.proofs.Eaching.{several_is}

-- ---- labels by the places that were found

-- the labels that a map has
abbrev as_label : Bor (List ℕ) × ℕ → Label
as_label e = record { name = e.0.now; number = e.1 }

found_as : (es : List (Bor (List ℕ) × ℕ)) (name : List ℕ) → lookup (is_name_equal name) es ≡ place_of_label (map as_label es) name
found_as [] name = refl
found_as (e ∷ es) name = ap (λ (o : Option ℕ). cond (bytes_eq e.0.now name) (Some e.1) o) (found_as es name)

pub labels_in : NameMap ℕ → List Label
labels_in m = map as_label m.entries

pub are_places : (m : NameMap ℕ) → Places m (labels_in m)
unfolding labels_in
are_places m name = found_as m.entries name

pub place_is : (m : NameMap ℕ) (labels : List Label) (t : Token) → Places m labels → target.reads labels t ≡ label_place m t
unfolding target
place_is m labels (Bare word) places = ap (λ (o : Option ℕ). cond (is_name word) (found_place o) (Err reasons.Kind)) (sym (places word))
place_is m labels (Quoted bytes) places = refl

each_same : (f g : Token → Result ℕ AsmReason) (ts : List Token) → ((t : Token) → f t ≡ g t) → each_result f ts ≡ each_result g ts
each_same f g [] same = refl
each_same f g (t ∷ ts) same = ap (λ (r : Result ℕ AsmReason). map_operand (λ (y : ℕ × List ℕ). y.0 ∷ y.1) (both_or_reason r (each_result f ts))) (same t) ∙ ap (λ (r : Result (List ℕ) AsmReason). map_operand (λ (y : ℕ × List ℕ). y.0 ∷ y.1) (both_or_reason (g t) r)) (each_same f g ts same)

-- ---- a switch

abbrev switched : ℕ × List ℕ → Instr
switched x = instrs.Switch x.0 x.1

abbrev in_cases : ℕ × (ℕ × List ℕ) → Instr
in_cases x = instrs.Switch x.0 (x.1.0 ∷ x.1.1)

cases_joined : (r s : Result ℕ AsmReason) (rest : Result (List ℕ) AsmReason) → map_operand in_cases (both_or_reason r (both_or_reason s rest)) ≡ map_operand switched (both_or_reason r (map_operand (λ (y : ℕ × List ℕ). y.0 ∷ y.1) (both_or_reason s rest)))
cases_joined (Ok x) (Ok y) (Ok z) = refl
cases_joined (Ok x) (Ok y) (Err c) = refl
cases_joined (Ok x) (Err b) rest = refl
cases_joined (Err a) (Ok y) (Ok z) = refl
cases_joined (Err a) (Ok y) (Err c) = refl
cases_joined (Err a) (Err b) rest = refl

switch_two : (labels : List Label) (t u : Token) (us : List Token) → line_result (instruction_fields 0x1b forms.Switch) labels (t ∷ u ∷ us) ≡ map_operand switched (both_or_reason (target.reads labels t) (each_result (target.reads labels) (u ∷ us)))
switch_two labels t u us =
    seen_mapped in_cases switch_in (target & (target & several target)) labels (t ∷ u ∷ us)
    ∙ ap (map_operand in_cases) (next_operand target (target & several target) labels t (u ∷ us) refl ∙ ap (both_or_reason (target.reads labels t)) (next_operand target (several target) labels u us refl ∙ ap (both_or_reason (target.reads labels u)) (several_is target labels us)))
    ∙ cases_joined (target.reads labels t) (target.reads labels u) (each_result (target.reads labels) us)

pub switch_told : (m : NameMap ℕ) (labels : List Label) (ts : List code.Token) (t : code.Token) (others : List code.Token) (base : Result ℕ AsmReason) (s : Result (List ℕ) AsmReason) → Places m labels → ts ≡ t ∷ others → (length others == 0) ≡ false → base ≡ target.reads labels (token_as_text t) → each_result (label_place m) (tokens_of others) ≡ s → line_result (instruction_fields 0x1b forms.Switch) labels (tokens_of ts) ≡ map_operand switched (both_or_reason base s)
switch_told m labels ts t [] base s places e some is each = let z = some_is 0 some in absurd (omega arith)
switch_told m labels ts t (u ∷ us) base s places e some is each =
    ap (λ l. line_result (instruction_fields 0x1b forms.Switch) labels (tokens_of l)) e
    ∙ switch_two labels (token_as_text t) (token_as_text u) (tokens_of us)
    ∙ ap (λ (r : Result (List ℕ) AsmReason). map_operand switched (both_or_reason (target.reads labels (token_as_text t)) r)) (each_same (target.reads labels) (label_place m) (tokens_of (u ∷ us)) (λ x. place_is m labels x places) ∙ each)
    ∙ ap (λ (r : Result ℕ AsmReason). map_operand switched (both_or_reason r s)) (sym is)

pub switch_made : (base : Result ℕ AsmReason) (cs : List ℕ) → map_operand switched (both_or_reason base (Ok cs)) ≡ map_operand (λ d. instrs.Switch d cs) base
switch_made (Ok b) cs = refl
switch_made (Err r) cs = refl

refused_after : (base : Result ℕ AsmReason) (r : AsmReason) → map_operand switched (both_or_reason {B = List ℕ} base (Err r)) ≡ Err (reason_after base r)
refused_after (Ok b) r = refl
refused_after (Err f) r = refl

pub switch_refused : (base : Result ℕ AsmReason) (r told_ : AsmReason) → told_ ≡ reason_after base r → map_operand switched (both_or_reason {B = List ℕ} base (Err r)) ≡ Err told_
switch_refused base r told_ same = refused_after base r ∙ ap (λ (x : AsmReason). Err x) (sym same)

pub switch_empty : (labels : List Label) (ts : List code.Token) → ts ≡ [] → line_result (instruction_fields 0x1b forms.Switch) labels (tokens_of ts) ≡ Err reasons.Operands
switch_empty labels ts e = ap (λ l. line_result (instruction_fields 0x1b forms.Switch) labels (tokens_of l)) e ∙ badly_counted (instruction_fields 0x1b forms.Switch) labels [] refl

pub switch_caseless : (labels : List Label) (ts : List code.Token) (t : code.Token) (others : List code.Token) → ts ≡ t ∷ others → (length others == 0) ≡ true → line_result (instruction_fields 0x1b forms.Switch) labels (tokens_of ts) ≡ Err reasons.Operands
switch_caseless labels ts t [] e none_ = ap (λ l. line_result (instruction_fields 0x1b forms.Switch) labels (tokens_of l)) e ∙ badly_counted (instruction_fields 0x1b forms.Switch) labels (token_as_text t ∷ []) refl
switch_caseless labels ts t (u ∷ us) e none_ = let z = zero_is (length (u ∷ us)) none_ in absurd (omega arith)

-- ---- four operands

module _ {A B C D E : Type 0} (f : A × (B × (C × (D × Unit {0}))) → E) (g : E → A × (B × (C × (D × Unit {0})))) (p : Operand A) (q : Operand B) (o : Operand C) (n : Operand D) where
  abbrev four : Operands E
  four = map_operands f g (p & (q & (o & (n & none))))

  pub four_empty : (ts : List code.Token) (labels : List Label) → ts ≡ [] → line_result (map_operands f g (p & (q & (o & (n & none))))) labels (tokens_of ts) ≡ Err reasons.Operands
  four_empty ts labels e = ap (λ l. line_result four labels (tokens_of l)) e ∙ badly_counted four labels [] refl

  pub four_bad : (ts : List code.Token) (t : code.Token) (others : List code.Token) (labels : List Label) → ts ≡ t ∷ others → ¬ (length others ≡ 3) → line_result (map_operands f g (p & (q & (o & (n & none))))) labels (tokens_of ts) ≡ Err reasons.Operands
  four_bad ts t others labels e many = ap (λ l. line_result four labels (tokens_of l)) e ∙ badly_counted four labels (token_as_text t ∷ tokens_of others) (three_counts q o n labels (tokens_of others) (not_many others 3 many))

  pub four_good : (ts : List code.Token) (t : code.Token) (others : List code.Token) (u v w : code.Token) (labels : List Label) (r : Result A AsmReason) (s : Result B AsmReason) (x : Result C AsmReason) (y : Result D AsmReason) (ends : Result (C × D) AsmReason) (last : Result (B × (C × D)) AsmReason) (all : Result (A × (B × (C × D))) AsmReason) → ts ≡ t ∷ others → others ≡ u ∷ v ∷ w ∷ [] → r ≡ p.reads labels (token_as_text t) → s ≡ q.reads labels (token_as_text u) → x ≡ o.reads labels (token_as_text v) → y ≡ n.reads labels (token_as_text w) → ends ≡ both_or_reason x y → last ≡ both_or_reason s ends → all ≡ both_or_reason r last → line_result (map_operands f g (p & (q & (o & (n & none))))) labels (tokens_of ts) ≡ map_operand (λ z. f (z.0, (z.1.0, (z.1.1.0, (z.1.1.1, tt))))) all
  four_good ts t others u v w labels r s x y ends last all e e3 a b c d e1 e2 is =
      let three : line_result (q & (o & (n & none))) labels (tokens_of others) ≡ map_operand (λ (z : B × (C × D)). (z.0, (z.1.0, (z.1.1, tt)))) last = three_good (λ (z : B × (C × (D × Unit {0}))). z) (λ (z : B × (C × (D × Unit {0}))). z) q o n others u v w labels s x y ends last e3 b c d e1 e2 in
      let counted : (q & (o & (n & none))).counts labels (tokens_of others) ≡ true = ap (λ l. (q & (o & (n & none))).counts labels (tokens_of l)) e3 in
      ap (λ l. line_result four labels (tokens_of l)) e
      ∙ seen_mapped f g (p & (q & (o & (n & none)))) labels (token_as_text t ∷ tokens_of others)
      ∙ ap (map_operand f) (next_operand p (q & (o & (n & none))) labels (token_as_text t) (tokens_of others) counted ∙ ap (λ (k : Result A AsmReason). both_or_reason k (line_result (q & (o & (n & none))) labels (tokens_of others))) (sym a) ∙ behind r (line_result (q & (o & (n & none))) labels (tokens_of others)) (λ (z : B × (C × D)). (z.0, (z.1.0, (z.1.1, tt)))) last three)
      ∙ twice f (both_or_reason r last)
      ∙ ap (map_operand (λ z. f (z.0, (z.1.0, (z.1.1.0, (z.1.1.1, tt)))))) (sym is)
    where
      twice : (f : A × (B × (C × (D × Unit {0}))) → E) (k : Result (A × (B × (C × D))) AsmReason) → map_operand f (map_operand (λ (z : A × (B × (C × D))). (z.0, (z.1.0, (z.1.1.0, (z.1.1.1, tt))))) k) ≡ map_operand (λ z. f (z.0, (z.1.0, (z.1.1.0, (z.1.1.1, tt))))) k
      twice f (Ok z) = refl
      twice f (Err z) = refl

-- ---- by the opcode

pub by_info : (op : ℕ) (info : OpInfo) (labels : List Label) (ts : List Token) → Some info ≡ info_at op → line_result (instruction_operands op) labels ts ≡ line_result (instruction_fields op info.form) labels ts
unfolding instruction_operands form_at
by_info op info labels ts e = ap (λ (o : Option OpInfo). line_result (operands_by_form op (form_in o)) labels ts) (sym e)

pub by_none : (op : ℕ) (labels : List Label) (ts : List Token) → None ≡ info_at op → line_result (instruction_operands op) labels ts ≡ Err reasons.Word
unfolding instruction_operands form_at least
by_none op labels ts e = ap (λ (o : Option OpInfo). line_result (operands_by_form op (form_in o)) labels ts) (sym e)

-- ---- ranges

abbrev ok_as : {A : Type 0} → A → Result A AsmReason
ok_as z = Ok z

tested_ok : {A : Type 0} (test : A → Bool) (reason : AsmReason) (r : Result A AsmReason) (x : A) → Ok x ≡ test_result test reason r → test x ≡ true
tested_ok {A} test reason (Ok y) x e =
    elim (split_bool (test y)) [
      | inl t ↦ let u : ok_as x ≡ cond (test y) (ok_as y) (Err reason) = e in let same : ok_as x ≡ ok_as y = u ∙ (rw t refl) in let is : x ≡ y = cc in ap test is ∙ t
      | inr t ↦ let u : ok_as x ≡ Err reason = e ∙ (rw t refl) in absurd cc
    ]
tested_ok test reason (Err s) x e = absurd cc

le_of : (a b : ℤ) → int_le a b ≡ true → a ≤ℤ b
le_of a b e = search rules

pub within_range : (low high : ℤ) (token : Token) (z : ℤ) → Ok z ≡ (signed_between low high).reads [] token → (low ≤ℤ z) × (z ≤ℤ high)
unfolding any_signed
within_range low high token z e =
    let both = and_true (int_le low z) (int_le z high) (tested_ok (λ y. int_le low y && int_le y high) reasons.Range (signed_token token) z e) in
    (le_of low z both.0, le_of z high both.1)
