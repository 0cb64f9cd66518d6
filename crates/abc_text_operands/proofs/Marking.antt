-- Flags and attributes.
use Rattle.std.proofs.Common.{◌≡◌, ℕ, ◌<◌, ◌≤◌, List, [], ◌∷◌, length, get_or, Some, None, Ok, Err, refl, sym, ap, ◌∙◌, arith}
use Rattle.std.specs.declared.result.Result.{Result}
use Rattle.abc_text_lines.specs.declared.reason.AsmReason.{AsmReason}
use Rattle.abc_text_lines.specs.Tokens.{Token}
use Rattle.abc_file_types.specs.declared.tables.Sizes.{Sizes}
use Rattle.abc_file_types.specs.declared.traits.TraitKind.{TraitKind}
use Rattle.abc_text_lines.specs.Lines.{Label}
use Rattle.abc_text_lines.specs.Operands.{any_number, number_below, value_if_any, value_or}
use Rattle.abc_text_lines.specs.Kinds.{trait_kind_operand}
use Rattle.abc_text_lines.specs.Lineforms.{instance_line, method_line, trait_line, trait_rest}
use Rattle.abc_text_tokens.specs.declared.token.Token as code
use Rattle.abc_text_tokens.specs.Walks.{token_as_text, tokens_of}
use Rattle.abc_text_operands.specs.Otherlines.{attrs_in, behind_kind, flags_in}

-- ---- flags

pub method_flags : (v : Sizes) (labels : List Label) (ts : List Token) → ((method_line v).value labels ts).flags ≡ flags_in ts
unfolding method_line any_number
method_flags v labels [] = refl
method_flags v labels (a ∷ []) = refl
method_flags v labels (a ∷ b ∷ []) = refl
method_flags v labels (a ∷ b ∷ c ∷ ts) = refl

pub instance_flags : (v : Sizes) (labels : List Label) (ts : List Token) → ((instance_line v).value labels ts).flags ≡ flags_in ts
unfolding instance_line any_number
instance_flags v labels [] = refl
instance_flags v labels (a ∷ []) = refl
instance_flags v labels (a ∷ b ∷ []) = refl
instance_flags v labels (a ∷ b ∷ c ∷ ts) = refl

pub flags_few : (ts : List code.Token) → length ts < 3 → 0 ≡ flags_in (tokens_of ts)
flags_few [] few = refl
flags_few (a ∷ []) few = refl
flags_few (a ∷ b ∷ []) few = refl
flags_few (a ∷ b ∷ c ∷ ts) few = absurd (omega arith)

abbrev third : code.Token → Result ℕ AsmReason
third t = (number_below 256).reads [] (token_as_text t)

abbrev or_zero : Result ℕ AsmReason → ℕ
or_zero r = value_or r 0

third_is : (ts : List code.Token) (t : code.Token) → 3 ≤ length ts → t ≡ get_or ts 2 t → or_zero (third t) ≡ flags_in (tokens_of ts)
third_is [] t many is = absurd (omega arith)
third_is (a ∷ []) t many is = absurd (omega arith)
third_is (a ∷ b ∷ []) t many is = absurd (omega arith)
third_is (a ∷ b ∷ c ∷ ts) t many is = ap (λ (x : code.Token). or_zero (third x)) is

pub flags_third : (ts : List code.Token) (t : code.Token) (n : ℕ) → 3 ≤ length ts → t ≡ get_or ts 2 t → Ok n ≡ (number_below 256).reads [] (token_as_text t) → n ≡ flags_in (tokens_of ts)
flags_third ts t n many is e = ap or_zero e ∙ third_is ts t many is

pub flags_fault : (ts : List code.Token) (t : code.Token) (r : AsmReason) → 3 ≤ length ts → t ≡ get_or ts 2 t → Err r ≡ (number_below 256).reads [] (token_as_text t) → 0 ≡ flags_in (tokens_of ts)
flags_fault ts t r many is e = ap or_zero e ∙ third_is ts t many is

-- ---- attributes

no_attrs : (v : Sizes) (labels : List Label) (r : Result TraitKind AsmReason) → ((trait_rest v (value_if_any r)).value labels []).attrs ≡ 0
unfolding any_number
no_attrs v labels (Ok kind) = refl
no_attrs v labels (Err r) = refl

some_attrs : (v : Sizes) (labels : List Label) (r : Result TraitKind AsmReason) (u : Token) (ts : List Token) → ((trait_rest v (value_if_any r)).value labels (u ∷ ts)).attrs ≡ behind_kind r (value_or ((number_below 16).reads [] u) 0)
unfolding any_number
some_attrs v labels (Ok kind) u ts = refl
some_attrs v labels (Err r) u ts = refl

pub trait_attrs : (v : Sizes) (labels : List Label) (ts : List Token) → ((trait_line v).value labels ts).attrs ≡ attrs_in ts
unfolding trait_line trait_kind_operand
trait_attrs v labels [] = refl
trait_attrs v labels (t ∷ []) = no_attrs v labels (trait_kind_operand.reads labels t)
trait_attrs v labels (t ∷ u ∷ ts) = some_attrs v labels (trait_kind_operand.reads labels t) u ts

pub attrs_few : (ts : List code.Token) → length ts < 2 → 0 ≡ attrs_in (tokens_of ts)
attrs_few [] few = refl
attrs_few (a ∷ []) few = refl
attrs_few (a ∷ b ∷ ts) few = absurd (omega arith)

abbrev attrs_at : code.Token → code.Token → ℕ
attrs_at t u = behind_kind (trait_kind_operand.reads [] (token_as_text t)) (value_or ((number_below 16).reads [] (token_as_text u)) 0)

attrs_are : (ts : List code.Token) (t u : code.Token) → 2 ≤ length ts → t ≡ get_or ts 0 t → u ≡ get_or ts 1 u → attrs_at t u ≡ attrs_in (tokens_of ts)
attrs_are [] t u many a b = absurd (omega arith)
attrs_are (x ∷ []) t u many a b = absurd (omega arith)
attrs_are (x ∷ y ∷ ts) t u many a b = ap (λ (z : code.Token). attrs_at z u) a ∙ ap (attrs_at x) b

pub attrs_known : (ts : List code.Token) (t u : code.Token) (k : TraitKind) (n : ℕ) → 2 ≤ length ts → t ≡ get_or ts 0 t → u ≡ get_or ts 1 u → Ok k ≡ trait_kind_operand.reads [] (token_as_text t) → n ≡ value_or ((number_below 16).reads [] (token_as_text u)) 0 → n ≡ attrs_in (tokens_of ts)
attrs_known ts t u k n many a b known is =
    is
    ∙ ap (λ (r : Result TraitKind AsmReason). behind_kind r (value_or ((number_below 16).reads [] (token_as_text u)) 0)) known
    ∙ attrs_are ts t u many a b

pub attrs_unknown : (ts : List code.Token) (t : code.Token) (r : AsmReason) → 2 ≤ length ts → t ≡ get_or ts 0 t → Err r ≡ trait_kind_operand.reads [] (token_as_text t) → 0 ≡ attrs_in (tokens_of ts)
attrs_unknown [] t r many a unknown = absurd (omega arith)
attrs_unknown (x ∷ []) t r many a unknown = absurd (omega arith)
attrs_unknown (x ∷ y ∷ ts) t r many a unknown =
    ap (λ (s : Result TraitKind AsmReason). behind_kind s (value_or ((number_below 16).reads [] (token_as_text y)) 0)) unknown
    ∙ ap (λ (z : code.Token). attrs_at z y) a
