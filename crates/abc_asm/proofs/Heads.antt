-- What the lines say that have others below them, by the functions of the lines and of what is counted.
use Rattle.std.proofs.Common.{◌≡◌, ℕ, ◌-◌, ◌≤◌, Bool, false, nat_le, List, [], ◌∷◌, Ok, Err, refl, sym, ap, subst, ◌∙◌}
use Rattle.std.specs.declared.result.Result.{Result}
use Rattle.abc_text_lines.specs.declared.reason.AsmReason.{AsmReason}
use Rattle.abc_text_lines.specs.declared.reason.AsmReason.TheVariants as reasons
use Rattle.abc_text_lines.specs.declared.word.Word.TheVariants as words
use Rattle.abc_file_types.specs.declared.tables.Sizes.{Sizes}
use Rattle.abc_text_lines.specs.Lines.{Label}
use Rattle.abc_text_lines.specs.Operands.{Operands}
use Rattle.abc_text_lines.specs.Wordlines.{count_all}
use Rattle.abc_text_lines.specs.File.{count_unless, instance_counts, method_counts, trait_counts}
use Rattle.abc_text_lines.specs.Lineforms as forms
use Rattle.abc_text_operands.specs.Heads.{as_instance, as_method}
use Rattle.abc_text_operands.specs.Joined.{line_result, map_operand}
use Rattle.abc_text_operands.specs.declared.lines.InstanceHead.{InstanceHead}
use Rattle.abc_text_operands.specs.declared.lines.MethodHead.{MethodHead}
use Rattle.abc_text_operands.specs.Traited.{as_trait}
use Rattle.abc_text_operands.specs.declared.traits.TraitHead.{TraitHead}
use Rattle.abc_text_tokens.specs.Walks.{tokens_of}
use Rattle.abc_text_tokens.specs.declared.token.Token.{Token}
use Rattle.abc_text_reader.specs.declared.reader.Reader.{Reader}
use Rattle.abc_text_reader.specs.declared.reader.Taken.{Taken}
use Rattle.abc_text_reader.specs.Parts.{head_says}
use Rattle.abc_text_reader.specs.Reading.{labels_now, rows_left}
use Rattle.abc_asm.specs.Below.{instance_value, metadata_value, method_index_value, method_value, trait_value}
use Rattle.abc_asm.specs.Counted.{with_fault}
use Rattle.abc_asm.proofs.Counting.{head_counted, head_plain}

abbrev method_head : forms.MethodHead → MethodHead
method_head m = record { ret = m.ret; name = m.name; flags = m.flags }

abbrev instance_head : forms.InstanceHead → InstanceHead
instance_head i = record { name = i.name; super_name = i.super_name; flags = i.flags }

abbrev trait_head : forms.TraitHead → TraitHead
trait_head t = record { attrs = t.attrs; name = t.name; body = t.body }

abbrev number : ℕ → ℕ
number n = n

mapped_same : (r : Result ℕ AsmReason) → map_operand number r ≡ r
mapped_same (Ok n) = refl
mapped_same (Err e) = refl

module _ (r : Reader) (taken : Taken) (once : taken.repeated ≡ false) (ts : List Token) (same : ts ≡ r.operands.items) where
  abbrev labels : List Label
  labels = labels_now r.body

  -- what a line's function says of the operands that the reader found
  moved : {C S : Type 0} (f : C → S) (p : Operands S) (said : Result C AsmReason) → ((ls : List Label) → map_operand f said ≡ line_result p ls (tokens_of ts)) → map_operand f said ≡ line_result p labels (tokens_of r.operands.items)
  moved f p said says = subst (λ (l : List Token). map_operand f said ≡ line_result p labels (tokens_of l)) same (says labels)

  numbered : (p : Operands ℕ) (said : Result ℕ AsmReason) → ((ls : List Label) → said ≡ line_result p ls (tokens_of ts)) → map_operand number said ≡ line_result p labels (tokens_of r.operands.items)
  numbered p said says = mapped_same said ∙ subst (λ (l : List Token). said ≡ line_result p labels (tokens_of l)) same (says labels)

  pub method_says : (said : Result MethodHead AsmReason) (flags : ℕ) (fine : Bool) → taken.word ≡ words.Method → ((ls : List Label) → map_operand as_method said ≡ line_result (forms.method_line r.sizes) ls (tokens_of ts)) → ((v : Sizes) (ls : List Label) → flags ≡ ((forms.method_line v).value ls (tokens_of ts)).flags) → fine ≡ method_counts flags (rows_left r) → with_fault said fine reasons.Count ≡ head_says method_value taken r
  method_says said flags fine word says of_flags is =
      let flagged : flags ≡ ((forms.method_line r.sizes).value labels (tokens_of r.operands.items)).flags = subst (λ (l : List Token). flags ≡ ((forms.method_line r.sizes).value labels (tokens_of l)).flags) same (of_flags r.sizes labels) in
      head_counted r taken words.Method word once as_method method_head (λ m. refl) (λ v ls tokens. (forms.method_line v).value ls tokens) said (moved as_method (forms.method_line r.sizes) said says) refl fine
      (ap count_unless (sym (is ∙ ap (λ (n : ℕ). method_counts n (rows_left r)) flagged)))

  pub instance_says : (said : Result InstanceHead AsmReason) (flags : ℕ) (fine : Bool) → taken.word ≡ words.Instance → ((ls : List Label) → map_operand as_instance said ≡ line_result (forms.instance_line r.sizes) ls (tokens_of ts)) → ((v : Sizes) (ls : List Label) → flags ≡ ((forms.instance_line v).value ls (tokens_of ts)).flags) → fine ≡ instance_counts r.sizes.classes r.instances flags (rows_left r) → with_fault said fine reasons.Count ≡ head_says instance_value taken r
  instance_says said flags fine word says of_flags is =
      let flagged : flags ≡ ((forms.instance_line r.sizes).value labels (tokens_of r.operands.items)).flags = subst (λ (l : List Token). flags ≡ ((forms.instance_line r.sizes).value labels (tokens_of l)).flags) same (of_flags r.sizes labels) in
      head_counted r taken words.Instance word once as_instance instance_head (λ i. refl) (λ v ls tokens. (forms.instance_line v).value ls tokens) said (moved as_instance (forms.instance_line r.sizes) said says) refl fine
      (ap count_unless (sym (is ∙ ap (λ (n : ℕ). instance_counts r.sizes.classes r.instances n (rows_left r)) flagged)))

  pub trait_says : (said : Result TraitHead AsmReason) (attrs : ℕ) (fine : Bool) → taken.word ≡ words.Trait → ((ls : List Label) → map_operand as_trait said ≡ line_result (forms.trait_line r.sizes) ls (tokens_of ts)) → ((v : Sizes) (ls : List Label) → attrs ≡ ((forms.trait_line v).value ls (tokens_of ts)).attrs) → fine ≡ trait_counts attrs (rows_left r) → with_fault said fine reasons.Count ≡ head_says trait_value taken r
  trait_says said attrs fine word says of_attrs is =
      let flagged : attrs ≡ ((forms.trait_line r.sizes).value labels (tokens_of r.operands.items)).attrs = subst (λ (l : List Token). attrs ≡ ((forms.trait_line r.sizes).value labels (tokens_of l)).attrs) same (of_attrs r.sizes labels) in
      head_counted r taken words.Trait word once as_trait trait_head (λ t. refl) (λ v ls tokens. (forms.trait_line v).value ls tokens) said (moved as_trait (forms.trait_line r.sizes) said says) refl fine
      (ap count_unless (sym (is ∙ ap (λ (n : ℕ). trait_counts n (rows_left r)) flagged)))

  pub class_says : (said : Result ℕ AsmReason) (n : ℕ) → taken.word ≡ words.Class → ((ls : List Label) → said ≡ line_result (forms.method_index_line r.sizes) ls (tokens_of ts)) → n ≡ r.sizes.classes - count_all 20 (rows_left r) → with_fault said (nat_le n r.instances) reasons.Count ≡ head_says method_index_value taken r
  class_says said n word says is =
      head_counted r taken words.Class word once number number (λ m. refl) method_index_value said (numbered (forms.method_index_line r.sizes) said says) refl (nat_le n r.instances)
      (ap (λ (m : ℕ). count_unless (nat_le m r.instances)) (sym is))

  pub metadata_says : (said : Result ℕ AsmReason) → taken.word ≡ words.Metadata → ((ls : List Label) → said ≡ line_result (forms.string_index_line r.sizes) ls (tokens_of ts)) → said ≡ head_says metadata_value taken r
  metadata_says said word says = head_plain r taken words.Metadata word once number number (λ m. refl) metadata_value said (numbered (forms.string_index_line r.sizes) said says) refl refl

  pub initializer_says : (said : Result ℕ AsmReason) → taken.word ≡ words.Initializer → ((ls : List Label) → said ≡ line_result (forms.method_index_line r.sizes) ls (tokens_of ts)) → said ≡ head_says method_index_value taken r
  initializer_says said word says = head_plain r taken words.Initializer word once number number (λ m. refl) method_index_value said (numbered (forms.method_index_line r.sizes) said says) refl refl

  pub script_says : (said : Result ℕ AsmReason) → taken.word ≡ words.Script → ((ls : List Label) → said ≡ line_result (forms.method_index_line r.sizes) ls (tokens_of ts)) → said ≡ head_says method_index_value taken r
  script_says said word says = head_plain r taken words.Script word once number number (λ m. refl) method_index_value said (numbered (forms.method_index_line r.sizes) said says) refl refl
