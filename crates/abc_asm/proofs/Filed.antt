-- A file is read as the definitions read it.
use Rattle.std.proofs.Common.{◌≡◌, ℕ, inl, inr, nat_eq, List, [], ◌∷◌, map, Ok, Err, Some, None, refl, sym, ap, ◌∙◌}
use Rattle.std.specs.declared.option.Option.{Option}
use Rattle.abc_text_lines.specs.declared.reason.AsmReason.{AsmReason}
use Rattle.abc_text_lines.specs.declared.word.Word.{Word}
use Rattle.abc_text_lines.specs.declared.word.Word.TheVariants as words
use Rattle.abc_text_lines.specs.Reasons.{least}
use Rattle.abc_text_lines.specs.Words.{place_of}
use Rattle.abc_text_lines.proofs.Bools.{split_bool}
use Rattle.abc_file_types.specs.declared.classes.ClassInfo.{ClassInfo}
use Rattle.abc_file_types.specs.declared.classes.Script.{Script}
use Rattle.abc_file_types.specs.declared.code.Body.{Body}
use Rattle.abc_file_types.specs.declared.methods.Method.{Method}
use Rattle.abc_file_types.specs.declared.tables.Abc.{Abc}
use Rattle.abc_file_types.specs.declared.tables.Sizes.{Sizes}
use Rattle.abc_file_types.specs.declared.traits.TraitInfo.{TraitInfo}
use Rattle.abc_text_lines.specs.Lines.{Row}
use Rattle.abc_text_lines.specs.Operands.{Operands}
use Rattle.abc_text_lines.specs.Rows.{Faults, optional, pair_reads, with_line_value, unless, ◌>>=◌}
use Rattle.abc_text_lines.specs.Wordlines.{always, flat_lines, lines_of_word}
use Rattle.abc_text_lines.specs.Answers as answers
use Rattle.abc_text_lines.specs.Answers.{initializer_in, flat_pairs}
use Rattle.abc_text_lines.specs.File as file
use Rattle.abc_text_lines.specs.File.{faults}
use Rattle.abc_text_lines.specs.Lineforms as forms
use Rattle.abc_text_operands.specs.declared.lines.BodyHead.{BodyHead}
use Rattle.abc_text_operands.specs.declared.lines.InstanceHead.{InstanceHead}
use Rattle.abc_text_operands.specs.declared.lines.MethodHead.{MethodHead}
use Rattle.abc_text_reader.specs.Parts.{item_of, items_read, lone}
use Rattle.abc_asm.specs.Below.{body_below, body_made, body_from_below, class_from_below, initializer_below, initializer_of, instance_below, instance_made, instance_from_below, metadata_below, metadata_from_below, method_below, method_made, method_from_below, script_from_below, traits_below}
use Rattle.abc_asm.specs.declared.classes.InstanceBelow.{InstanceBelow}
use Rattle.abc_asm.proofs.Alike.{Reading, as_other, many_is, pair_is}
use Rattle.abc_asm.proofs.Bodying.{as_same, flat_is, full_below, traits_are}
use Rattle.abc_asm.specs.declared.assembling.Definitions.{Definitions}
use Rattle.abc_asm.specs.Whole.{DefinitionLists, abc_of, definitions_made, definitions_read, file_part_read, pools_made, pools_read}

abbrev IsRead : {A : Type 0} → (List Row → Reading A) → (List Row → Reading A) → Type 0
IsRead {A} p t = (rows : List Row) → as_other (λ (x : A). x) (p rows) ≡ t rows

then_is : {A B : Type 0} (p t : List Row → Reading A) (q s : List Row → Reading B) → IsRead p t → IsRead q s → IsRead (pair_reads p q) (pair_reads t s)
then_is {A} {B} p t q s a b rows = pair_is (λ (x : A). x) (λ (x : B). x) q s b p t a rows

and_is : {A B D : Type 0} (g : B → D) (p t : List Row → Reading A) (q : List Row → Reading B) (s : List Row → Reading D) → IsRead p t → ((rows : List Row) → as_other g (q rows) ≡ s rows) → (rows : List Row) → as_other (λ (x : A × B). (x.0, g x.1)) (pair_reads p q rows) ≡ pair_reads t s rows
and_is {A} g p t q s a b rows = pair_is (λ (x : A). x) g q s b p t a rows

plain_is : {A : Type 0} (p t : List Row → Reading A) → IsRead p t → (rows : List Row) → p rows ≡ t rows
plain_is p t a rows = sym (as_same (p rows)) ∙ a rows

module _ (v : Sizes) (instances : ℕ) (n : ℕ) where
  abbrev fs : Faults
  fs = faults v instances

  abbrev lines : {A : Type 0} → Word → Operands A → List Row → Reading (List A)
  lines w p rows = items_read w (lone fs (λ labels tokens. p.value labels tokens)) n rows

  lines_are : {A : Type 0} (w : Word) (p : Operands A) → IsRead (flat_lines fs w p n).reads (lines w p)
  lines_are w p rows = as_same ((flat_lines fs w p n).reads rows) ∙ flat_is fs w p n rows

  pools_are : (rows : List Row) → as_other pools_made ((file.pools v instances n).reads rows) ≡ pools_read v instances n rows
  unfolding file.pools
  pools_are rows =
      ap (as_other pools_made) (plain_is _ _ (
      then_is _ _ _ _ (lines_are words.Int forms.int_line)
      (then_is _ _ _ _ (lines_are words.UInt forms.uint_line)
      (then_is _ _ _ _ (lines_are words.Double forms.double_line)
      (then_is _ _ _ _ (lines_are words.Text forms.string_line)
      (then_is _ _ _ _ (lines_are words.Namespace (forms.namespace_line v))
      (then_is _ _ _ _ (lines_are words.Set (forms.set_line v))
      (lines_are words.Name (forms.name_line v)))))))
      ) rows)

  -- ---- methods and metadata

  abbrev method_head : forms.MethodHead → MethodHead
  method_head m = record { ret = m.ret; name = m.name; flags = m.flags }

  method_below_is : (rows : List Row) → as_other method_made ((file.method_below v instances n).reads rows) ≡ method_below v instances n rows
  unfolding file.method_below
  method_below_is rows =
      ap (as_other method_made) (plain_is _ _ (then_is _ _ _ _ (lines_are words.Param (forms.param_line v)) (then_is _ _ _ _ (lines_are words.Optional (forms.option_line v)) (lines_are words.ParamName forms.number_line))) rows)

  methods_are : IsRead (file.methods v instances n).reads (λ rows. items_read words.Method (item_of fs (λ labels tokens. method_head ((forms.method_line v).value labels tokens)) (method_below v instances n) method_from_below) n rows)
  unfolding file.methods
  methods_are rows =
      as_same _ ∙ many_is fs words.Method (forms.method_line v) (file.MethodAgrees v instances) (file.method_below v instances n) method_head method_made (method_below v instances n) method_from_below method_below_is n rows

  metadata_are : (rows : List Row) → as_other (map answers.metadata_of_parts) ((file.metadata v instances n).reads rows) ≡ items_read words.Metadata (item_of fs (λ labels tokens. (forms.string_index_line v).value labels tokens) (metadata_below v instances n) metadata_from_below) n rows
  unfolding file.metadata
  metadata_are rows =
      many_is fs words.Metadata (forms.string_index_line v) always (flat_lines fs words.Entry (forms.entry_line v) n) (λ (x : ℕ). x) flat_pairs (metadata_below v instances n) metadata_from_below
      (λ l. ap (as_other flat_pairs) (plain_is _ _ (lines_are words.Entry (forms.entry_line v)) l)) n rows

  -- ---- instances

  abbrev instance_head : forms.InstanceHead → InstanceHead
  instance_head i = record { name = i.name; super_name = i.super_name; flags = i.flags }

  abbrev outline_made : file.InstanceBelow v instances → InstanceBelow
  outline_made x = record { spaces = x.0; interfaces = x.1.0; iinit = (initializer_in x.1.1).0; traits = (initializer_in x.1.1).1 }

  traits_read_are : IsRead (file.traits v instances fs n).reads (traits_below v instances n)
  traits_read_are rows = as_same ((file.traits v instances fs n).reads rows) ∙ traits_are v instances fs n rows

  topped_is : (h : ℕ) (o : Option AsmReason) (number : ℕ) (r t : Reading (List TraitInfo)) → r ≡ t → as_other initializer_in (unless o number (with_line_value h r)) ≡ unless o number (t >>= λ y. Ok (initializer_of h y.0, y.1))
  topped_is h (Some s) number r t e = refl
  topped_is h None number (Ok y) t e = ap (λ (z : Reading (List TraitInfo)). z >>= λ y. Ok (initializer_of h y.0, y.1)) e
  topped_is h None number (Err d) t e = ap (λ (z : Reading (List TraitInfo)). z >>= λ y. Ok (initializer_of h y.0, y.1)) e

  initializer_is : (rows : List Row) → as_other initializer_in ((optional fs (lines_of_word words.Initializer (forms.method_index_line v) always) (file.traits v instances fs n)).reads rows) ≡ initializer_below v instances n rows
  initializer_is [] = refl
  initializer_is (row ∷ rows) =
      elim (split_bool (nat_eq (place_of row.word) 17)) [
        | inl e ↦ rw e (topped_is ((forms.method_index_line v).value row.labels row.operands) (least (fs row rows)) row.number ((file.traits v instances fs n).reads rows) (traits_below v instances n rows) (plain_is _ _ traits_read_are rows))
        | inr e ↦ rw e refl
      ]

  instance_below_is : (rows : List Row) → as_other outline_made ((file.instance_below v instances n).reads rows) ≡ instance_below v instances n rows
  unfolding file.instance_below
  instance_below_is rows =
      remade ((file.instance_below v instances n).reads rows)
      ∙ ap (as_other instance_made) (and_is (λ (x : List ℕ × Option (ℕ × List TraitInfo)). (x.0, initializer_in x.1)) _ _ _ _ (lines_are words.Protected (forms.protected_line v)) (and_is initializer_in _ _ _ _ (lines_are words.Implements (forms.implements_line v)) initializer_is) rows)
    where
      remade : (r : Reading (file.InstanceBelow v instances)) → as_other outline_made r ≡ as_other instance_made (as_other (λ (x : file.InstanceBelow v instances). (x.0, (x.1.0, initializer_in x.1.1))) r)
      remade (Ok x) = refl
      remade (Err d) = refl

  instances_are : (rows : List Row) → as_other (map answers.instance_of_parts) ((file.instance_lines v instances n).reads rows) ≡ items_read words.Instance (item_of fs (λ labels tokens. instance_head ((forms.instance_line v).value labels tokens)) (instance_below v instances n) instance_from_below) n rows
  unfolding file.instance_lines
  instances_are rows =
      many_is fs words.Instance (forms.instance_line v) (file.InstanceAgrees v instances) (file.instance_below v instances n) instance_head outline_made (instance_below v instances n) instance_from_below instance_below_is n rows

  -- ---- classes, scripts and bodies

  classes_are : IsRead (file.classes v instances n).reads (λ rows. items_read words.Class (item_of fs (λ labels tokens. (forms.method_index_line v).value labels tokens) (traits_below v instances n) class_from_below) n rows)
  unfolding file.classes
  classes_are rows =
      as_same _ ∙ many_is fs words.Class (forms.method_index_line v) (file.ClassAgrees v instances) (file.traits v instances fs n) (λ (x : ℕ). x) (λ (x : List TraitInfo). x) (traits_below v instances n) class_from_below traits_read_are n rows

  scripts_are : IsRead (file.scripts v instances n).reads (λ rows. items_read words.Script (item_of fs (λ labels tokens. (forms.method_index_line v).value labels tokens) (traits_below v instances n) script_from_below) n rows)
  unfolding file.scripts
  scripts_are rows =
      as_same _ ∙ many_is fs words.Script (forms.method_index_line v) always (file.traits v instances fs n) (λ (x : ℕ). x) (λ (x : List TraitInfo). x) (traits_below v instances n) script_from_below traits_read_are n rows

  abbrev body_head : forms.BodyHead → BodyHead
  body_head b = record { method = b.method; max_stack = b.max_stack; local_count = b.local_count; init_scope = b.init_scope; max_scope = b.max_scope }

  bodies_are : IsRead (file.body_lines v instances n).reads (λ rows. items_read words.Body (item_of fs (λ labels tokens. body_head ((forms.body_line v).value labels tokens)) (body_below v instances n) body_from_below) n rows)
  unfolding file.body_lines
  bodies_are rows =
      as_same _ ∙ many_is fs words.Body (forms.body_line v) (file.BodyAgrees v instances) (file.body_below v instances fs n) body_head body_made (body_below v instances n) body_from_below (full_below v instances n) n rows

  -- ---- the file

  abbrev Later : Type 0
  Later = List (forms.InstanceHead × file.InstanceBelow v instances) × (List ClassInfo × (List Script × List Body))

  abbrev Lower : Type 0
  Lower = List Method × (List (ℕ × List (ℕ × ℕ)) × Later)

  abbrev lower_as : Lower → DefinitionLists
  lower_as x = (x.0, (map answers.metadata_of_parts x.1.0, (map answers.instance_of_parts x.1.1.0, x.1.1.1)))

  abbrev lower_made : Lower → Definitions
  lower_made x = definitions_made (lower_as x)

  abbrev lower_reads : List Row → Reading Lower
  lower_reads = pair_reads (file.methods v instances n).reads (pair_reads (file.metadata v instances n).reads (pair_reads (file.instance_lines v instances n).reads (pair_reads (file.classes v instances n).reads (pair_reads (file.scripts v instances n).reads (file.body_lines v instances n).reads))))

  remade : (r : Reading Lower) → as_other lower_made r ≡ as_other definitions_made (as_other lower_as r)
  remade (Ok x) = refl
  remade (Err d) = refl

  lower_are : (rows : List Row) → as_other lower_made (lower_reads rows) ≡ definitions_read v instances n rows
  lower_are rows =
      remade (lower_reads rows)
      ∙ ap (as_other definitions_made) (
      and_is (λ (x : List (ℕ × List (ℕ × ℕ)) × Later). (map answers.metadata_of_parts x.0, (map answers.instance_of_parts x.1.0, x.1.1))) _ _ _ _ methods_are
      (pair_is (map answers.metadata_of_parts) (λ (x : Later). (map answers.instance_of_parts x.0, x.1)) _ _
      (pair_is (map answers.instance_of_parts) (λ (x : List ClassInfo × (List Script × List Body)). x) _ _ (then_is _ _ _ _ classes_are (then_is _ _ _ _ scripts_are bodies_are)) _ _ instances_are)
      _ _ metadata_are) rows
      )

  abbrev remake : file.Outline v instances → Abc
  remake x = answers.abc_of v instances x

  file_made : (r : Reading (file.Outline v instances)) → as_other remake r ≡ as_other abc_of (as_other (λ (x : file.Outline v instances). (pools_made x.0, lower_made x.1)) r)
  file_made (Ok x) = refl
  file_made (Err d) = refl

  pub file_is : (rows : List Row) → as_other remake ((file.file v instances n).reads rows) ≡ file_part_read v instances n rows
  unfolding file.file
  file_is rows =
      file_made ((file.file v instances n).reads rows)
      ∙ ap (as_other abc_of) (pair_is pools_made lower_made lower_reads (definitions_read v instances n) lower_are (file.pools v instances n).reads (pools_read v instances n) pools_are rows)
