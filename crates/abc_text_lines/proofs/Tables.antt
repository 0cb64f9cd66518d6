-- The laws of each table of lines.
use Rattle.std.proofs.Common.{◌≡◌, ℕ, ◌-◌, ◌≤◌, ◌^◌, inl, inr, Bool, true, false, cond, ◌&&◌, nat_eq, nat_le, List, [], ◌∷◌, ◌++◌, length, map, Ok, Some, None, refl, sym, ap, subst, ◌∙◌, arith}
use Rattle.std.proofs.lemmas.Bool.Decides.{nat_tests}
use Rattle.std.specs.Option.{IsSome}
use Rattle.std.specs.declared.option.Option.{Option}
use Rattle.abc_text_lines.specs.declared.reason.AsmReason.TheVariants as reasons
use Rattle.abc_text_lines.specs.declared.word.Word.{Word}
use Rattle.abc_text_lines.specs.declared.word.Word.TheVariants as words
use Rattle.abc_text_lines.specs.Words.{place_of}
use Rattle.abc_text_lines.proofs.Bools.{and_true, if_is}
use Rattle.abc_file_types.specs.declared.code.Body.{Body}
use Rattle.abc_file_types.specs.declared.code.Instr.{Instr}
use Rattle.abc_file_types.specs.declared.code.Handler.{Handler}
use Rattle.abc_file_types.specs.declared.methods.OptionValue.{OptionValue}
use Rattle.abc_file_types.specs.declared.tables.Sizes.{Sizes}
use Rattle.abc_file_types.specs.declared.traits.TraitInfo.{TraitInfo}
use Rattle.abc_file_types.specs.CodeBytes.{code_len}
use Rattle.abc_file_types.specs.Methods.{has_flag}
use Rattle.abc_text_lines.specs.Lines.{Row, Shown, places_shown}
use Rattle.abc_text_lines.specs.Rows.{Faults, both_rows, many, option_shown, optional}
use Rattle.abc_text_lines.specs.Law.{Among, IsLineFree, Lawful, Match, Next}
use Rattle.abc_text_lines.specs.Wordlines.{Rules, always, among, count_all, count_in, count_lines, faults_by_rules, flat_lines, lines_of_word, shows_operands}
use Rattle.abc_text_lines.proofs.Counts.{count_in-none, flat_count, many_none}
use Rattle.abc_text_lines.proofs.Exact.{both-lawful}
use Rattle.abc_text_lines.proofs.Many.{eq_refl, eq_true, image-lawful, many-lawful, map_back}
use Rattle.abc_text_lines.proofs.Pieces.{Among-right}
use Rattle.abc_text_lines.proofs.Optional.{optional-lawful}
use Rattle.abc_text_lines.proofs.Wordlines.{Agrees, IsClear, agrees_always, apart, closed-lawful, flat-lawful, line-keeps, yes_among}
use Rattle.abc_text_lines.specs.Lineforms.{body_line, entry_line, implements_line, instance_line, method_index_line, method_line, number_line, option_line, param_line, protected_line, string_index_line}
use Rattle.abc_text_lines.specs.File.{BodyAgrees, ClassAgrees, InstanceAgrees, InstanceBelow, IsBalanced, MethodAgrees, body_below, body_lines, body_part, classes, count_unless, ends_body, extra, faults, instance_below, instance_counts, instance_lines, instance_part, long_code, metadata, method_below, method_counts, method_part, methods, others, plain_rules, rules, scripts, skipped_words, traits, where_set}
use Rattle.abc_text_lines.proofs.Below.{body_below-lawful, body_below_none, count_fine, count_two, counted_below, flat_none, free_word, traits-lawful, traits_has, traits_starts}
use Rattle.abc_text_lines.proofs.Forms.{body-are, entry-are, implements-are, instance-are, method-are, method_index-are, number-are, option-are, param-are, protected-are, string_index-are}

-- only a body's line has extra reasons
none_extra : (v : Sizes) (instances : ℕ) (row : Row) (after : List Row) (w : Word) → ¬ (w ≡ words.Body) → extra v instances row after w ≡ []
none_extra v instances row after words.Body other = absurd (other refl)
none_extra v instances row after _ other = refl

-- after a body's part comes a body or the end
other_than_body : (w : Word) → (Among (place_of w) body_part → ⊥) → nat_eq (place_of w) 22 ≡ true
other_than_body words.Body free = refl
other_than_body words.Abc free = absurd (free (yes_among 0 body_part refl))
other_than_body words.Int free = absurd (free (yes_among 1 body_part refl))
other_than_body words.UInt free = absurd (free (yes_among 2 body_part refl))
other_than_body words.Double free = absurd (free (yes_among 3 body_part refl))
other_than_body words.Text free = absurd (free (yes_among 4 body_part refl))
other_than_body words.Namespace free = absurd (free (yes_among 5 body_part refl))
other_than_body words.Set free = absurd (free (yes_among 6 body_part refl))
other_than_body words.Name free = absurd (free (yes_among 7 body_part refl))
other_than_body words.Method free = absurd (free (yes_among 8 body_part refl))
other_than_body words.Param free = absurd (free (yes_among 9 body_part refl))
other_than_body words.Optional free = absurd (free (yes_among 10 body_part refl))
other_than_body words.ParamName free = absurd (free (yes_among 11 body_part refl))
other_than_body words.Metadata free = absurd (free (yes_among 12 body_part refl))
other_than_body words.Entry free = absurd (free (yes_among 13 body_part refl))
other_than_body words.Instance free = absurd (free (yes_among 14 body_part refl))
other_than_body words.Protected free = absurd (free (yes_among 15 body_part refl))
other_than_body words.Implements free = absurd (free (yes_among 16 body_part refl))
other_than_body words.Initializer free = absurd (free (yes_among 17 body_part refl))
other_than_body words.Trait free = absurd (free (yes_among 18 body_part refl))
other_than_body words.TraitMetadata free = absurd (free (yes_among 19 body_part refl))
other_than_body words.Class free = absurd (free (yes_among 20 body_part refl))
other_than_body words.Script free = absurd (free (yes_among 21 body_part refl))
other_than_body (words.Instruction op) free = absurd (free (yes_among 23 body_part refl))
other_than_body words.Label free = absurd (free (yes_among 23 body_part refl))
other_than_body words.Catch free = absurd (free (yes_among 24 body_part refl))
other_than_body words.Unknown free = absurd (free (yes_among 25 body_part refl))

not_long : (a : Bool) (k : ℕ) → a ≡ true → cond (a && nat_le (2 ^ 23) k) (reasons.CodeTooLong ∷ []) [] ≡ [] → nat_le (2 ^ 23) k ≡ false
not_long a k e h =
    elim (if_is (a && nat_le (2 ^ 23) k) (reasons.CodeTooLong ∷ []) [] [] h) [
      | inl c ↦ absurd cc
      | inr c ↦ ap (λ (b : Bool). b && nat_le (2 ^ 23) k) (sym e) ∙ c.0
    ]

module _ (v : Sizes) (instances : ℕ) where
  abbrev given : Type 0
  given = IsBalanced v instances

  abbrev all : Rules
  all = rules v instances

  abbrev fs : Faults
  fs = faults v instances

  extra_none : (row : Row) (after : List Row) → ¬ (row.word ≡ words.Body) → all.extra row after ≡ []
  extra_none row after other = none_extra v instances row after row.word other

  -- nothing is asked of the lines that follow a line of this word
  pub free : (w : Word) → ¬ (place_of w ≡ 22) → ((row : Row) (after : List Row) → others v instances row after w ≡ []) → (row : Row) (after : List Row) → row.word ≡ w → (all.others row after w ≡ []) × (all.extra row after ≡ [])
  free = free_word v instances given all (λ w labels tokens. refl) (λ row after w. refl) extra_none 0

  pub trait_list-lawful : (n : ℕ) → Lawful given shows_operands fs n (traits v instances fs n)
  trait_list-lawful n = traits-lawful v instances given all (λ w labels tokens. refl) (λ row after w. refl) extra_none n

  trait_list_starts : (n : ℕ) → (traits v instances fs n).starts ≡ 18 ∷ []
  trait_list_starts n = traits_starts v instances given all (λ w labels tokens. refl) (λ row after w. refl) extra_none n

  pub trait_list_has : (n : ℕ) → (traits v instances fs n).has ≡ 18 ∷ 19 ∷ skipped_words
  trait_list_has n = traits_has v instances given all (λ w labels tokens. refl) (λ row after w. refl) extra_none n

  -- a line's other faults where there are none
  no_others : (row : Row) (after : List Row) (w : Word) → row.word ≡ w → IsClear all row after → others v instances row after w ≡ []
  no_others row after w word c = ap (λ (u : Word). others v instances row after u) (sym word) ∙ c.others

  extra_of : (row : Row) (after : List Row) (w : Word) → row.word ≡ w → ¬ (w ≡ words.Body) → all.extra row after ≡ []
  extra_of row after w word other = extra_none row after (λ e. other (sym word ∙ e))

  module _ (n : ℕ) where
    -- ---- methods

    pub method_below-lawful : Lawful given shows_operands fs n (method_below v instances n)
    unfolding method_below
    method_below-lawful =
        closed-lawful given shows_operands fs n skipped_words (both_rows (flat_lines fs words.Param (param_line v) n) (both_rows (flat_lines fs words.Optional (option_line v) n) (flat_lines fs words.ParamName number_line n)))
        (both-lawful given shows_operands fs n (flat_lines fs words.Param (param_line v) n) (both_rows (flat_lines fs words.Optional (option_line v) n) (flat_lines fs words.ParamName number_line n))
        (flat-lawful given all words.Param (param_line v) (λ e. absurd (omega arith)) (λ labels tokens. refl) (free words.Param (λ e. absurd (omega arith)) (λ row after. refl)) (param-are v) n)
        (both-lawful given shows_operands fs n (flat_lines fs words.Optional (option_line v) n) (flat_lines fs words.ParamName number_line n)
        (flat-lawful given all words.Optional (option_line v) (λ e. absurd (omega arith)) (λ labels tokens. refl) (free words.Optional (λ e. absurd (omega arith)) (λ row after. refl)) (option-are v) n)
        (flat-lawful given all words.ParamName number_line (λ e. absurd (omega arith)) (λ labels tokens. refl) (free words.ParamName (λ e. absurd (omega arith)) (λ row after. refl)) number-are n)
        (apart (11 ∷ []) (10 ∷ []) refl))
        (apart (10 ∷ 11 ∷ []) (9 ∷ []) refl))

    -- the counts of the lines below a method
    record MethodCounted (front rest : List Row) (y : List ℕ × (List OptionValue × List ℕ)) : Type 0 where
      params : count_lines method_part 9 (front ++ rest) ≡ length y.0
      options : count_lines method_part 10 (front ++ rest) ≡ length y.1.0
      names : count_lines method_part 11 (front ++ rest) ≡ length y.1.1

    method_counted : (front rest : List Row) (y : List ℕ × (List OptionValue × List ℕ)) → Match shows_operands front ((method_below v instances n).shows y) → IsLineFree (method_below v instances n) rest → MethodCounted front rest y
    unfolding method_below
    method_counted front rest y match open_ =
        let p = (flat_lines fs words.Param (param_line v) n).shows y.0 in
        let o = (flat_lines fs words.Optional (option_line v) n).shows y.1.0 in
        let q = (flat_lines fs words.ParamName number_line n).shows y.1.1 in
        let at = λ (place : ℕ). count_two place p (o ++ q) in
        let at2 = λ (place : ℕ). count_two place o q in
        let one = λ (place : ℕ). (count_two place o q) in
        record {
          params = counted_below method_part 9 (method_below v instances n) refl refl refl refl refl method_below-lawful.inside y front rest match open_ ∙ omega (arith, at 9, at2 9, flat_count words.Param (param_line v) y.0, flat_none 9 words.Optional (option_line v) refl y.1.0, flat_none 9 words.ParamName number_line refl y.1.1);
          options = counted_below method_part 10 (method_below v instances n) refl refl refl refl refl method_below-lawful.inside y front rest match open_ ∙ omega (arith, at 10, at2 10, flat_none 10 words.Param (param_line v) refl y.0, flat_count words.Optional (option_line v) y.1.0, flat_none 10 words.ParamName number_line refl y.1.1);
          names = counted_below method_part 11 (method_below v instances n) refl refl refl refl refl method_below-lawful.inside y front rest match open_ ∙ omega (arith, at 11, at2 11, flat_none 11 words.Param (param_line v) refl y.0, flat_none 11 words.Optional (option_line v) refl y.1.0, flat_count words.ParamName number_line y.1.1);
        }

    method_test : (flags : ℕ) (front rest : List Row) (y : List ℕ × (List OptionValue × List ℕ)) → MethodCounted front rest y → method_counts flags (front ++ rest) ≡ nat_le (length y.1.0) (where_set (has_flag flags 0x08) (length y.0)) && nat_eq (length y.1.1) (where_set (has_flag flags 0x80) (length y.0))
    method_test flags front rest y c = let a = c.params in let b = c.options in let d = c.names in rw (a, b, d) refl

    method_agrees : Agrees given all words.Method (method_line v) (MethodAgrees v instances) (method_below v instances n)
    method_agrees = record {
      fits = λ balanced row front rest y word c match fit open_.
          let flags = ((method_line v).value row.labels row.operands).flags in
          sym (method_test flags front rest y (method_counted front rest y match open_)) ∙ count_fine (method_counts flags (front ++ rest)) (no_others row (front ++ rest) words.Method word c);
      again = λ row front rest y word a match fit open_.
          let flags = ((method_line v).value row.labels row.operands).flags in
          (ap count_unless (method_test flags front rest y (method_counted front rest y match open_) ∙ a), extra_of row (front ++ rest) words.Method word (λ e. cc));
    }

    pub method_below_has : (method_below v instances n).has ≡ method_part
    unfolding method_below
    method_below_has = refl

    pub methods-lawful : Lawful given shows_operands fs n (methods v instances n)
    unfolding methods
    methods-lawful =
        image-lawful given shows_operands fs n _ _ (many fs (lines_of_word words.Method (method_line v) (MethodAgrees v instances)) (method_below v instances n) n)
        (map_back _ _ (λ x. refl)) (map_back _ _ (λ m. refl))
        (many-lawful given shows_operands fs (lines_of_word words.Method (method_line v) (MethodAgrees v instances)) (method_below v instances n)
        (line-keeps given all words.Method (method_line v) (MethodAgrees v instances) (method_below v instances n) (λ e. absurd (omega arith)) (λ labels tokens. refl) (method-are v) method_agrees)
        (λ e. absurd (omega arith)) (λ a. apart (8 ∷ []) method_part refl 8 (inl refl) (subst (λ (l : List ℕ). Among 8 l) method_below_has a)) method_below-lawful.inside n method_below-lawful)

    -- ---- metadata

    pub metadata-lawful : Lawful given shows_operands fs n (metadata v instances n)
    unfolding metadata
    metadata-lawful =
        let entries = flat-lawful given all words.Entry (entry_line v) (λ e. absurd (omega arith)) (λ labels tokens. refl) (free words.Entry (λ e. absurd (omega arith)) (λ row after. refl)) (entry-are v) n in
        many-lawful given shows_operands fs (lines_of_word words.Metadata (string_index_line v) always) (flat_lines fs words.Entry (entry_line v) n)
        (line-keeps given all words.Metadata (string_index_line v) always (flat_lines fs words.Entry (entry_line v) n) (λ e. absurd (omega arith)) (λ labels tokens. refl) (string_index-are v) (agrees_always given all words.Metadata (string_index_line v) (flat_lines fs words.Entry (entry_line v) n) (free words.Metadata (λ e. absurd (omega arith)) (λ row after. refl))))
        (λ e. absurd (omega arith)) (λ a. apart (12 ∷ []) (13 ∷ []) refl 12 (inl refl) a) entries.inside n entries

    -- ---- instances

    initializer-lawful : Lawful given shows_operands fs n (optional fs (lines_of_word words.Initializer (method_index_line v) always) (traits v instances fs n))
    initializer-lawful =
        optional-lawful given shows_operands fs (lines_of_word words.Initializer (method_index_line v) always) (traits v instances fs n)
        (line-keeps given all words.Initializer (method_index_line v) always (traits v instances fs n) (λ e. absurd (omega arith)) (λ labels tokens. refl) (method_index-are v) (agrees_always given all words.Initializer (method_index_line v) (traits v instances fs n) (free words.Initializer (λ e. absurd (omega arith)) (λ row after. refl))))
        (λ e. absurd (omega arith)) (trait_list-lawful n).inside n (trait_list-lawful n)

    pub instance_below-lawful : Lawful given shows_operands fs n (instance_below v instances n)
    unfolding instance_below
    instance_below-lawful =
        let iinit = optional fs (lines_of_word words.Initializer (method_index_line v) always) (traits v instances fs n) in
        closed-lawful given shows_operands fs n skipped_words (both_rows (flat_lines fs words.Protected (protected_line v) n) (both_rows (flat_lines fs words.Implements (implements_line v) n) (optional fs (lines_of_word words.Initializer (method_index_line v) always) (traits v instances fs n))))
        (both-lawful given shows_operands fs n (flat_lines fs words.Protected (protected_line v) n) (both_rows (flat_lines fs words.Implements (implements_line v) n) (optional fs (lines_of_word words.Initializer (method_index_line v) always) (traits v instances fs n)))
        (flat-lawful given all words.Protected (protected_line v) (λ e. absurd (omega arith)) (λ labels tokens. refl) (free words.Protected (λ e. absurd (omega arith)) (λ row after. refl)) (protected-are v) n)
        (both-lawful given shows_operands fs n (flat_lines fs words.Implements (implements_line v) n) (optional fs (lines_of_word words.Initializer (method_index_line v) always) (traits v instances fs n))
        (flat-lawful given all words.Implements (implements_line v) (λ e. absurd (omega arith)) (λ labels tokens. refl) (free words.Implements (λ e. absurd (omega arith)) (λ row after. refl)) (implements-are v) n)
        initializer-lawful (apart (17 ∷ []) (16 ∷ []) refl))
        (apart (16 ∷ 17 ∷ []) (15 ∷ []) refl))

    abbrev initializer_shown : Option (ℕ × List TraitInfo) → List Shown
    initializer_shown o = option_shown (lines_of_word words.Initializer (method_index_line v) always) (traits v instances fs n) o

    traits_counted : (place : ℕ) → (Among place (18 ∷ 19 ∷ skipped_words) → ⊥) → (ts : List TraitInfo) → count_in place (places_shown ((traits v instances fs n).shows ts)) ≡ 0
    traits_counted place other ts = count_in-none place (places_shown ((traits v instances fs n).shows ts)) (traits v instances fs n).has ((trait_list-lawful n).inside ts) (λ h. other (subst (λ (l : List ℕ). Among place l) (trait_list_has n) h))

    no_initializer : (o : Option (ℕ × List TraitInfo)) → count_in 15 (places_shown (initializer_shown o)) ≡ 0
    no_initializer None = refl
    no_initializer (Some x) = traits_counted 15 (apart (15 ∷ []) (18 ∷ 19 ∷ skipped_words) refl 15 (inl refl)) x.1

    one_initializer : (o : Option (ℕ × List TraitInfo)) → nat_le 1 (count_in 17 (places_shown (initializer_shown o))) ≡ true → IsSome o
    one_initializer None e = absurd (let no_ : false ≡ true = e in cc)
    one_initializer (Some x) e = refl

    some_initializer : (o : Option (ℕ × List TraitInfo)) → IsSome o → count_in 17 (places_shown (initializer_shown o)) ≡ 1
    some_initializer None some = absurd cc
    some_initializer (Some x) some = omega (arith, traits_counted 17 (apart (17 ∷ []) (18 ∷ 19 ∷ skipped_words) refl 17 (inl refl)) x.1)

    -- the counts of the lines below an instance
    record InstanceCounted (front rest : List Row) (y : InstanceBelow v instances) : Type 0 where
      protected : count_lines instance_part 15 (front ++ rest) ≡ length y.0
      initializer : count_lines instance_part 17 (front ++ rest) ≡ count_in 17 (places_shown (initializer_shown y.1.1))

    instance_counted : (front rest : List Row) (y : InstanceBelow v instances) → Match shows_operands front ((instance_below v instances n).shows y) → IsLineFree (instance_below v instances n) rest → InstanceCounted front rest y
    unfolding instance_below traits
    instance_counted front rest y match open_ =
        let p = (flat_lines fs words.Protected (protected_line v) n).shows y.0 in
        let q = (flat_lines fs words.Implements (implements_line v) n).shows y.1.0 in
        let o = initializer_shown y.1.1 in
        record {
          protected = counted_below instance_part 15 (instance_below v instances n) refl refl refl refl refl instance_below-lawful.inside y front rest match open_ ∙ omega (arith, count_two 15 p (q ++ o), count_two 15 q o, flat_count words.Protected (protected_line v) y.0, flat_none 15 words.Implements (implements_line v) refl y.1.0, no_initializer y.1.1);
          initializer = counted_below instance_part 17 (instance_below v instances n) refl refl refl refl refl instance_below-lawful.inside y front rest match open_ ∙ omega (arith, count_two 17 p (q ++ o), count_two 17 q o, flat_none 17 words.Protected (protected_line v) refl y.0, flat_none 17 words.Implements (implements_line v) refl y.1.0);
        }

    below_number : (k : ℕ) → v.classes ≡ instances → nat_le (instances - k) v.classes ≡ true
    below_number k e = let le : instances - k ≤ v.classes = omega arith in grind (arith, nat_tests)

    below_class : (k : ℕ) → v.classes ≡ instances → nat_le (v.classes - k) instances ≡ true
    below_class k e = let le : v.classes - k ≤ instances = omega arith in grind (arith, nat_tests)

    instance_agrees : Agrees given all words.Instance (instance_line v) (InstanceAgrees v instances) (instance_below v instances n)
    instance_agrees = record {
      fits = λ balanced row front rest y word c match fit open_.
          let flags = ((instance_line v).value row.labels row.operands).flags in
          let after = front ++ rest in
          let k = instance_counted front rest y match open_ in
          let fine = count_fine (instance_counts v.classes instances flags after) (no_others row after words.Instance word c) in
          let two = and_true (nat_eq (count_lines instance_part 15 after) (where_set (has_flag flags 0x08) 1) && nat_le 1 (count_lines instance_part 17 after)) (nat_le (instances - count_all 14 after) v.classes) fine in
          let one = and_true (nat_eq (count_lines instance_part 15 after) (where_set (has_flag flags 0x08) 1)) (nat_le 1 (count_lines instance_part 17 after)) two.0 in (
            sym k.protected ∙ eq_true (count_lines instance_part 15 after) (where_set (has_flag flags 0x08) 1) one.0,
            one_initializer y.1.1 (ap (λ (m : ℕ). nat_le 1 m) (sym k.initializer) ∙ one.1),
            balanced,
          );
      again = λ row front rest y word a match fit open_.
          let flags = ((instance_line v).value row.labels row.operands).flags in
          let after = front ++ rest in
          let k = instance_counted front rest y match open_ in
          let x : nat_eq (count_lines instance_part 15 after) (where_set (has_flag flags 0x08) 1) ≡ true = eq_refl (count_lines instance_part 15 after) (where_set (has_flag flags 0x08) 1) (k.protected ∙ a.0) in
          let z : nat_le 1 (count_lines instance_part 17 after) ≡ true = ap (λ (m : ℕ). nat_le 1 m) (k.initializer ∙ some_initializer y.1.1 a.1) in
          let u : nat_le (instances - count_all 14 after) v.classes ≡ true = below_number (count_all 14 after) a.2 in
          (rw (x, z, u) refl, extra_of row after words.Instance word (λ e. cc));
    }

    pub instance_below_has : (instance_below v instances n).has ≡ 15 ∷ 16 ∷ 17 ∷ 18 ∷ 19 ∷ 23 ∷ 25 ∷ skipped_words
    unfolding instance_below traits
    instance_below_has = refl

    pub instances-lawful : Lawful given shows_operands fs n (instance_lines v instances n)
    unfolding instance_lines
    instances-lawful =
        many-lawful given shows_operands fs (lines_of_word words.Instance (instance_line v) (InstanceAgrees v instances)) (instance_below v instances n)
        (line-keeps given all words.Instance (instance_line v) (InstanceAgrees v instances) (instance_below v instances n) (λ e. absurd (omega arith)) (λ labels tokens. refl) (instance-are v) instance_agrees)
        (λ e. absurd (omega arith)) (λ a. apart (14 ∷ []) (15 ∷ 16 ∷ 17 ∷ 18 ∷ 19 ∷ 23 ∷ 25 ∷ skipped_words) refl 14 (inl refl) (subst (λ (l : List ℕ). Among 14 l) instance_below_has a)) instance_below-lawful.inside n instance_below-lawful

    -- ---- classes and scripts

    class_agrees : Agrees given all words.Class (method_index_line v) (ClassAgrees v instances) (traits v instances fs n)
    class_agrees = record {
      fits = λ balanced row front rest y word c match fit open_. balanced;
      again = λ row front rest y word a match fit open_. (ap count_unless (below_class (count_all 20 (front ++ rest)) a), extra_of row (front ++ rest) words.Class word (λ e. cc));
    }

    pub classes-lawful : Lawful given shows_operands fs n (classes v instances n)
    unfolding classes
    classes-lawful =
        image-lawful given shows_operands fs n _ _ (many fs (lines_of_word words.Class (method_index_line v) (ClassAgrees v instances)) (traits v instances fs n) n)
        (map_back _ _ (λ x. refl)) (map_back _ _ (λ c. refl))
        (many-lawful given shows_operands fs (lines_of_word words.Class (method_index_line v) (ClassAgrees v instances)) (traits v instances fs n)
        (line-keeps given all words.Class (method_index_line v) (ClassAgrees v instances) (traits v instances fs n) (λ e. absurd (omega arith)) (λ labels tokens. refl) (method_index-are v) class_agrees)
        (λ e. absurd (omega arith)) (λ a. apart (20 ∷ []) (18 ∷ 19 ∷ skipped_words) refl 20 (inl refl) (subst (λ (l : List ℕ). Among 20 l) (trait_list_has n) a)) (trait_list-lawful n).inside n (trait_list-lawful n))

    pub scripts-lawful : Lawful given shows_operands fs n (scripts v instances n)
    unfolding scripts
    scripts-lawful =
        image-lawful given shows_operands fs n _ _ (many fs (lines_of_word words.Script (method_index_line v) always) (traits v instances fs n) n)
        (map_back _ _ (λ x. refl)) (map_back _ _ (λ s. refl))
        (many-lawful given shows_operands fs (lines_of_word words.Script (method_index_line v) always) (traits v instances fs n)
        (line-keeps given all words.Script (method_index_line v) always (traits v instances fs n) (λ e. absurd (omega arith)) (λ labels tokens. refl) (method_index-are v) (agrees_always given all words.Script (method_index_line v) (traits v instances fs n) (free words.Script (λ e. absurd (omega arith)) (λ row after. refl))))
        (λ e. absurd (omega arith)) (λ a. apart (21 ∷ []) (18 ∷ 19 ∷ skipped_words) refl 21 (inl refl) (subst (λ (l : List ℕ). Among 21 l) (trait_list_has n) a)) (trait_list-lawful n).inside n (trait_list-lawful n))

    -- ---- bodies

    below-lawful : Lawful given shows_operands fs n (body_below v instances fs n)
    below-lawful = body_below-lawful v instances given all (λ w labels tokens. refl) (λ row after w. refl) extra_none n

    plain_below-lawful : (m : ℕ) → Lawful given shows_operands (faults_by_rules (plain_rules v instances)) m (body_below v instances (faults_by_rules (plain_rules v instances)) m)
    plain_below-lawful m = body_below-lawful v instances given (plain_rules v instances) (λ w labels tokens. refl) (λ row after w. refl) (λ row after other. refl) m

    ends : (rest : List Row) → ((w : ℕ) → Next rest w → Among w body_part → ⊥) → ends_body v instances rest ≡ true
    ends [] open_ = refl
    ends (row ∷ rest) open_ = other_than_body row.word (open_ (place_of row.word) refl)

    abbrev BelowBody : Type 0
    BelowBody = List Instr × (List Handler × List TraitInfo)

    -- what is read of the lines below a body by the plain rules
    plainly_read : (front rest : List Row) (y : BelowBody) → Match shows_operands front ((body_below v instances fs n).shows y) → (body_below v instances fs n).fits y → IsLineFree (body_below v instances fs n) rest → ((body_below v instances (faults_by_rules (plain_rules v instances)) (length (front ++ rest))).reads (front ++ rest) ≡ Ok (y, rest)) × (ends_body v instances rest ≡ true)
    unfolding body_below traits
    plainly_read front rest y match fit open_ =
        ((plain_below-lawful (length (front ++ rest))).again y front rest (omega arith) fit match open_, ends rest (λ w h k. open_ w h (Among-right w (23 ∷ 24 ∷ 18 ∷ 19 ∷ skipped_words) body_part k)))

    body_agrees : Agrees given all words.Body (body_line v) (BodyAgrees v instances) (body_below v instances fs n)
    body_agrees = record {
      fits = λ balanced row front rest y word c match fit open_.
          let after = front ++ rest in
          let p = plainly_read front rest y match fit open_ in
          let none_ : long_code v instances ((body_below v instances (faults_by_rules (plain_rules v instances)) (length after)).reads after) ≡ [] = ap (λ (w : Word). extra v instances row after w) (sym word) ∙ c.extra in
          not_long (ends_body v instances rest) (code_len y.0) p.1 (ap (long_code v instances) (sym p.0) ∙ none_);
      again = λ row front rest y word a match fit open_.
          let after = front ++ rest in
          let p = plainly_read front rest y match fit open_ in
          (refl, ap (λ (w : Word). extra v instances row after w) word ∙ ap (long_code v instances) p.0 ∙ ap (λ (b : Bool). cond (ends_body v instances rest && b) (reasons.CodeTooLong ∷ []) []) a ∙ ap (λ (b : Bool). cond (b && false) (reasons.CodeTooLong ∷ []) []) p.1);
    }

    body_below_has : (w : ℕ) → Among w (body_below v instances fs n).has → w ≡ 22 → ⊥
    unfolding body_below traits
    body_below_has w h e = apart (22 ∷ []) (body_below v instances fs n).has refl 22 (inl refl) (subst (λ (x : ℕ). Among x (body_below v instances fs n).has) e h)

    -- the lines of bodies stand at these places
    pub bodies_none : (place : ℕ) → nat_eq 22 place ≡ false → among place (23 ∷ 24 ∷ 18 ∷ 19 ∷ skipped_words) ≡ false → (bs : List Body) → count_in place (places_shown ((body_lines v instances n).shows bs)) ≡ 0
    unfolding body_lines
    bodies_none place here other bs =
        many_none place (lines_of_word words.Body (body_line v) (BodyAgrees v instances)) (body_below v instances fs n) (λ h. here) (λ y. body_below_none v instances given all (λ w labels tokens. refl) (λ row after w. refl) extra_none n place other y) (map _ bs)

    pub bodies-lawful : Lawful given shows_operands fs n (body_lines v instances n)
    unfolding body_lines
    bodies-lawful =
        image-lawful given shows_operands fs n _ _ (many fs (lines_of_word words.Body (body_line v) (BodyAgrees v instances)) (body_below v instances fs n) n)
        (map_back _ _ (λ x. refl)) (map_back _ _ (λ b. refl))
        (many-lawful given shows_operands fs (lines_of_word words.Body (body_line v) (BodyAgrees v instances)) (body_below v instances fs n)
        (line-keeps given all words.Body (body_line v) (BodyAgrees v instances) (body_below v instances fs n) (λ e. absurd (omega arith)) (λ labels tokens. refl) (body-are v) body_agrees)
        (λ e. absurd (omega arith)) (λ a. body_below_has 22 a refl) below-lawful.inside n below-lawful)
