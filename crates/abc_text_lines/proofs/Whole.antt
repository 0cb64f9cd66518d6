-- The lines of a whole text are those of exactly one outline, or have exactly one fault.
use Rattle.std.proofs.Common.{◌≡◌, ℕ, ◌-◌, ◌≤◌, ◌⊎◌, inl, inr, false, ◌&&◌, nat_eq, nat_le, List, [], ◌∷◌, ◌++◌, length, None, refl, sym, ap, subst, ◌∙◌, append-nil, arith}
use Rattle.std.proofs.lemmas.Bool.Decides.{nat_tests}
use Rattle.abc_text_lines.specs.declared.word.Word.{Word}
use Rattle.abc_text_lines.specs.declared.word.Word.TheVariants as words
use Rattle.abc_text_lines.specs.Reasons.{least}
use Rattle.abc_text_lines.specs.Words.{place_of}
use Rattle.abc_text_lines.proofs.Bools.{and_true, split_bool}
use Rattle.abc_file_types.specs.declared.classes.ClassInfo.{ClassInfo}
use Rattle.abc_file_types.specs.declared.classes.Script.{Script}
use Rattle.abc_file_types.specs.declared.code.Body.{Body}
use Rattle.abc_file_types.specs.declared.methods.Method.{Method}
use Rattle.abc_file_types.specs.declared.tables.Sizes.{Sizes}
use Rattle.abc_file_types.specs.Methods.{has_flag}
use Rattle.abc_text_lines.specs.Lines.{Item, Number, Row}
use Rattle.abc_text_lines.specs.Operands.{any_number, exactly}
use Rattle.abc_text_lines.specs.Rows.{Faults, Rows, both_rows, is_label, empty_rows}
use Rattle.abc_text_lines.specs.Law.{Among, Clean, IsLine, LineKeeps, Lawful}
use Rattle.abc_text_lines.specs.Assembly.{IsTextDetermined}
use Rattle.abc_text_lines.specs.Wordlines.{always, count_all, count_lines, flat_lines, lines_of_word, shows_operands}
use Rattle.abc_text_lines.proofs.Determined.{determined}
use Rattle.abc_text_lines.proofs.Exact.{both-lawful}
use Rattle.abc_text_lines.proofs.Many.{eq_true}
use Rattle.abc_text_lines.proofs.Wordlines.{agrees_always, apart, clear, flat-lawful, line-keeps, reasons_nil, same_word}
use Rattle.abc_text_lines.specs.Lineforms.{InstanceHead, double_line, instance_line, int_line, name_line, namespace_line, set_line, string_line, uint_line, version_line}
use Rattle.abc_text_lines.specs.File.{InstanceBelow, IsBalanced, own, body_lines, class_counts, classes, count_unless, faults, file, instance_below, instance_counts, instance_lines, instance_part, metadata, method_below, methods, others, pools, rules, scripts, skipped_words, traits, where_set}
use Rattle.abc_text_lines.proofs.Below.{count_fine}
use Rattle.abc_text_lines.proofs.Forms.{double-are, int-are, name-are, namespace-are, set-are, string-are, uint-are, version-are}
use Rattle.abc_text_lines.proofs.Tables.{bodies-lawful, classes-lawful, free, instances-lawful, metadata-lawful, methods-lawful, scripts-lawful}

module _ (v : Sizes) (instances : ℕ) where
  abbrev given : Type 0
  given = IsBalanced v instances

  abbrev fs : Faults
  fs = faults v instances

  module _ (n : ℕ) where
    names-lawful : Lawful given shows_operands fs n (flat_lines fs words.Name (name_line v) n)
    names-lawful = flat-lawful given (rules v instances) words.Name (name_line v) (λ e. absurd (omega arith)) (λ labels tokens. refl) (free v instances words.Name (λ e. absurd (omega arith)) (λ row after. refl)) (name-are v) n

    sets-lawful : Lawful given shows_operands fs n (both_rows (flat_lines fs words.Set (set_line v) n) (flat_lines fs words.Name (name_line v) n))
    sets-lawful =
        both-lawful given shows_operands fs n (flat_lines fs words.Set (set_line v) n) (flat_lines fs words.Name (name_line v) n)
        (flat-lawful given (rules v instances) words.Set (set_line v) (λ e. absurd (omega arith)) (λ labels tokens. refl) (free v instances words.Set (λ e. absurd (omega arith)) (λ row after. refl)) (set-are v) n)
        names-lawful (apart (7 ∷ []) (6 ∷ []) refl)

    spaces-lawful : Lawful given shows_operands fs n (both_rows (flat_lines fs words.Namespace (namespace_line v) n) (both_rows (flat_lines fs words.Set (set_line v) n) (flat_lines fs words.Name (name_line v) n)))
    spaces-lawful =
        both-lawful given shows_operands fs n (flat_lines fs words.Namespace (namespace_line v) n) (both_rows (flat_lines fs words.Set (set_line v) n) (flat_lines fs words.Name (name_line v) n))
        (flat-lawful given (rules v instances) words.Namespace (namespace_line v) (λ e. absurd (omega arith)) (λ labels tokens. refl) (free v instances words.Namespace (λ e. absurd (omega arith)) (λ row after. refl)) (namespace-are v) n)
        sets-lawful (apart (6 ∷ 7 ∷ []) (5 ∷ []) refl)

    strings-lawful : Lawful given shows_operands fs n (both_rows (flat_lines fs words.Text string_line n) (both_rows (flat_lines fs words.Namespace (namespace_line v) n) (both_rows (flat_lines fs words.Set (set_line v) n) (flat_lines fs words.Name (name_line v) n))))
    strings-lawful =
        both-lawful given shows_operands fs n (flat_lines fs words.Text string_line n) (both_rows (flat_lines fs words.Namespace (namespace_line v) n) (both_rows (flat_lines fs words.Set (set_line v) n) (flat_lines fs words.Name (name_line v) n)))
        (flat-lawful given (rules v instances) words.Text string_line (λ e. absurd (omega arith)) (λ labels tokens. refl) (free v instances words.Text (λ e. absurd (omega arith)) (λ row after. refl)) string-are n)
        spaces-lawful (apart (5 ∷ 6 ∷ 7 ∷ []) (4 ∷ []) refl)

    doubles-lawful : Lawful given shows_operands fs n (both_rows (flat_lines fs words.Double double_line n) (both_rows (flat_lines fs words.Text string_line n) (both_rows (flat_lines fs words.Namespace (namespace_line v) n) (both_rows (flat_lines fs words.Set (set_line v) n) (flat_lines fs words.Name (name_line v) n)))))
    doubles-lawful =
        both-lawful given shows_operands fs n (flat_lines fs words.Double double_line n) (both_rows (flat_lines fs words.Text string_line n) (both_rows (flat_lines fs words.Namespace (namespace_line v) n) (both_rows (flat_lines fs words.Set (set_line v) n) (flat_lines fs words.Name (name_line v) n))))
        (flat-lawful given (rules v instances) words.Double double_line (λ e. absurd (omega arith)) (λ labels tokens. refl) (free v instances words.Double (λ e. absurd (omega arith)) (λ row after. refl)) double-are n)
        strings-lawful (apart (4 ∷ 5 ∷ 6 ∷ 7 ∷ []) (3 ∷ []) refl)

    uints-lawful : Lawful given shows_operands fs n (both_rows (flat_lines fs words.UInt uint_line n) (both_rows (flat_lines fs words.Double double_line n) (both_rows (flat_lines fs words.Text string_line n) (both_rows (flat_lines fs words.Namespace (namespace_line v) n) (both_rows (flat_lines fs words.Set (set_line v) n) (flat_lines fs words.Name (name_line v) n))))))
    uints-lawful =
        both-lawful given shows_operands fs n (flat_lines fs words.UInt uint_line n) (both_rows (flat_lines fs words.Double double_line n) (both_rows (flat_lines fs words.Text string_line n) (both_rows (flat_lines fs words.Namespace (namespace_line v) n) (both_rows (flat_lines fs words.Set (set_line v) n) (flat_lines fs words.Name (name_line v) n)))))
        (flat-lawful given (rules v instances) words.UInt uint_line (λ e. absurd (omega arith)) (λ labels tokens. refl) (free v instances words.UInt (λ e. absurd (omega arith)) (λ row after. refl)) uint-are n)
        doubles-lawful (apart (3 ∷ 4 ∷ 5 ∷ 6 ∷ 7 ∷ []) (2 ∷ []) refl)

    pub pools-lawful : Lawful given shows_operands fs n (pools v instances n)
    unfolding pools
    pools-lawful =
        both-lawful given shows_operands fs n (flat_lines fs words.Int int_line n) (both_rows (flat_lines fs words.UInt uint_line n) (both_rows (flat_lines fs words.Double double_line n) (both_rows (flat_lines fs words.Text string_line n) (both_rows (flat_lines fs words.Namespace (namespace_line v) n) (both_rows (flat_lines fs words.Set (set_line v) n) (flat_lines fs words.Name (name_line v) n))))))
        (flat-lawful given (rules v instances) words.Int int_line (λ e. absurd (omega arith)) (λ labels tokens. refl) (free v instances words.Int (λ e. absurd (omega arith)) (λ row after. refl)) int-are n)
        uints-lawful (apart (2 ∷ 3 ∷ 4 ∷ 5 ∷ 6 ∷ 7 ∷ []) (1 ∷ []) refl)

    -- ---- the places of the tables

    pub pools_has : (pools v instances n).has ≡ 1 ∷ 2 ∷ 3 ∷ 4 ∷ 5 ∷ 6 ∷ 7 ∷ []
    unfolding pools
    pools_has = refl

    pub methods_has : (methods v instances n).has ≡ 8 ∷ 9 ∷ 10 ∷ 11 ∷ skipped_words
    unfolding methods method_below
    methods_has = refl

    pub metadata_has : (metadata v instances n).has ≡ 12 ∷ 13 ∷ []
    unfolding metadata
    metadata_has = refl

    pub instances_has : (instance_lines v instances n).has ≡ 14 ∷ 15 ∷ 16 ∷ 17 ∷ 18 ∷ 19 ∷ 23 ∷ 25 ∷ skipped_words
    unfolding instance_lines instance_below traits
    instances_has = refl

    pub classes_has : (classes v instances n).has ≡ 20 ∷ 18 ∷ 19 ∷ skipped_words
    unfolding classes traits
    classes_has = refl

    pub scripts_has : (scripts v instances n).has ≡ 21 ∷ 18 ∷ 19 ∷ skipped_words
    unfolding scripts traits
    scripts_has = refl

    bodies_starts : (body_lines v instances n).starts ≡ 22 ∷ []
    unfolding body_lines
    bodies_starts = refl

    later_starts : (scripts v instances n).starts ++ (body_lines v instances n).starts ≡ 21 ∷ 22 ∷ []
    unfolding scripts body_lines
    later_starts = refl

    class_starts : (classes v instances n).starts ++ ((scripts v instances n).starts ++ (body_lines v instances n).starts) ≡ 20 ∷ 21 ∷ 22 ∷ []
    unfolding classes scripts body_lines
    class_starts = refl

    instance_starts : (instance_lines v instances n).starts ++ ((classes v instances n).starts ++ ((scripts v instances n).starts ++ (body_lines v instances n).starts)) ≡ 14 ∷ 20 ∷ 21 ∷ 22 ∷ []
    unfolding instance_lines classes scripts body_lines
    instance_starts = refl

    metadata_starts : (metadata v instances n).starts ++ ((instance_lines v instances n).starts ++ ((classes v instances n).starts ++ ((scripts v instances n).starts ++ (body_lines v instances n).starts))) ≡ 12 ∷ 14 ∷ 20 ∷ 21 ∷ 22 ∷ []
    unfolding metadata instance_lines classes scripts body_lines
    metadata_starts = refl

    method_starts : (methods v instances n).starts ++ ((metadata v instances n).starts ++ ((instance_lines v instances n).starts ++ ((classes v instances n).starts ++ ((scripts v instances n).starts ++ (body_lines v instances n).starts)))) ≡ 8 ∷ 12 ∷ 14 ∷ 20 ∷ 21 ∷ 22 ∷ []
    unfolding methods metadata instance_lines classes scripts body_lines
    method_starts = refl

    -- two lists of places that are equal to two that have none in common
    apart_at : (a b s p : List ℕ) → a ≡ s → b ≡ p → ((w : ℕ) → Among w s → Among w p → ⊥) → (w : ℕ) → Among w a → Among w b → ⊥
    apart_at a b s p e f d w x y = d w (subst (λ (l : List ℕ). Among w l) e x) (subst (λ (l : List ℕ). Among w l) f y)

    abbrev pub scripts_on : Rows (List Script × List Body)
    scripts_on = both_rows (scripts v instances n) (body_lines v instances n)

    pub scripts_on-lawful : Lawful given shows_operands fs n scripts_on
    scripts_on-lawful =
        both-lawful given shows_operands fs n (scripts v instances n) (body_lines v instances n) (scripts-lawful v instances n) (bodies-lawful v instances n)
        (apart_at _ _ (22 ∷ []) (21 ∷ 18 ∷ 19 ∷ skipped_words) bodies_starts scripts_has (apart (22 ∷ []) (21 ∷ 18 ∷ 19 ∷ skipped_words) refl))

    abbrev pub classes_on : Rows (List ClassInfo × (List Script × List Body))
    classes_on = both_rows (classes v instances n) scripts_on

    pub classes_on-lawful : Lawful given shows_operands fs n classes_on
    classes_on-lawful =
        both-lawful given shows_operands fs n (classes v instances n) scripts_on (classes-lawful v instances n) scripts_on-lawful
        (apart_at _ _ (21 ∷ 22 ∷ []) (20 ∷ 18 ∷ 19 ∷ skipped_words) later_starts classes_has (apart (21 ∷ 22 ∷ []) (20 ∷ 18 ∷ 19 ∷ skipped_words) refl))

    abbrev pub instances_on : Rows (List (InstanceHead × InstanceBelow v instances) × (List ClassInfo × (List Script × List Body)))
    instances_on = both_rows (instance_lines v instances n) classes_on

    pub instances_on-lawful : Lawful given shows_operands fs n instances_on
    instances_on-lawful =
        both-lawful given shows_operands fs n (instance_lines v instances n) classes_on (instances-lawful v instances n) classes_on-lawful
        (apart_at _ _ (20 ∷ 21 ∷ 22 ∷ []) (14 ∷ 15 ∷ 16 ∷ 17 ∷ 18 ∷ 19 ∷ 23 ∷ 25 ∷ skipped_words) class_starts instances_has (apart (20 ∷ 21 ∷ 22 ∷ []) (14 ∷ 15 ∷ 16 ∷ 17 ∷ 18 ∷ 19 ∷ 23 ∷ 25 ∷ skipped_words) refl))

    abbrev pub metadata_on : Rows (List (ℕ × List (ℕ × ℕ)) × (List (InstanceHead × InstanceBelow v instances) × (List ClassInfo × (List Script × List Body))))
    metadata_on = both_rows (metadata v instances n) instances_on

    pub metadata_on-lawful : Lawful given shows_operands fs n metadata_on
    metadata_on-lawful =
        both-lawful given shows_operands fs n (metadata v instances n) instances_on (metadata-lawful v instances n) instances_on-lawful
        (apart_at _ _ (14 ∷ 20 ∷ 21 ∷ 22 ∷ []) (12 ∷ 13 ∷ []) instance_starts metadata_has (apart (14 ∷ 20 ∷ 21 ∷ 22 ∷ []) (12 ∷ 13 ∷ []) refl))

    abbrev pub methods_on : Rows (List Method × (List (ℕ × List (ℕ × ℕ)) × (List (InstanceHead × InstanceBelow v instances) × (List ClassInfo × (List Script × List Body)))))
    methods_on = both_rows (methods v instances n) metadata_on

    pub methods_on-lawful : Lawful given shows_operands fs n methods_on
    methods_on-lawful =
        both-lawful given shows_operands fs n (methods v instances n) metadata_on (methods-lawful v instances n) metadata_on-lawful
        (apart_at _ _ (12 ∷ 14 ∷ 20 ∷ 21 ∷ 22 ∷ []) (8 ∷ 9 ∷ 10 ∷ 11 ∷ skipped_words) metadata_starts methods_has (apart (12 ∷ 14 ∷ 20 ∷ 21 ∷ 22 ∷ []) (8 ∷ 9 ∷ 10 ∷ 11 ∷ skipped_words) refl))

    pub file-lawful : Lawful given shows_operands fs n (file v instances n)
    unfolding file
    file-lawful =
        both-lawful given shows_operands fs n (pools v instances n) methods_on pools-lawful methods_on-lawful
        (apart_at _ _ (8 ∷ 12 ∷ 14 ∷ 20 ∷ 21 ∷ 22 ∷ []) (1 ∷ 2 ∷ 3 ∷ 4 ∷ 5 ∷ 6 ∷ 7 ∷ []) method_starts pools_has (apart (8 ∷ 12 ∷ 14 ∷ 20 ∷ 21 ∷ 22 ∷ []) (1 ∷ 2 ∷ 3 ∷ 4 ∷ 5 ∷ 6 ∷ 7 ∷ []) refl))

  -- ---- the first line

  version_keeps : LineKeeps given shows_operands fs (lines_of_word words.Abc version_line always) empty_rows
  version_keeps = line-keeps given (rules v instances) words.Abc version_line always empty_rows (λ e. absurd (omega arith)) (λ labels tokens. refl) version-are (agrees_always given (rules v instances) words.Abc version_line empty_rows (free v instances words.Abc (λ e. absurd (omega arith)) (λ row after. refl)))

  exact : (m x : ℕ) → (exactly m).fits x → x ≡ m
  exact m x h = eq_true x m h.1

  fits_16 : (exactly 16).fits 16
  unfolding any_number
  fits_16 = (tt, refl)

  fits_46 : (exactly 46).fits 46
  unfolding any_number
  fits_46 = (tt, refl)

  items_are : (x : ℕ × (ℕ × Unit {0})) → version_line.items x ≡ Number x.0 ∷ Number x.1.0 ∷ []
  unfolding any_number
  items_are x = refl

  version_fit : (row : Row) (after : List Row) → place_of row.word ≡ 0 → least (fs row after) ≡ None → version_line.fits (version_line.value row.labels row.operands)
  version_fit row after here e =
      let word = same_word row.word words.Abc (λ e. absurd (omega arith)) here in
      let c = clear (rules v instances) row after e in
      let own = reasons_nil version_line row.labels row.operands (ap (λ (w : Word). own v instances w row.labels row.operands) (sym word) ∙ c.own) in
      (version-are.found row.labels row.operands own.0 own.1).1

  pub version_found : (row : Row) (after : List Row) → place_of row.word ≡ 0 → least (fs row after) ≡ None → IsLine shows_operands row words.Abc (Number 16 ∷ Number 46 ∷ [])
  version_found row after here e =
      let word = same_word row.word words.Abc (λ e. absurd (omega arith)) here in
      let plain : is_label row.word ≡ false = ap is_label word in
      let x = version_line.value row.labels row.operands in
      let is = version_keeps.found row after here plain e in
      let fit = version_fit row after here e in
      let all : version_line.items x ≡ Number 16 ∷ Number 46 ∷ [] =
      items_are x ∙ ap (λ (m : ℕ). Number m ∷ Number x.1.0 ∷ []) (exact 16 x.0 fit.0) ∙ ap (λ (m : ℕ). Number 16 ∷ Number m ∷ []) (exact 46 x.1.0 fit.1.0) in
      subst (λ (l : List Item). IsLine shows_operands row words.Abc l) all is

  pub version_clean : (row : Row) (after : List Row) → IsLine shows_operands row words.Abc (Number 16 ∷ Number 46 ∷ []) → least (fs row after) ≡ None
  version_clean row after is =
      let x : ℕ × (ℕ × Unit {0}) = (16, (46, tt)) in
      (version_keeps.again row [] after x tt ((fits_16, (fits_46, tt)), tt) (subst (λ (l : List Item). IsLine shows_operands row words.Abc l) (sym (items_are x)) is) refl tt (λ w h k. k)).0

  -- ---- as many instances as classes

  abbrev number_of_rest : List Row → ℕ
  number_of_rest rows = count_all 14 (rows ++ [])

  instance_enough : (row : Row) (after : List Row) → place_of row.word ≡ 14 → least (fs row after) ≡ None → instances - count_all 14 after ≤ v.classes
  instance_enough row after here e =
      let word = same_word row.word words.Instance (λ e. absurd (omega arith)) here in
      let c = clear (rules v instances) row after e in
      let flags = ((instance_line v).value row.labels row.operands).flags in
      let none_ : count_unless (instance_counts v.classes instances flags after) ≡ [] = ap (λ (w : Word). others v instances row after w) (sym word) ∙ c.others in
      let fine = count_fine (instance_counts v.classes instances flags after) none_ in
      let two = and_true (nat_eq (count_lines instance_part 15 after) (where_set (has_flag flags 0x08) 1) && nat_le 1 (count_lines instance_part 17 after)) (nat_le (instances - count_all 14 after) v.classes) fine in
      let test = two.1 in
      grind (arith, nat_tests)

  class_enough : (row : Row) (after : List Row) → place_of row.word ≡ 20 → least (fs row after) ≡ None → v.classes - count_all 20 after ≤ instances
  class_enough row after here e =
      let word = same_word row.word words.Class (λ e. absurd (omega arith)) here in
      let c = clear (rules v instances) row after e in
      let none_ : count_unless (class_counts v.classes instances after) ≡ [] = ap (λ (w : Word). others v instances row after w) (sym word) ∙ c.others in
      let test = count_fine (class_counts v.classes instances after) none_ in
      grind (arith, nat_tests)

  -- where some line stands at a place, the last of them says how many there are at most
  last_says : (place bound total : ℕ) → ((row : Row) (after : List Row) → place_of row.word ≡ place → least (fs row after) ≡ None → total - count_all place after ≤ bound) → (rows : List Row) → Clean fs rows [] → (count_all place rows ≡ 0) ⊎ (total ≤ bound)
  last_says place bound total enough [] clean = inl refl
  last_says place bound total enough (row ∷ rows) clean =
      elim (last_says place bound total enough rows clean.1) [
        | inr le ↦ inr le
        | inl none_ ↦ elim (split_bool (nat_eq (place_of row.word) place)) [
          | inr other ↦ inl (rw other none_)
          | inl here ↦
              let at : place_of row.word ≡ place = eq_true (place_of row.word) place here in
              let le = enough row (rows ++ []) at clean.0 in
              let zero_ : count_all place (rows ++ []) ≡ 0 = ap (count_all place) (append-nil rows) ∙ none_ in
              inr (omega (arith, le, zero_))
        ]
      ]

  pub balanced : (rows : List Row) → count_all 20 rows ≡ v.classes → count_all 14 rows ≡ instances → Clean fs rows [] → given
  balanced rows classes_are instances_are clean =
      let low : instances ≤ v.classes = elim (last_says 14 v.classes instances instance_enough rows clean) [ inl e ↦ omega (arith, e, instances_are) | inr le ↦ le ] in
      let high : v.classes ≤ instances = elim (last_says 20 instances v.classes class_enough rows clean) [ inl e ↦ omega (arith, e, classes_are) | inr le ↦ le ] in
      omega (arith, low, high)

  pub rows_determined : (rows : List Row) → count_all 20 rows ≡ v.classes → count_all 14 rows ≡ instances → IsTextDetermined shows_operands fs (file v instances (length rows)) rows
  rows_determined rows classes_are instances_are =
      determined given shows_operands fs (file v instances (length rows)) version_found version_clean (length rows) (file-lawful (length rows)) rows (balanced rows classes_are instances_are) (omega arith)
