-- The sizes of a text's tables are those of its file.
use Rattle.std.proofs.Common.{◌≡◌, ℕ, suc, ◌+◌, inl, true, false, nat_eq, List, [], ◌∷◌, ◌++◌, length, map, refl, ap, subst, ◌∙◌, arith}
use Rattle.abc_text_lines.specs.declared.word.Word.TheVariants as words
use Rattle.abc_file_types.specs.declared.classes.ClassInfo.{ClassInfo}
use Rattle.abc_file_types.specs.declared.classes.Script.{Script}
use Rattle.abc_file_types.specs.declared.code.Body.{Body}
use Rattle.abc_file_types.specs.declared.methods.Method.{Method}
use Rattle.abc_file_types.specs.declared.tables.Sizes.{Sizes}
use Rattle.abc_text_lines.specs.Assembly as rows
use Rattle.abc_text_lines.specs.Lines.{Row, places_shown}
use Rattle.abc_text_lines.specs.Rows.{Faults, Rows}
use Rattle.abc_text_lines.specs.Law.{Among, Lawful, Match}
use Rattle.abc_text_lines.specs.Wordlines.{always, among, count_all, count_in, flat_lines, lines_of_word, shows_operands}
use Rattle.abc_text_lines.proofs.Counts.{count_all-match, count_in-none, flat_count, many_count}
use Rattle.abc_text_lines.proofs.Wordlines.{among_yes, apart, flat-lawful}
use Rattle.abc_text_lines.specs.File.{InstanceBelow, body_lines, rules, scripts, ClassAgrees, InstanceAgrees, IsBalanced, MethodAgrees, Outline, PoolValues, classes, faults, file, instance_below, instance_lines, metadata, method_below, method_part, methods, pools, skipped_words, traits}
use Rattle.abc_text_lines.specs.Lineforms.{InstanceHead, double_line, entry_line, instance_line, int_line, method_index_line, method_line, name_line, namespace_line, set_line, string_index_line, string_line, uint_line}
use Rattle.abc_text_lines.proofs.Below.{count_two, flat_none}
use Rattle.abc_text_lines.proofs.Forms.{entry-are}
use Rattle.abc_text_lines.proofs.Tables.{bodies_none, scripts-lawful, classes-lawful, free, instance_below-lawful, instance_below_has, instances-lawful, metadata-lawful, method_below-lawful, method_below_has, methods-lawful, trait_list-lawful, trait_list_has}
use Rattle.abc_text_lines.proofs.Whole.{classes_has, instances_has, metadata_has, methods_has, pools-lawful, pools_has, scripts_has, scripts_on}

length_map : {A B : Type 0} (f : A → B) (xs : List A) → length (map f xs) ≡ length xs
length_map f [] = refl
length_map f (x ∷ xs) = ap (λ (n : ℕ). suc n) (length_map f xs)

module _ (v : Sizes) (instances n : ℕ) where
  abbrev given : Type 0
  given = IsBalanced v instances

  abbrev fs : Faults
  fs = faults v instances

  -- how many lines of a value stand at a place
  abbrev at : {A : Type 0} → ℕ → Rows A → A → ℕ
  at place p x = count_in place (places_shown (p.shows x))

  -- none stand at a place that the part doesn't have
  none : {A : Type 0} (place : ℕ) (p : Rows A) (lp : Lawful given shows_operands fs n p) → (Among place p.has → ⊥) → (x : A) → at place p x ≡ 0
  none place p lp other x = count_in-none place (places_shown (p.shows x)) p.has (λ before w more e. lp.inside x before w more e) other

  not_in : (place : ℕ) (has places : List ℕ) → has ≡ places → among place places ≡ false → Among place has → ⊥
  not_in place has places e other h = let yes : among place places ≡ true = among_yes place places (subst (λ (l : List ℕ). Among place l) e h) in cc

  -- ---- the tables of lines with lines below them

  method_count : (ms : List Method) → at 8 (methods v instances n) ms ≡ length ms
  unfolding methods
  method_count ms =
      many_count (lines_of_word words.Method (method_line v) (MethodAgrees v instances)) (method_below v instances n) (λ h. refl) (method_below-lawful v instances n).inside
      (λ a. apart (8 ∷ []) method_part refl 8 (inl refl) (subst (λ (l : List ℕ). Among 8 l) (method_below_has v instances n) a)) (map _ ms)
      ∙ length_map _ ms

  entry_places : (x : List (ℕ × ℕ)) (before : List ℕ) (w : ℕ) (more : List ℕ) → places_shown ((flat_lines fs words.Entry (entry_line v) n).shows x) ≡ before ++ w ∷ more → Among w (13 ∷ [])
  entry_places x before w more e = (flat-lawful given (rules v instances) words.Entry (entry_line v) (λ e. absurd (omega arith)) (λ labels tokens. refl) (free v instances words.Entry (λ e. absurd (omega arith)) (λ row after. refl)) (entry-are v) n).inside x before w more e

  metadata_count : (ms : List (ℕ × List (ℕ × ℕ))) → at 12 (metadata v instances n) ms ≡ length ms
  unfolding metadata
  metadata_count ms = many_count (lines_of_word words.Metadata (string_index_line v) always) (flat_lines fs words.Entry (entry_line v) n) (λ h. refl) entry_places (λ a. apart (12 ∷ []) (13 ∷ []) refl 12 (inl refl) a) ms

  instance_count : (is : List (InstanceHead × InstanceBelow v instances)) → at 14 (instance_lines v instances n) is ≡ length is
  unfolding instance_lines
  instance_count is =
      many_count (lines_of_word words.Instance (instance_line v) (InstanceAgrees v instances)) (instance_below v instances n) (λ h. refl) (instance_below-lawful v instances n).inside
      (λ a. apart (14 ∷ []) (15 ∷ 16 ∷ 17 ∷ 18 ∷ 19 ∷ 23 ∷ 25 ∷ skipped_words) refl 14 (inl refl) (subst (λ (l : List ℕ). Among 14 l) (instance_below_has v instances n) a)) is

  class_count : (cs : List ClassInfo) → at 20 (classes v instances n) cs ≡ length cs
  unfolding classes
  class_count cs =
      many_count (lines_of_word words.Class (method_index_line v) (ClassAgrees v instances)) (traits v instances fs n) (λ h. refl) (trait_list-lawful v instances n).inside
      (λ a. apart (20 ∷ []) (18 ∷ 19 ∷ skipped_words) refl 20 (inl refl) (subst (λ (l : List ℕ). Among 20 l) (trait_list_has v instances n) a)) (map _ cs)
      ∙ length_map _ cs

  -- ---- all tables

  -- the lines at a place, table by table
  file_count : (place : ℕ) (x : Outline v instances) → at place (file v instances n) x ≡ at place (pools v instances n) x.0 + (at place (methods v instances n) x.1.0 + (at place (metadata v instances n) x.1.1.0 + (at place (instance_lines v instances n) x.1.1.1.0 + (at place (classes v instances n) x.1.1.1.1.0 + at place (scripts_on v instances n) x.1.1.1.1.1))))
  unfolding file
  file_count place x =
      let p = (pools v instances n).shows x.0 in
      let m = (methods v instances n).shows x.1.0 in
      let d = (metadata v instances n).shows x.1.1.0 in
      let i = (instance_lines v instances n).shows x.1.1.1.0 in
      let c = (classes v instances n).shows x.1.1.1.1.0 in
      let s = (scripts_on v instances n).shows x.1.1.1.1.1 in
      omega (arith, count_two place p (m ++ (d ++ (i ++ (c ++ s)))), count_two place m (d ++ (i ++ (c ++ s))), count_two place d (i ++ (c ++ s)), count_two place i (c ++ s), count_two place c s)

  later_none : (place : ℕ) → among place (21 ∷ 18 ∷ 19 ∷ skipped_words) ≡ false → nat_eq 22 place ≡ false → among place (23 ∷ 24 ∷ 18 ∷ 19 ∷ skipped_words) ≡ false → (x : List Script × List Body) → at place (scripts_on v instances n) x ≡ 0
  later_none place a b c x =
      omega (
        arith,
        count_two place ((scripts v instances n).shows x.0) ((body_lines v instances n).shows x.1),
        none place (scripts v instances n) (scripts-lawful v instances n) (not_in place (scripts v instances n).has (21 ∷ 18 ∷ 19 ∷ skipped_words) (scripts_has v instances n) a) x.0,
        bodies_none v instances n place b c x.1,
      )

  -- at a place of the pools
  pool_place : (place : ℕ) → among place (8 ∷ 9 ∷ 10 ∷ 11 ∷ skipped_words) ≡ false → among place (12 ∷ 13 ∷ []) ≡ false → among place (14 ∷ 15 ∷ 16 ∷ 17 ∷ 18 ∷ 19 ∷ 23 ∷ 25 ∷ skipped_words) ≡ false → among place (20 ∷ 18 ∷ 19 ∷ skipped_words) ≡ false → among place (21 ∷ 18 ∷ 19 ∷ skipped_words) ≡ false → nat_eq 22 place ≡ false → among place (23 ∷ 24 ∷ 18 ∷ 19 ∷ skipped_words) ≡ false → (x : Outline v instances) → at place (file v instances n) x ≡ at place (pools v instances n) x.0
  pool_place place a b c d e f g x =
      omega (
        arith,
        file_count place x,
        none place (methods v instances n) (methods-lawful v instances n) (not_in place (methods v instances n).has (8 ∷ 9 ∷ 10 ∷ 11 ∷ skipped_words) (methods_has v instances n) a) x.1.0,
        none place (metadata v instances n) (metadata-lawful v instances n) (not_in place (metadata v instances n).has (12 ∷ 13 ∷ []) (metadata_has v instances n) b) x.1.1.0,
        none place (instance_lines v instances n) (instances-lawful v instances n) (not_in place (instance_lines v instances n).has (14 ∷ 15 ∷ 16 ∷ 17 ∷ 18 ∷ 19 ∷ 23 ∷ 25 ∷ skipped_words) (instances_has v instances n) c) x.1.1.1.0,
        none place (classes v instances n) (classes-lawful v instances n) (not_in place (classes v instances n).has (20 ∷ 18 ∷ 19 ∷ skipped_words) (classes_has v instances n) d) x.1.1.1.1.0,
        later_none place e f g x.1.1.1.1.1,
      )

  methods_counted : (x : Outline v instances) → at 8 (file v instances n) x ≡ length x.1.0
  methods_counted x =
      omega (
        arith,
        file_count 8 x,
        none 8 (pools v instances n) (pools-lawful v instances n) (not_in 8 (pools v instances n).has (1 ∷ 2 ∷ 3 ∷ 4 ∷ 5 ∷ 6 ∷ 7 ∷ []) (pools_has v instances n) refl) x.0,
        method_count x.1.0,
        none 8 (metadata v instances n) (metadata-lawful v instances n) (not_in 8 (metadata v instances n).has (12 ∷ 13 ∷ []) (metadata_has v instances n) refl) x.1.1.0,
        none 8 (instance_lines v instances n) (instances-lawful v instances n) (not_in 8 (instance_lines v instances n).has (14 ∷ 15 ∷ 16 ∷ 17 ∷ 18 ∷ 19 ∷ 23 ∷ 25 ∷ skipped_words) (instances_has v instances n) refl) x.1.1.1.0,
        none 8 (classes v instances n) (classes-lawful v instances n) (not_in 8 (classes v instances n).has (20 ∷ 18 ∷ 19 ∷ skipped_words) (classes_has v instances n) refl) x.1.1.1.1.0,
        later_none 8 refl refl refl x.1.1.1.1.1,
      )

  metadata_counted : (x : Outline v instances) → at 12 (file v instances n) x ≡ length x.1.1.0
  metadata_counted x =
      omega (
        arith,
        file_count 12 x,
        none 12 (pools v instances n) (pools-lawful v instances n) (not_in 12 (pools v instances n).has (1 ∷ 2 ∷ 3 ∷ 4 ∷ 5 ∷ 6 ∷ 7 ∷ []) (pools_has v instances n) refl) x.0,
        none 12 (methods v instances n) (methods-lawful v instances n) (not_in 12 (methods v instances n).has (8 ∷ 9 ∷ 10 ∷ 11 ∷ skipped_words) (methods_has v instances n) refl) x.1.0,
        metadata_count x.1.1.0,
        none 12 (instance_lines v instances n) (instances-lawful v instances n) (not_in 12 (instance_lines v instances n).has (14 ∷ 15 ∷ 16 ∷ 17 ∷ 18 ∷ 19 ∷ 23 ∷ 25 ∷ skipped_words) (instances_has v instances n) refl) x.1.1.1.0,
        none 12 (classes v instances n) (classes-lawful v instances n) (not_in 12 (classes v instances n).has (20 ∷ 18 ∷ 19 ∷ skipped_words) (classes_has v instances n) refl) x.1.1.1.1.0,
        later_none 12 refl refl refl x.1.1.1.1.1,
      )

  instances_counted : (x : Outline v instances) → at 14 (file v instances n) x ≡ length x.1.1.1.0
  instances_counted x =
      omega (
        arith,
        file_count 14 x,
        none 14 (pools v instances n) (pools-lawful v instances n) (not_in 14 (pools v instances n).has (1 ∷ 2 ∷ 3 ∷ 4 ∷ 5 ∷ 6 ∷ 7 ∷ []) (pools_has v instances n) refl) x.0,
        none 14 (methods v instances n) (methods-lawful v instances n) (not_in 14 (methods v instances n).has (8 ∷ 9 ∷ 10 ∷ 11 ∷ skipped_words) (methods_has v instances n) refl) x.1.0,
        none 14 (metadata v instances n) (metadata-lawful v instances n) (not_in 14 (metadata v instances n).has (12 ∷ 13 ∷ []) (metadata_has v instances n) refl) x.1.1.0,
        instance_count x.1.1.1.0,
        none 14 (classes v instances n) (classes-lawful v instances n) (not_in 14 (classes v instances n).has (20 ∷ 18 ∷ 19 ∷ skipped_words) (classes_has v instances n) refl) x.1.1.1.1.0,
        later_none 14 refl refl refl x.1.1.1.1.1,
      )

  classes_counted : (x : Outline v instances) → at 20 (file v instances n) x ≡ length x.1.1.1.1.0
  classes_counted x =
      omega (
        arith,
        file_count 20 x,
        none 20 (pools v instances n) (pools-lawful v instances n) (not_in 20 (pools v instances n).has (1 ∷ 2 ∷ 3 ∷ 4 ∷ 5 ∷ 6 ∷ 7 ∷ []) (pools_has v instances n) refl) x.0,
        none 20 (methods v instances n) (methods-lawful v instances n) (not_in 20 (methods v instances n).has (8 ∷ 9 ∷ 10 ∷ 11 ∷ skipped_words) (methods_has v instances n) refl) x.1.0,
        none 20 (metadata v instances n) (metadata-lawful v instances n) (not_in 20 (metadata v instances n).has (12 ∷ 13 ∷ []) (metadata_has v instances n) refl) x.1.1.0,
        none 20 (instance_lines v instances n) (instances-lawful v instances n) (not_in 20 (instance_lines v instances n).has (14 ∷ 15 ∷ 16 ∷ 17 ∷ 18 ∷ 19 ∷ 23 ∷ 25 ∷ skipped_words) (instances_has v instances n) refl) x.1.1.1.0,
        class_count x.1.1.1.1.0,
        later_none 20 refl refl refl x.1.1.1.1.1,
      )

  -- ---- pools

  pools_count : (place : ℕ) (x : PoolValues v instances) → at place (pools v instances n) x ≡ at place (flat_lines fs words.Int int_line n) x.0 + (at place (flat_lines fs words.UInt uint_line n) x.1.0 + (at place (flat_lines fs words.Double double_line n) x.1.1.0 + (at place (flat_lines fs words.Text string_line n) x.1.1.1.0 + (at place (flat_lines fs words.Namespace (namespace_line v) n) x.1.1.1.1.0 + (at place (flat_lines fs words.Set (set_line v) n) x.1.1.1.1.1.0 + at place (flat_lines fs words.Name (name_line v) n) x.1.1.1.1.1.1)))))
  unfolding pools
  pools_count place x =
      let a = (flat_lines fs words.Int int_line n).shows x.0 in
      let b = (flat_lines fs words.UInt uint_line n).shows x.1.0 in
      let c = (flat_lines fs words.Double double_line n).shows x.1.1.0 in
      let d = (flat_lines fs words.Text string_line n).shows x.1.1.1.0 in
      let e = (flat_lines fs words.Namespace (namespace_line v) n).shows x.1.1.1.1.0 in
      let f = (flat_lines fs words.Set (set_line v) n).shows x.1.1.1.1.1.0 in
      let g = (flat_lines fs words.Name (name_line v) n).shows x.1.1.1.1.1.1 in
      omega (arith, count_two place a (b ++ (c ++ (d ++ (e ++ (f ++ g))))), count_two place b (c ++ (d ++ (e ++ (f ++ g)))), count_two place c (d ++ (e ++ (f ++ g))), count_two place d (e ++ (f ++ g)), count_two place e (f ++ g), count_two place f g)

  -- the sizes of the pools
  record PoolsCounted (x : PoolValues v instances) : Type 0 where
    ints : at 1 (pools v instances n) x ≡ length x.0
    uints : at 2 (pools v instances n) x ≡ length x.1.0
    doubles : at 3 (pools v instances n) x ≡ length x.1.1.0
    strings : at 4 (pools v instances n) x ≡ length x.1.1.1.0
    namespaces : at 5 (pools v instances n) x ≡ length x.1.1.1.1.0
    sets : at 6 (pools v instances n) x ≡ length x.1.1.1.1.1.0
    names : at 7 (pools v instances n) x ≡ length x.1.1.1.1.1.1

  pools_counted : (x : PoolValues v instances) → PoolsCounted x
  pools_counted x =
      record {
        ints = omega (arith, pools_count 1 x, flat_count words.Int int_line x.0, flat_none 1 words.UInt uint_line refl x.1.0, flat_none 1 words.Double double_line refl x.1.1.0, flat_none 1 words.Text string_line refl x.1.1.1.0, flat_none 1 words.Namespace (namespace_line v) refl x.1.1.1.1.0, flat_none 1 words.Set (set_line v) refl x.1.1.1.1.1.0, flat_none 1 words.Name (name_line v) refl x.1.1.1.1.1.1);
        uints = omega (arith, pools_count 2 x, flat_none 2 words.Int int_line refl x.0, flat_count words.UInt uint_line x.1.0, flat_none 2 words.Double double_line refl x.1.1.0, flat_none 2 words.Text string_line refl x.1.1.1.0, flat_none 2 words.Namespace (namespace_line v) refl x.1.1.1.1.0, flat_none 2 words.Set (set_line v) refl x.1.1.1.1.1.0, flat_none 2 words.Name (name_line v) refl x.1.1.1.1.1.1);
        doubles = omega (arith, pools_count 3 x, flat_none 3 words.Int int_line refl x.0, flat_none 3 words.UInt uint_line refl x.1.0, flat_count words.Double double_line x.1.1.0, flat_none 3 words.Text string_line refl x.1.1.1.0, flat_none 3 words.Namespace (namespace_line v) refl x.1.1.1.1.0, flat_none 3 words.Set (set_line v) refl x.1.1.1.1.1.0, flat_none 3 words.Name (name_line v) refl x.1.1.1.1.1.1);
        strings = omega (arith, pools_count 4 x, flat_none 4 words.Int int_line refl x.0, flat_none 4 words.UInt uint_line refl x.1.0, flat_none 4 words.Double double_line refl x.1.1.0, flat_count words.Text string_line x.1.1.1.0, flat_none 4 words.Namespace (namespace_line v) refl x.1.1.1.1.0, flat_none 4 words.Set (set_line v) refl x.1.1.1.1.1.0, flat_none 4 words.Name (name_line v) refl x.1.1.1.1.1.1);
        namespaces = omega (arith, pools_count 5 x, flat_none 5 words.Int int_line refl x.0, flat_none 5 words.UInt uint_line refl x.1.0, flat_none 5 words.Double double_line refl x.1.1.0, flat_none 5 words.Text string_line refl x.1.1.1.0, flat_count words.Namespace (namespace_line v) x.1.1.1.1.0, flat_none 5 words.Set (set_line v) refl x.1.1.1.1.1.0, flat_none 5 words.Name (name_line v) refl x.1.1.1.1.1.1);
        sets = omega (arith, pools_count 6 x, flat_none 6 words.Int int_line refl x.0, flat_none 6 words.UInt uint_line refl x.1.0, flat_none 6 words.Double double_line refl x.1.1.0, flat_none 6 words.Text string_line refl x.1.1.1.0, flat_none 6 words.Namespace (namespace_line v) refl x.1.1.1.1.0, flat_count words.Set (set_line v) x.1.1.1.1.1.0, flat_none 6 words.Name (name_line v) refl x.1.1.1.1.1.1);
        names = omega (arith, pools_count 7 x, flat_none 7 words.Int int_line refl x.0, flat_none 7 words.UInt uint_line refl x.1.0, flat_none 7 words.Double double_line refl x.1.1.0, flat_none 7 words.Text string_line refl x.1.1.1.0, flat_none 7 words.Namespace (namespace_line v) refl x.1.1.1.1.0, flat_none 7 words.Set (set_line v) refl x.1.1.1.1.1.0, flat_count words.Name (name_line v) x.1.1.1.1.1.1);
      }

  -- ---- the rows of a value

  row_count : (place : ℕ) (rs : List Row) (x : Outline v instances) → nat_eq 23 place ≡ false → nat_eq 0 place ≡ false → Match shows_operands rs (rows.lines_of_value (file v instances n) x) → count_all place rs ≡ at place (file v instances n) x
  row_count place rs x labels version match = count_all-match place shows_operands labels (rows.lines_of_value (file v instances n) x) rs match ∙ rw version refl

  -- How many lines of each table there are.
  pub record AreCounted (rs : List Row) (x : Outline v instances) : Type 0 where
    pub ints : count_all 1 rs ≡ length x.0.0
    pub uints : count_all 2 rs ≡ length x.0.1.0
    pub doubles : count_all 3 rs ≡ length x.0.1.1.0
    pub strings : count_all 4 rs ≡ length x.0.1.1.1.0
    pub namespaces : count_all 5 rs ≡ length x.0.1.1.1.1.0
    pub sets : count_all 6 rs ≡ length x.0.1.1.1.1.1.0
    pub names : count_all 7 rs ≡ length x.0.1.1.1.1.1.1
    pub methods : count_all 8 rs ≡ length x.1.0
    pub metadata : count_all 12 rs ≡ length x.1.1.0
    pub instance_list : count_all 14 rs ≡ length x.1.1.1.0
    pub classes : count_all 20 rs ≡ length x.1.1.1.1.0

  pub are_counted : (rs : List Row) (x : Outline v instances) → Match shows_operands rs (rows.lines_of_value (file v instances n) x) → AreCounted rs x
  are_counted rs x match =
      let p = pools_counted x.0 in
      record {
        ints = row_count 1 rs x refl refl match ∙ pool_place 1 refl refl refl refl refl refl refl x ∙ p.ints;
        uints = row_count 2 rs x refl refl match ∙ pool_place 2 refl refl refl refl refl refl refl x ∙ p.uints;
        doubles = row_count 3 rs x refl refl match ∙ pool_place 3 refl refl refl refl refl refl refl x ∙ p.doubles;
        strings = row_count 4 rs x refl refl match ∙ pool_place 4 refl refl refl refl refl refl refl x ∙ p.strings;
        namespaces = row_count 5 rs x refl refl match ∙ pool_place 5 refl refl refl refl refl refl refl x ∙ p.namespaces;
        sets = row_count 6 rs x refl refl match ∙ pool_place 6 refl refl refl refl refl refl refl x ∙ p.sets;
        names = row_count 7 rs x refl refl match ∙ pool_place 7 refl refl refl refl refl refl refl x ∙ p.names;
        methods = row_count 8 rs x refl refl match ∙ methods_counted x;
        metadata = row_count 12 rs x refl refl match ∙ metadata_counted x;
        instance_list = row_count 14 rs x refl refl match ∙ instances_counted x;
        classes = row_count 20 rs x refl refl match ∙ classes_counted x;
      }
