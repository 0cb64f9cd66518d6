-- The laws of traits, and of what stands below a body, for the plain rules and for all.
use Rattle.std.proofs.Common.{◌≡◌, ℕ, ◌+◌, inl, inr, Bool, true, false, cond, ◌||◌, nat_eq, List, [], ◌∷◌, ◌++◌, length, map, refl, sym, ap, subst, ◌∙◌, arith}
use Rattle.abc_text_lines.specs.declared.word.Word.{Word}
use Rattle.abc_text_lines.specs.declared.word.Word.TheVariants as words
use Rattle.abc_text_lines.specs.Tokens.{Token}
use Rattle.abc_text_lines.specs.Words.{place_of}
use Rattle.abc_text_lines.proofs.Bools.{if_is}
use Rattle.abc_file_types.specs.declared.code.Instr.{Instr}
use Rattle.abc_file_types.specs.declared.code.Instr.TheVariants as instrs
use Rattle.abc_file_types.specs.declared.code.Handler.{Handler}
use Rattle.abc_file_types.specs.declared.tables.Sizes.{Sizes}
use Rattle.abc_file_types.specs.declared.traits.TraitInfo.{TraitInfo}
use Rattle.abc_file_types.specs.Methods.{has_flag}
use Rattle.abc_text_lines.specs.Lines.{Label, Row, Shown, places_shown}
use Rattle.abc_text_lines.specs.Operands.{Operands}
use Rattle.abc_text_lines.specs.Rows.{Faults, Rows, both_rows, code_rows, items_shown, many, empty_rows}
use Rattle.abc_text_lines.specs.Law.{Among, IsLineFree, Lawful, Match}
use Rattle.abc_text_lines.specs.Wordlines.{Rules, always, among, closed_to, count_in, count_lines, faults_by_rules, flat_lines, lines_of_word, shows_operands}
use Rattle.abc_text_lines.proofs.Counts.{count_in-append, count_in-none, counted, flat_count}
use Rattle.abc_text_lines.proofs.Exact.{both-lawful}
use Rattle.abc_text_lines.proofs.Many.{image-lawful, many-lawful, map_back}
use Rattle.abc_text_lines.proofs.Pieces.{shown-append}
use Rattle.abc_text_lines.proofs.Wordlines.{Agrees, among_yes, apart, closed-lawful, code_is-lawful, flat-lawful, line-keeps, yes_among}
use Rattle.abc_text_lines.specs.Lineforms.{catch_line, instruction_operands, opcode_of, trait_line, trait_metadata_line}
use Rattle.abc_text_lines.specs.File.{MetadataAgrees, body_below, body_part, count_unless, instructions, others, own, skipped_words, trait_counts, trait_part, traits}
use Rattle.abc_text_lines.proofs.Forms.{catch-are, instruction-are, opcode_is, trait-are, trait_metadata-are}

-- ---- counts

pub count_fine : (b : Bool) → count_unless b ≡ [] → b ≡ true
count_fine true e = refl
count_fine false e = absurd cc

-- lines of another word than the one that is counted
pub flat_none : {A : Type 0} (place : ℕ) (w : Word) (p : Operands A) → nat_eq (place_of w) place ≡ false → (xs : List A) → count_in place (places_shown (items_shown (lines_of_word w p always) empty_rows (map (λ (x : A). (x, tt)) xs))) ≡ 0
flat_none place w p other [] = refl
flat_none place w p other (x ∷ xs) = rw other (flat_none place w p other xs)

pub count_two : (place : ℕ) (a b : List Shown) → count_in place (places_shown (a ++ b)) ≡ count_in place (places_shown a) + count_in place (places_shown b)
count_two place a b = ap (count_in place) (shown-append a b) ∙ count_in-append place (places_shown a) (places_shown b)

abbrev within : List ℕ → List ℕ → Bool
within [] b = true
within (x ∷ a) b = cond (among x b) (within a b) false

-- the places of one list are among those of another
-- the places of one list are among those of another
pub within_is : (a b : List ℕ) → within a b ≡ true → (w : ℕ) → Among w a → among w b ≡ true
within_is [] b e w h = absurd h
within_is (x ∷ a) b e w h =
    elim (if_is (among x b) (within a b) false true e) [
      | inr c ↦ absurd cc
      | inl c ↦ elim h [ inl s ↦ ap (λ (n : ℕ). among n b) s ∙ c.0 | inr m ↦ within_is a b c.1 w m ]
    ]

-- the lines below one, counted, where the places that are counted are those of the part
pub counted_below : {A : Type 0} (part : List ℕ) (place : ℕ) (p : Rows A) → among 23 part ≡ true → nat_eq 23 place ≡ false → among place part ≡ true → within p.has part ≡ true → within part p.has ≡ true → ((x : A) (before : List ℕ) (w : ℕ) (more : List ℕ) → places_shown (p.shows x) ≡ before ++ w ∷ more → Among w p.has) → (x : A) (front rest : List Row) → Match shows_operands front (p.shows x) → IsLineFree p rest → count_lines part place (front ++ rest) ≡ count_in place (places_shown (p.shows x))
counted_below part place p labels_in no_labels there inner outer inside x front rest match free =
    counted part place labels_in no_labels shows_operands p x front rest (yes_among place part there)
    (λ before w more e. within_is p.has part inner w (inside x before w more e)) match
    (λ w h k. free w h (yes_among w p.has (within_is part p.has outer w k)))

-- nothing is asked of the lines that follow an instruction or a label line
code_others : (v : Sizes) (instances : ℕ) (w : Word) → place_of w ≡ 23 → (row : Row) (after : List Row) → others v instances row after w ≡ []
code_others v instances words.Method here row after = absurd (omega arith)
code_others v instances words.Instance here row after = absurd (omega arith)
code_others v instances words.Class here row after = absurd (omega arith)
code_others v instances words.Trait here row after = absurd (omega arith)
code_others v instances _ here row after = refl

-- ---- parts below others

module _ (v : Sizes) (instances : ℕ) (given : Type 0) (r : Rules)
    (own_is : (w : Word) (labels : List Label) (tokens : List Token) → r.own w labels tokens ≡ own v instances w labels tokens)
    (others_are : (row : Row) (after : List Row) (w : Word) → r.others row after w ≡ others v instances row after w)
    (extra_none : (row : Row) (after : List Row) → ¬ (row.word ≡ words.Body) → r.extra row after ≡ []) (n : ℕ) where
  abbrev fs : Faults
  fs = faults_by_rules r

  other_word : (w u : Word) → ¬ (place_of u ≡ place_of w) → (row : Row) → row.word ≡ u → ¬ (row.word ≡ w)
  other_word w u differ row e f = differ (ap place_of (sym e ∙ f))

  -- nothing is asked of the lines that follow a line of this word
  pub free_word : (w : Word) → ¬ (place_of w ≡ 22) → ((row : Row) (after : List Row) → others v instances row after w ≡ []) → (row : Row) (after : List Row) → row.word ≡ w → (r.others row after w ≡ []) × (r.extra row after ≡ [])
  free_word w differ none_ row after e = (others_are row after w ∙ none_ row after, extra_none row after (other_word words.Body w differ row e))

  metadata_part-lawful : Lawful given shows_operands fs n (closed_to skipped_words (flat_lines fs words.TraitMetadata (trait_metadata_line v) n))
  metadata_part-lawful = closed-lawful given shows_operands fs n skipped_words (flat_lines fs words.TraitMetadata (trait_metadata_line v) n) (flat-lawful given r words.TraitMetadata (trait_metadata_line v) (λ e. absurd (omega arith)) (own_is words.TraitMetadata) (free_word words.TraitMetadata (λ e. absurd (omega arith)) (λ row after. refl)) (trait_metadata-are v) n)

  metadata_count : (y : List ℕ) (front rest : List Row) → Match shows_operands front ((flat_lines fs words.TraitMetadata (trait_metadata_line v) n).shows y) → IsLineFree (closed_to skipped_words (flat_lines fs words.TraitMetadata (trait_metadata_line v) n)) rest → count_lines trait_part 19 (front ++ rest) ≡ length y
  metadata_count y front rest match free =
      counted_below trait_part 19 (closed_to skipped_words (flat_lines fs words.TraitMetadata (trait_metadata_line v) n)) refl refl refl refl refl metadata_part-lawful.inside y front rest match free
      ∙ flat_count words.TraitMetadata (trait_metadata_line v) y

  trait_agrees : Agrees given r words.Trait (trait_line v) (MetadataAgrees v instances) (closed_to skipped_words (flat_lines fs words.TraitMetadata (trait_metadata_line v) n))
  trait_agrees = record {
    fits = λ all row front rest y word c match fit free.
        let attrs = ((trait_line v).value row.labels row.operands).attrs in
        let none_ : count_unless (trait_counts attrs (front ++ rest)) ≡ [] = sym (others_are row (front ++ rest) words.Trait) ∙ ap (λ (w : Word). r.others row (front ++ rest) w) (sym word) ∙ c.others in
        ap (λ (k : ℕ). has_flag attrs 4 || nat_eq k 0) (sym (metadata_count y front rest match free)) ∙ count_fine (trait_counts attrs (front ++ rest)) none_;
    again = λ row front rest y word a match fit free.
        let attrs = ((trait_line v).value row.labels row.operands).attrs in
        let fine : trait_counts attrs (front ++ rest) ≡ true = ap (λ (k : ℕ). has_flag attrs 4 || nat_eq k 0) (metadata_count y front rest match free) ∙ a in
        (others_are row (front ++ rest) words.Trait ∙ ap count_unless fine, extra_none row (front ++ rest) (other_word words.Body words.Trait (λ e. absurd (omega arith)) row word));
  }

  pub traits-lawful : Lawful given shows_operands fs n (traits v instances fs n)
  unfolding traits
  traits-lawful =
      image-lawful given shows_operands fs n _ _ (many fs (lines_of_word words.Trait (trait_line v) (MetadataAgrees v instances)) (closed_to skipped_words (flat_lines fs words.TraitMetadata (trait_metadata_line v) n)) n)
      (map_back _ _ (λ x. refl)) (map_back _ _ (λ t. refl))
      (many-lawful given shows_operands fs (lines_of_word words.Trait (trait_line v) (MetadataAgrees v instances)) (closed_to skipped_words (flat_lines fs words.TraitMetadata (trait_metadata_line v) n))
      (line-keeps given r words.Trait (trait_line v) (MetadataAgrees v instances) (closed_to skipped_words (flat_lines fs words.TraitMetadata (trait_metadata_line v) n)) (λ e. absurd (omega arith)) (own_is words.Trait) (trait-are v) trait_agrees)
      (λ e. absurd (omega arith)) (λ a. apart (18 ∷ []) trait_part refl 18 (inl refl) a) metadata_part-lawful.inside n metadata_part-lawful)

  pub traits_starts : (traits v instances fs n).starts ≡ 18 ∷ []
  unfolding traits
  traits_starts = refl

  pub traits_has : (traits v instances fs n).has ≡ 18 ∷ 19 ∷ skipped_words
  unfolding traits
  traits_has = refl

  code-lawful : Lawful given shows_operands fs n (code_rows fs (instructions v instances) 0)
  code-lawful =
      code_is-lawful given r opcode_of instruction_operands (instrs.Plain 0) (λ op. own_is (words.Instruction op)) (own_is words.Label)
      (λ row after here. (others_are row after row.word ∙ code_others v instances row.word here row after, extra_none row after (λ e. absurd (let at : 23 ≡ 22 = sym here ∙ ap place_of e in omega arith))))
      instruction-are opcode_is n

  abbrev pub open_below : Rows (List Instr × (List Handler × List TraitInfo))
  open_below = both_rows (code_rows fs (instructions v instances) 0) (both_rows (flat_lines fs words.Catch (catch_line v) n) (traits v instances fs n))

  pub open_below-lawful : Lawful given shows_operands fs n open_below
  open_below-lawful =
      both-lawful given shows_operands fs n (code_rows fs (instructions v instances) 0) (both_rows (flat_lines fs words.Catch (catch_line v) n) (traits v instances fs n)) code-lawful
      (both-lawful given shows_operands fs n (flat_lines fs words.Catch (catch_line v) n) (traits v instances fs n)
      (flat-lawful given r words.Catch (catch_line v) (λ e. absurd (omega arith)) (own_is words.Catch) (free_word words.Catch (λ e. absurd (omega arith)) (λ row after. refl)) (catch-are v) n)
      traits-lawful
      (λ w a b. apart (18 ∷ []) (24 ∷ []) refl w (subst (λ (l : List ℕ). Among w l) traits_starts a) b))
      (λ w a b. apart (24 ∷ 18 ∷ []) (23 ∷ []) refl w (subst (λ (l : List ℕ). Among w (24 ∷ l)) traits_starts a) b)

  pub open_has : open_below.has ≡ 23 ∷ 24 ∷ 18 ∷ 19 ∷ skipped_words
  unfolding traits
  open_has = refl

  pub body_below-lawful : Lawful given shows_operands fs n (body_below v instances fs n)
  unfolding body_below
  body_below-lawful = closed-lawful given shows_operands fs n body_part open_below open_below-lawful

  -- no line below a body stands at another place
  pub body_below_none : (place : ℕ) → among place (23 ∷ 24 ∷ 18 ∷ 19 ∷ skipped_words) ≡ false → (y : List Instr × (List Handler × List TraitInfo)) → count_in place (places_shown ((body_below v instances fs n).shows y)) ≡ 0
  unfolding body_below
  body_below_none place other y =
      count_in-none place (places_shown (open_below.shows y)) open_below.has (open_below-lawful.inside y)
      (λ h. let yes : among place (23 ∷ 24 ∷ 18 ∷ 19 ∷ skipped_words) ≡ true = among_yes place (23 ∷ 24 ∷ 18 ∷ 19 ∷ skipped_words) (subst (λ (l : List ℕ). Among place l) open_has h) in cc)
