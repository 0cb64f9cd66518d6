-- Lines that are not of a table are known by their first bytes.
use Rattle.std.proofs.Common.{◌≡◌, ◌⊎◌, inl, inr, ℕ, ◌+◌, ◌<◌, ◌≤◌, Bool, true, false, cond, nat_eq, List, [], ◌∷◌, ◌++◌, codes, length, get_or, set, Some, None, ◌==◌, rules, refl, sym, ap, ◌∙◌, arith}
use Rattle.std.specs.List.{AllByRecursion}
use Rattle.std.specs.Str.{bytes_eq}
use Rattle.std.specs.declared.option.Option.{Option}
use Rattle.std.proofs.lemmas.Slice.Eq.{bytes_eq-Decides}
use Rattle.abc_text_lines.specs.Tokens.{Token, EndsRun, is_run_byte}
use Rattle.abc_text_lines.specs.Scanning.{Between, scan}
use Rattle.abc_text_lines.specs.Words.{place_of}
use Rattle.abc_text_lines.specs.declared.word.Word.{Word}
use Rattle.abc_text_lines.proofs.Bools.{split_bool}
use Rattle.abc_text_lines.proofs.Scans.{eq_is, run_read}
use Rattle.abc_file_types.specs.Opcodes.{names_of_opcodes}
use Rattle.abc_text_lines.specs.Operands.{is_name}
use Rattle.abc_text_lines.specs.Wordlines.{lookup}
use Rattle.abc_text_lines.specs.Texts.{Raw, before_colon, if_name, instruction_in, line_words, lines_in, or_else, raw_in, raws_from, token_word, word_of_text}
use Rattle.abc_text_tokens.specs.Cursor.{Splits, head_in, head_of}
use Rattle.abc_text_tokens.specs.Counts.{count_all_raws, is_table}
use Rattle.abc_text_tokens.specs.Tables.{IsOfNoTable, StandsAt, word_at_place, may_begin, of_line}
use Rattle.abc_text_tokens.proofs.Counted.{one_set}

-- ---- words

-- places that differ
apart : (p k : ℕ) → is_table p ≡ false → is_table k ≡ true → ◌≡◌ {A = ℕ} (cond (nat_eq p k) 1 0) 0
apart p k off is =
    elim (split_bool (nat_eq p k)) [
      | inl e ↦ let never : false ≡ true = sym off ∙ ap is_table (eq_is p k e) ∙ is in absurd cc
      | inr e ↦ rw e refl
    ]

-- a word of no table, or another one
abbrev IsOther : List ℕ → List ℕ × Word → Type 0
IsOther w row = (is_table (place_of row.1) ≡ false) ⊎ (bytes_eq row.0 w ≡ false)

no_row : (rows : List (List ℕ × Word)) (w : List ℕ) (other : Word) (k : ℕ) → is_table k ≡ true → AllByRecursion (IsOther w) rows → word_at_place k (Some other) ≡ 0 → word_at_place k (Some (or_else (lookup rows w) other)) ≡ 0
no_row [] w other k is all last = last
no_row (row ∷ rows) w other k is all last =
    elim (split_bool (bytes_eq row.0 w)) [
      | inl e ↦ elim all.0 [
        | inl off ↦ rw e (apart (place_of row.1) k off is)
        | inr f ↦ let never : true ≡ false = sym e ∙ f in absurd cc
      ]
      | inr e ↦ rw e (no_row rows w other k is all.1 last)
    ]

no_instruction : (rows : List (ℕ × List ℕ)) (w : List ℕ) (other : Word) (k : ℕ) → is_table k ≡ true → word_at_place k (Some other) ≡ 0 → word_at_place k (Some (or_else (instruction_in rows w) other)) ≡ 0
no_instruction [] w other k is last = last
no_instruction (row ∷ rows) w other k is last =
    elim (split_bool (bytes_eq row.1 w)) [
      | inl e ↦ rw e (apart 23 k refl is)
      | inr e ↦ rw e (no_instruction rows w other k is last)
    ]

no_name : (o : Option (List ℕ)) (k : ℕ) → is_table k ≡ true → word_at_place k (Some (if_name o)) ≡ 0
no_name None k is = apart 25 k refl is
no_name (Some name) k is =
    elim (split_bool (is_name name)) [
      | inl e ↦ rw e (apart 23 k refl is)
      | inr e ↦ rw e (apart 25 k refl is)
    ]

other_word : (w : List ℕ) (k : ℕ) → is_table k ≡ true → AllByRecursion (IsOther w) line_words → word_at_place k (Some (word_of_text w)) ≡ 0
unfolding word_of_text
other_word w k is all = no_row line_words w (or_else (instruction_in names_of_opcodes w) (if_name (before_colon w))) k is all (no_instruction names_of_opcodes w (if_name (before_colon w)) k is (no_name (before_colon w) k is))

-- ---- first bytes

abbrev first_three : List ℕ → Bool
first_three (a ∷ b ∷ c ∷ bytes) = may_begin a b c
first_three _ = true

never : (word w rest line : List ℕ) → line ≡ w ++ rest → first_three line ≡ false → ((r : List ℕ) → first_three (word ++ r) ≡ true) → bytes_eq word w ≡ false
never word w rest line is off begins =
    elim (split_bool (bytes_eq word w)) [
      | inl e ↦
          let same : word ≡ w = (bytes_eq-Decides word w).0 e in
          let both : false ≡ true = sym off ∙ ap first_three (is ∙ ap (λ (l : List ℕ). l ++ rest) (sym same)) ∙ begins rest in
          absurd cc
      | inr e ↦ e
    ]

ns_begins : (r : List ℕ) → first_three (codes "ns" ++ r) ≡ true
ns_begins [] = refl
ns_begins (c ∷ r) = refl

others : (w rest line : List ℕ) → line ≡ w ++ rest → first_three line ≡ false → AllByRecursion (IsOther w) line_words
others w rest line is off =
    let differs : (word : List ℕ) → ((r : List ℕ) → first_three (word ++ r) ≡ true) → bytes_eq word w ≡ false = λ word. never word w rest line is off in
    (inl refl, (inr (differs (codes "int") (λ r. refl)), (inr (differs (codes "uint") (λ r. refl)), (inr (differs (codes "double") (λ r. refl)), (inr (differs (codes "string") (λ r. refl)), (inr (differs (codes "ns") ns_begins), (inr (differs (codes "set") (λ r. refl)), (inr (differs (codes "name") (λ r. refl)), (inr (differs (codes "method") (λ r. refl)), (inl refl, (inl refl, (inl refl, (inr (differs (codes "metadata") (λ r. refl)), (inl refl, (inr (differs (codes "instance") (λ r. refl)), (inl refl, (inl refl, (inl refl, (inl refl, (inl refl, (inr (differs (codes "class") (λ r. refl)), (inl refl, (inl refl, (inl refl, tt))))))))))))))))))))))))

-- ---- the run at the front of a line

record Front (bytes : List ℕ) : Type 0 where
  word : List ℕ
  rest : List ℕ
  is : bytes ≡ word ++ rest
  all : AllByRecursion (λ byte. is_run_byte byte ≡ true) word
  ends : EndsRun rest

front_of : (bytes : List ℕ) → Front bytes
front_of [] = record { word = []; rest = []; is = refl; all = tt; ends = tt }
front_of (b ∷ bytes) =
    elim (split_bool (is_run_byte b)) [
      | inl e ↦ let f = front_of bytes in record { word = b ∷ f.word; rest = f.rest; is = ap (λ (l : List ℕ). b ∷ l) f.is; all = (e, f.all); ends = f.ends }
      | inr e ↦ record { word = []; rest = b ∷ bytes; is = refl; all = tt; ends = e }
    ]

headed : (b : ℕ) (bytes : List ℕ) (f : Front bytes) → is_run_byte b ≡ true → of_line (b ∷ bytes) ≡ Some (word_of_text (b ∷ f.word))
headed b bytes f e =
    let run = run_read (b ∷ f.word) f.rest (record { some = λ off. absurd cc; bytes = (e, f.all); longest = f.ends }) in
    ap (λ (l : List ℕ). of_line (b ∷ l)) f.is ∙ ap head_in run

-- a line that begins with a run, by its first bytes
pub passed : (line : List ℕ) → 3 ≤ length line → is_run_byte (get_or line 0 0) ≡ true → may_begin (get_or line 0 0) (get_or line 1 0) (get_or line 2 0) ≡ false → IsOfNoTable line
passed [] len run off = absurd (omega arith)
passed (a ∷ []) len run off = absurd (omega arith)
passed (a ∷ b ∷ []) len run off = absurd (omega arith)
passed (a ∷ b ∷ c ∷ bytes) len run off =
    let f = front_of (b ∷ c ∷ bytes) in λ k is.
    ap (word_at_place k) (headed a (b ∷ c ∷ bytes) f run)
    ∙ other_word (a ∷ f.word) k is (others (a ∷ f.word) f.rest (a ∷ b ∷ c ∷ bytes) (ap (λ (l : List ℕ). a ∷ l) f.is) off)

-- ---- where lines stand

pub stands : (line : List ℕ) (o : Option Word) (w : Word) (p : ℕ) → o ≡ of_line line → o ≡ Some w → p ≡ place_of w → p < 26 → StandsAt line (Some p)
stands line o w p is some place lt = (lt, λ k. ap (word_at_place k) (sym is ∙ some) ∙ ap (λ (n : ℕ). cond (nat_eq n k) 1 0) (sym place))

pub stands_nowhere : (line : List ℕ) (o : Option Word) → o ≡ of_line line → o ≡ None → IsOfNoTable line
stands_nowhere line o is none = λ k table. ap (word_at_place k) (sym is ∙ none)

-- ---- one line further

zero_plus : (n : ℕ) → n ≡ 0 + n
zero_plus n = omega arith

first_or : (t : Bool) (n : ℕ) → cond t (1 + n) n ≡ cond t 1 0 + n
first_or true n = refl
first_or false n = zero_plus n

of_tokens : (k n : ℕ) (tokens : List Token) (broken : Bool) (raws : List Raw) → count_all_raws k (raw_in n broken tokens ++ raws) ≡ word_at_place k (head_of tokens broken) + count_all_raws k raws
of_tokens k n [] false raws = zero_plus (count_all_raws k raws)
of_tokens k n [] true raws = first_or (nat_eq 25 k) (count_all_raws k raws)
of_tokens k n (token ∷ tokens) false raws = first_or (nat_eq (place_of (token_word token)) k) (count_all_raws k raws)
of_tokens k n (token ∷ tokens) true raws = first_or (nat_eq (place_of (token_word token)) k) (count_all_raws k raws)

-- the number of the first line does not matter
any_number : (k n m : ℕ) (lines : List (List ℕ)) → count_all_raws k (raws_from n lines) ≡ count_all_raws k (raws_from m lines)
any_number k n m [] = refl
any_number k n m (line ∷ lines) =
    let s = scan line Between in
    of_tokens k n s.tokens s.broken (raws_from (n + 1) lines)
    ∙ ap (λ (c : ℕ). word_at_place k (of_line line) + c) (any_number k (n + 1) (m + 1) lines)
    ∙ sym (of_tokens k m s.tokens s.broken (raws_from (m + 1) lines))

abbrev pub tables_in : ℕ → List ℕ → ℕ
tables_in k text = count_all_raws k (raws_from 1 (lines_in text))

line_counted : (k : ℕ) (text line more : List ℕ) → Splits text line more → tables_in k text ≡ word_at_place k (of_line line) + tables_in k more
line_counted k text line more splits =
    let s = scan line Between in
    ap (count_all_raws k) (splits 1)
    ∙ of_tokens k 1 s.tokens s.broken (raws_from 2 (lines_in more))
    ∙ ap (λ (c : ℕ). word_at_place k (of_line line) + c) (any_number k 2 1 (lines_in more))

pub passed_on : (counts : List ℕ) (k all : ℕ) (text line more : List ℕ) → Splits text line more → IsOfNoTable line → is_table k ≡ true → get_or counts k 0 + tables_in k text ≡ all → get_or counts k 0 + tables_in k more ≡ all
passed_on counts k all text line more splits off is was =
    let here = line_counted k text line more splits in
    let none = off k is in
    omega (arith, here, none, was)

pub counted_on : (counts : List ℕ) (p k all : ℕ) (text line more : List ℕ) → Splits text line more → StandsAt line (Some p) → p < length counts → get_or counts k 0 + tables_in k text ≡ all → get_or (set counts p (get_or counts p 0 + 1)) k 0 + tables_in k more ≡ all
counted_on counts p k all text line more splits stand lt was =
    let here = line_counted k text line more splits ∙ ap (λ (c : ℕ). c + tables_in k more) (stand.1 k) in
    let value = one_set counts p k lt in
    omega (arith, here, value, was)

zero_is : (n : ℕ) → (n == 0) ≡ true → n ≡ 0
zero_is n e = search rules

pub none_left : (k : ℕ) (rest : List ℕ) → (length rest == 0) ≡ true → tables_in k rest ≡ 0
unfolding scan
none_left k [] e = refl
none_left k (b ∷ rest) e = let z = zero_is (length (b ∷ rest)) e in absurd (omega arith)
