-- Finding the word of a line.
use Rattle.std.proofs.Common.{◌≡◌, ℕ, suc, ◌+◌, ◌-◌, ◌<◌, ◌≤◌, Bool, true, false, cond, List, [], ◌∷◌, length, map, drop, take, nat_eq, get_or, Some, None, refl, sym, ap, ◌∙◌, inl, inr, add-one, arith}
use Rattle.std.proofs.Math.Seq.{drop-cons}
use Rattle.std.proofs.lemmas.Slice.Eq.{bytes_eq-Decides}
use Rattle.std.specs.List.{list_all, position_or_len}
use Rattle.std.specs.Option.{is_none, unwrap_or}
use Rattle.std.specs.Str.{bytes_eq}
use Rattle.std.specs.declared.option.Option.{Option}
use Rattle.abc_text_lines.specs.declared.word.Word.{Word}
use Rattle.abc_text_lines.specs.declared.word.Word.TheVariants as words
use Rattle.abc_text_lines.proofs.Bools.{and_true, if_is, split_bool}
use Rattle.abc_file_types.specs.Opcodes.{name_at, names_of_opcodes}
use Rattle.abc_text_lines.specs.Wordlines.{lookup}
use Rattle.abc_text_lines.specs.Texts.{before_colon, if_name, instruction_in, line_words, or_else, word_of_text}
use Rattle.abc_text_tokens.specs.Names.{before_blank, either_of, first_named, opcode_from, opcode_of_name, without_blanks}

-- ---- a table of kinds

pub other_row : {K : Type 0} (rows : List (List ℕ × K)) (i : ℕ) (word : List ℕ) (d : List ℕ × K) → i < length rows → bytes_eq (before_blank (get_or rows i d).0) word ≡ false → lookup (map without_blanks (drop i rows)) word ≡ lookup (map without_blanks (drop (i + 1) rows)) word
other_row {K} rows i word d lt differs =
    let cut : drop i rows ≡ get_or rows i d ∷ drop (i + 1) rows = rw add-one (drop-cons rows i d lt) in
    ap (λ (l : List (List ℕ × K)). lookup (map without_blanks l) word) cut ∙ rw differs refl

pub this_row : {K : Type 0} (rows : List (List ℕ × K)) (i : ℕ) (word : List ℕ) (d : List ℕ × K) → i < length rows → bytes_eq (before_blank (get_or rows i d).0) word ≡ true → lookup (map without_blanks (drop i rows)) word ≡ Some (get_or rows i d).1
this_row {K} rows i word d lt same =
    let cut : drop i rows ≡ get_or rows i d ∷ drop (i + 1) rows = rw add-one (drop-cons rows i d lt) in
    ap (λ (l : List (List ℕ × K)). lookup (map without_blanks l) word) cut ∙ rw same refl

-- a row whose first byte is another
pub first_differs : (row word : List ℕ) → 0 < length row → 0 < length word → nat_eq (get_or row 0 0) (get_or word 0 0) ≡ false → bytes_eq (before_blank row) word ≡ false
first_differs [] word lt some e = absurd (omega arith)
first_differs (x ∷ row) [] lt some e = absurd (omega arith)
first_differs (x ∷ row) (b ∷ word) lt some e =
    elim (split_bool (nat_eq x 0x20)) [
      | inl t ↦ rw t refl
      | inr t ↦
          let n = position_or_len (λ c. nat_eq c 0x20) row in
          let len : position_or_len (λ c. nat_eq c 0x20) (x ∷ row) ≡ 1 + n = rw t refl in
          let s : 1 + n ≡ suc n = omega arith in
          ap (λ (k : ℕ). bytes_eq (take k (x ∷ row)) (b ∷ word)) (len ∙ s) ∙ (let d = e in rw d refl)
    ]

-- ---- opcodes

pub all_opcodes : (name : List ℕ) → opcode_from 256 0 name ≡ opcode_of_name names_of_opcodes name
unfolding opcode_from name_at
all_opcodes name = refl

either_assoc : (a b c : Option ℕ) → either_of (either_of a b) c ≡ either_of a (either_of b c)
either_assoc (Some n) b c = refl
either_assoc None b c = refl

either_cond : (t : Bool) (op : ℕ) (c : Option ℕ) → either_of (cond t (Some op) None) c ≡ cond t (Some op) c
either_cond true op c = refl
either_cond false op c = refl

-- one more opcode, with a name or without
pub opcode_named : (op : ℕ) (name n : List ℕ) (old new : Option ℕ) → op < 256 → name_at op ≡ Some n → new ≡ either_of old (cond (bytes_eq n name) (Some op) None) → either_of new (opcode_from (256 - (op + 1)) (op + 1) name) ≡ either_of old (opcode_from (256 - op) op name)
unfolding opcode_from
opcode_named op name n old new lt is e =
    let more = opcode_from (256 - (op + 1)) (op + 1) name in
    let step : opcode_from (256 - op) op name ≡ cond (bytes_eq n name) (Some op) more =
    let k : 256 - op ≡ suc (256 - (op + 1)) = omega arith in
    let s : suc op ≡ op + 1 = omega arith in
    ap (λ (m : ℕ). opcode_from m op name) k ∙ ap (λ (m : ℕ). first_named (name_at op) op name (opcode_from (256 - (op + 1)) m name)) s ∙ ap (λ (o : Option (List ℕ)). first_named o op name more) is in
    ap (λ (o : Option ℕ). either_of o more) e ∙ either_assoc old (cond (bytes_eq n name) (Some op) None) more ∙ ap (λ (o : Option ℕ). either_of old o) (either_cond (bytes_eq n name) op more ∙ sym step)

pub opcode_unnamed : (op : ℕ) (name : List ℕ) → op < 256 → name_at op ≡ None → opcode_from (256 - (op + 1)) (op + 1) name ≡ opcode_from (256 - op) op name
unfolding opcode_from
opcode_unnamed op name lt is =
    let more = opcode_from (256 - (op + 1)) (op + 1) name in
    let k : 256 - op ≡ suc (256 - (op + 1)) = omega arith in
    let s : suc op ≡ op + 1 = omega arith in
    sym (ap (λ (m : ℕ). opcode_from m op name) k ∙ ap (λ (m : ℕ). first_named (name_at op) op name (opcode_from (256 - (op + 1)) m name)) s ∙ ap (λ (o : Option (List ℕ)). first_named o op name more) is)

either_none : (o : Option ℕ) → either_of o None ≡ o
either_none (Some n) = refl
either_none None = refl

pub opcode_end : (op : ℕ) (name : List ℕ) (o : Option ℕ) → 256 ≤ op → either_of o (opcode_from (256 - op) op name) ≡ o
unfolding opcode_from
opcode_end op name o le = let k : 256 - op ≡ 0 = omega arith in ap (λ (m : ℕ). either_of o (opcode_from m op name)) k ∙ either_none o

-- ---- words

instruction_some : (rows : List (ℕ × List ℕ)) (name : List ℕ) (op : ℕ) → opcode_of_name rows name ≡ Some op → instruction_in rows name ≡ Some (words.Instruction op)
instruction_some [] name op e = absurd cc
instruction_some (row ∷ rows) name op e =
    elim (if_is (bytes_eq row.1 name) (Some row.0) (opcode_of_name rows name) (Some op) e) [
      | inl p ↦ let t = p.0 in let same : row.0 ≡ op = cc in rw t (ap (λ (n : ℕ). Some (words.Instruction n)) same)
      | inr p ↦ let t = p.0 in rw t (instruction_some rows name op p.1)
    ]

instruction_none : (rows : List (ℕ × List ℕ)) (name : List ℕ) → opcode_of_name rows name ≡ None → instruction_in rows name ≡ None
instruction_none [] name e = refl
instruction_none (row ∷ rows) name e =
    elim (if_is (bytes_eq row.1 name) (Some row.0) (opcode_of_name rows name) None e) [
      | inl p ↦ absurd cc
      | inr p ↦ let t = p.0 in rw t (instruction_none rows name p.1)
    ]

-- no line word is an instruction's name
apart : list_all (λ (row : List ℕ × Word). is_none (opcode_of_name names_of_opcodes row.0)) line_words ≡ true
apart = refl

none_is : {A : Type 0} (o : Option A) (n : A) → is_none o ≡ true → o ≡ Some n → ⊥
none_is (Some m) n e f = absurd cc
none_is None n e f = absurd cc

apart_from : (rows : List (List ℕ × Word)) (word : List ℕ) (op : ℕ) → list_all (λ (row : List ℕ × Word). is_none (opcode_of_name names_of_opcodes row.0)) rows ≡ true → opcode_of_name names_of_opcodes word ≡ Some op → lookup rows word ≡ None
apart_from [] word op all is = refl
apart_from (row ∷ rows) word op all is =
    let both = and_true (is_none (opcode_of_name names_of_opcodes row.0)) (list_all (λ (r : List ℕ × Word). is_none (opcode_of_name names_of_opcodes r.0)) rows) all in
    elim (split_bool (bytes_eq row.0 word)) [
      | inl t ↦ absurd (none_is (opcode_of_name names_of_opcodes row.0) op both.0 (ap (opcode_of_name names_of_opcodes) ((bytes_eq-Decides row.0 word).0 t) ∙ is))
      | inr t ↦ rw t (apart_from rows word op both.1 is)
    ]

pub word_of_opcode : (word : List ℕ) (op : ℕ) → opcode_of_name names_of_opcodes word ≡ Some op → word_of_text word ≡ words.Instruction op
unfolding word_of_text
word_of_opcode word op is = let none = apart_from line_words word op apart is in let some = instruction_some names_of_opcodes word op is in rw (none, some) refl

pub word_of_other : (word : List ℕ) → opcode_of_name names_of_opcodes word ≡ None → word_of_text word ≡ or_else (lookup line_words word) (if_name (before_colon word))
unfolding word_of_text
word_of_other word absent = let none = instruction_none names_of_opcodes word absent in rw none refl

-- ---- words with a colon at their end

line_words_plain : list_all (λ (row : List ℕ × Word). is_none (before_colon row.0)) line_words ≡ true
line_words_plain = refl

named_plain : list_all (λ (row : ℕ × List ℕ). is_none (before_colon row.1)) names_of_opcodes ≡ true
named_plain = refl

no_line_word : (rows : List (List ℕ × Word)) (word name : List ℕ) → list_all (λ (row : List ℕ × Word). is_none (before_colon row.0)) rows ≡ true → before_colon word ≡ Some name → lookup rows word ≡ None
no_line_word [] word name all is = refl
no_line_word (row ∷ rows) word name all is =
    let both = and_true (is_none (before_colon row.0)) (list_all (λ (r : List ℕ × Word). is_none (before_colon r.0)) rows) all in
    elim (split_bool (bytes_eq row.0 word)) [
      | inl t ↦ absurd (none_is (before_colon row.0) name both.0 (ap before_colon ((bytes_eq-Decides row.0 word).0 t) ∙ is))
      | inr t ↦ rw t (no_line_word rows word name both.1 is)
    ]

no_instruction : (rows : List (ℕ × List ℕ)) (word name : List ℕ) → list_all (λ (row : ℕ × List ℕ). is_none (before_colon row.1)) rows ≡ true → before_colon word ≡ Some name → instruction_in rows word ≡ None
no_instruction [] word name all is = refl
no_instruction (row ∷ rows) word name all is =
    let both = and_true (is_none (before_colon row.1)) (list_all (λ (r : ℕ × List ℕ). is_none (before_colon r.1)) rows) all in
    elim (split_bool (bytes_eq row.1 word)) [
      | inl t ↦ absurd (none_is (before_colon row.1) name both.0 (ap before_colon ((bytes_eq-Decides row.1 word).0 t) ∙ is))
      | inr t ↦ rw t (no_instruction rows word name both.1 is)
    ]

pub word_of_label : (word name : List ℕ) → before_colon word ≡ Some name → word_of_text word ≡ if_name (Some name)
unfolding word_of_text
word_of_label word name is = let line = no_line_word line_words word name line_words_plain is in let none = no_instruction names_of_opcodes word name named_plain is in rw (line, none, is) refl

or_unwrap : (o : Option Word) (d : Word) → or_else o d ≡ unwrap_or o d
or_unwrap (Some w) d = refl
or_unwrap None d = refl

pub word_of_plain : (word : List ℕ) → opcode_of_name names_of_opcodes word ≡ None → before_colon word ≡ None → word_of_text word ≡ unwrap_or (lookup line_words word) words.Unknown
word_of_plain word absent plain = word_of_other word absent ∙ ap (λ (o : Option (List ℕ)). or_else (lookup line_words word) (if_name o)) plain ∙ or_unwrap (lookup line_words word) words.Unknown

pub no_word : word_of_text [] ≡ words.Unknown
unfolding word_of_text
no_word = refl
