-- Code, line by line.
use Rattle.std.proofs.Common.{◌≡◌, ℕ, ◌+◌, ◌-◌, ◌^◌, min, true, false, nat_eq, List, [], ◌∷◌, ◌++◌, length, Ok, Err, Some, None, refl, sym, ap, subst, ◌∙◌, append_assoc, append-nil, arith}
use Rattle.std.specs.declared.option.Option.{Option}
use Rattle.std.specs.declared.result.Result.{Result}
use Rattle.abc_text_lines.specs.declared.reason.AsmReason.{AsmReason}
use Rattle.abc_text_lines.specs.declared.word.Word.{Word}
use Rattle.abc_text_lines.specs.declared.word.Word.TheVariants as words
use Rattle.abc_text_lines.specs.Reasons.{least}
use Rattle.abc_text_lines.specs.Words.{place_of}
use Rattle.abc_file_types.specs.CodeBytes.{code_len, instr_len}
use Rattle.abc_file_types.specs.declared.code.Instr.{Instr}
use Rattle.abc_file_types.proofs.Lengths.{len-append}
use Rattle.abc_file_types.specs.declared.tables.Sizes.{Sizes}
use Rattle.abc_text_lines.specs.Lines.{Row}
use Rattle.abc_text_lines.specs.Rows.{Fault, instruction_first, code_reads, fault, is_label, unless}
use Rattle.abc_text_lines.proofs.Pieces.{unless_ok}
use Rattle.abc_text_lines.specs.File.{faults, instructions}
use Rattle.abc_text_reader.specs.declared.error.AsmError.{AsmError}
use Rattle.abc_text_reader.specs.declared.error.AsmError.TheVariants as errors
use Rattle.abc_text_reader.specs.declared.reader.Reader.{Reader}
use Rattle.abc_text_reader.specs.Parts.{GivesPart, ReadsItem, ReadsTextPart}
use Rattle.abc_text_reader.specs.Reading.{Goes, IsReader, rows_left, word_next}
use Rattle.abc_text_reader.proofs.Loops.{first_row_of, no_rows}
use Rattle.abc_text_reader.specs.Coded.{IsCoding, code_front, code_read, instruction_read, label_read}

abbrev Coded : Type 0
Coded = Result (List Instr × List Row) Fault

front_none : (r : Coded) → code_front [] r ≡ r
front_none (Ok x) = refl
front_none (Err f) = refl

front_more : (xs : List Instr) (x : Instr) (r : Coded) → code_front xs (instruction_first false x r) ≡ code_front (xs ++ x ∷ []) r
front_more xs x (Ok y) = ap (λ (l : List Instr). let z : Coded = Ok (l, y.1) in z) (sym (append_assoc xs (x ∷ []) y.0))
front_more xs x (Err e) = refl

abbrev read_as : {A : Type 0} → A → List Row → Result (A × List Row) Fault
read_as a l = Ok (a, l)

same_pair : {A : Type 0} (x y : A × List Row) → read_as x.0 x.1 ≡ read_as y.0 y.1 → x ≡ y
same_pair x y e = cc

same_rest : {A : Type 0} (a b : A) (xs ys : List Row) → read_as a xs ≡ read_as b ys → xs ≡ ys
same_rest {A} a b xs ys e = ap (λ (z : A × List Row). z.1) (same_pair (a, xs) (b, ys) e)

same_value : {A : Type 0} (a b : A) (xs ys : List Row) → read_as a xs ≡ read_as b ys → a ≡ b
same_value {A} a b xs ys e = ap (λ (z : A × List Row). z.0) (same_pair (a, xs) (b, ys) e)

unless_fails : {A : Type 0} (p : Option AsmReason) (line : ℕ) (x : A) (r : Coded) (f : Fault) → unless p line (Ok x) ≡ Err f → unless p line r ≡ Err f
unless_fails None line x r f e = absurd cc
unless_fails (Some s) line x r f e = let same : fault line s ≡ f = cc in let bad : Fault → Coded = λ g. Err g in ap bad same

module _ (v : Sizes) (i : ℕ) where
  abbrev code : List Row → Coded
  code rows = code_reads (faults v i) (instructions v i) rows

  abbrev o : Row → List Row → Option AsmReason
  o row rows = least (faults v i row rows)

  abbrev value : Row → Instr
  value row = (instructions v i).value row

  at_code : (row : Row) (rows : List Row) → nat_eq (place_of row.word) 23 ≡ true → code (row ∷ rows) ≡ unless (o row rows) row.number (instruction_first (is_label row.word) (value row) (code rows))
  at_code row rows e = rw e refl

  at_label : (row : Row) (rows : List Row) → row.word ≡ words.Label → code (row ∷ rows) ≡ unless (o row rows) row.number (code rows)
  at_label row rows e = at_code row rows (ap (λ (w : Word). nat_eq (place_of w) 23) e) ∙ ap (λ (w : Word). unless (o row rows) row.number (instruction_first (is_label w) (value row) (code rows))) e

  at_instruction : (op : ℕ) (row : Row) (rows : List Row) → row.word ≡ words.Instruction op → code (row ∷ rows) ≡ unless (o row rows) row.number (instruction_first false (value row) (code rows))
  at_instruction op row rows e = at_code row rows (ap (λ (w : Word). nat_eq (place_of w) 23) e) ∙ ap (λ (w : Word). unless (o row rows) row.number (instruction_first (is_label w) (value row) (code rows))) e

  at_other : (row : Row) (rows : List Row) → nat_eq (place_of row.word) 23 ≡ false → code (row ∷ rows) ≡ Ok ([], row ∷ rows)
  at_other row rows e = rw e refl

  fails_at : {A : Type 0} (row : Row) (rows : List Row) (f : Fault) (r : Coded) (x : A) → unless (o row rows) row.number (read_as x rows) ≡ Err f → unless (o row rows) row.number r ≡ Err f
  fails_at row rows f r x e = unless_fails (o row rows) row.number (x, rows) r f e

module _ (old : Reader) where
  abbrev all : List Row → Coded
  all rows = code old.sizes old.instances rows

  pub begins : IsReader old → IsCoding [] old old
  begins is = record { goes = record { is = is; sizes = refl; instances = refl; fewer = omega arith }; reads = front_none (all (rows_left old)) }

  module _ (xs : List Instr) (mid : Reader) (coding : IsCoding xs old mid) (row : Row) (rows : List Row) (e : rows_left mid ≡ row ∷ rows) where
    abbrev lines : ℕ
    lines = length (rows_left mid)

    abbrev first : Option AsmReason
    first = o old.sizes old.instances row rows

    abbrev one : Instr
    one = value old.sizes old.instances row

    goes_on_from : (new : Reader) → Goes mid new → Goes old new
    goes_on_from new goes = let a = coding.goes in let le = a.fewer in let ge = goes.fewer in record { is = goes.is; sizes = goes.sizes ∙ a.sizes; instances = goes.instances ∙ a.instances; fewer = omega arith }

    label_here : (new : Reader) (result : Result (Unit {0}) AsmError) → ReadsItem label_read mid new result → GivesPart (rows_left new) result (unless first row.number (Ok (tt, rows)))
    label_here new result reads =
        subst (λ (k : ℕ). GivesPart (rows_left new) result (label_read old.sizes k 0 row rows)) coding.goes.instances
        (subst (λ (z : Sizes). GivesPart (rows_left new) result (label_read z mid.instances 0 row rows)) coding.goes.sizes (reads lines row rows (omega arith) e))

    instr_here : (new : Reader) (result : Result Instr AsmError) → ReadsItem instruction_read mid new result → GivesPart (rows_left new) result (unless first row.number (Ok (one, rows)))
    instr_here new result reads =
        subst (λ (k : ℕ). GivesPart (rows_left new) result (instruction_read old.sizes k 0 row rows)) coding.goes.instances
        (subst (λ (z : Sizes). GivesPart (rows_left new) result (instruction_read z mid.instances 0 row rows)) coding.goes.sizes (reads lines row rows (omega arith) e))

    pub label_more : (new : Reader) → row.word ≡ words.Label → Goes mid new → ReadsItem label_read mid new (Ok tt) → IsCoding xs old new
    label_more new word goes reads =
        let u = unless_ok first row.number (Ok (tt, rows)) (tt, rows_left new) (label_here new (Ok tt) reads) in
        let none : first ≡ None = u.0 in
        let rest : rows ≡ rows_left new = same_rest {A = Unit {0}} tt tt rows (rows_left new) u.1 in
        let here : all (rows_left mid) ≡ all (rows_left new) =
        ap all e ∙ at_label old.sizes old.instances row rows word ∙ ap (λ (p : Option AsmReason). unless p row.number (all rows)) none ∙ ap all rest in
        record { goes = goes_on_from new goes; reads = ap (code_front xs) (sym here) ∙ coding.reads }

    pub instr_more : (new : Reader) (op : ℕ) (x : Instr) → row.word ≡ words.Instruction op → Goes mid new → ReadsItem instruction_read mid new (Ok x) → IsCoding (xs ++ x ∷ []) old new
    instr_more new op x word goes reads =
        let u = unless_ok first row.number (Ok (one, rows)) (x, rows_left new) (instr_here new (Ok x) reads) in
        let none : first ≡ None = u.0 in
        let same : one ≡ x = same_value one x rows (rows_left new) u.1 in
        let rest : rows ≡ rows_left new = same_rest one x rows (rows_left new) u.1 in
        let here : all (rows_left mid) ≡ instruction_first false x (all (rows_left new)) =
        ap all e ∙ at_instruction old.sizes old.instances op row rows word ∙ ap (λ (p : Option AsmReason). unless p row.number (instruction_first false one (all rows))) none
        ∙ ap (λ (y : Instr). instruction_first false y (all rows)) same ∙ ap (λ (l : List Row). instruction_first false x (all l)) rest in
        record { goes = goes_on_from new goes; reads = sym (front_more xs x (all (rows_left new))) ∙ ap (code_front xs) (sym here) ∙ coding.reads }

    failed : (f : Fault) → all (row ∷ rows) ≡ Err f → all (rows_left old) ≡ Err f
    failed f is = sym (ap (code_front xs) (sym (ap all e ∙ is)) ∙ coding.reads)

    pub label_fails : (new : Reader) (d : AsmError) → row.word ≡ words.Label → ReadsItem label_read mid new (Err d) → ReadsTextPart code_read old new (Err d)
    label_fails new (errors.Refused line reason) word reads n le =
        failed (fault line reason) (at_label old.sizes old.instances row rows word ∙ fails_at old.sizes old.instances row rows (fault line reason) (all rows) tt (label_here new (Err (errors.Refused line reason)) reads))
    label_fails new errors.NoMemory word reads n le = tt

    pub instr_fails : (new : Reader) (op : ℕ) (d : AsmError) → row.word ≡ words.Instruction op → ReadsItem instruction_read mid new (Err d) → ReadsTextPart code_read old new (Err d)
    instr_fails new op (errors.Refused line reason) word reads n le =
        failed (fault line reason) (at_instruction old.sizes old.instances op row rows word ∙ fails_at old.sizes old.instances row rows (fault line reason) (instruction_first false one (all rows)) one (instr_here new (Err (errors.Refused line reason)) reads))
    instr_fails new op errors.NoMemory word reads n le = tt

    pub ends_at : nat_eq (place_of row.word) 23 ≡ false → ReadsTextPart code_read old mid (Ok xs)
    ends_at other n le =
        sym (ap (λ (l : List Row). code_front xs (all l)) (sym e) ∙ coding.reads)
        ∙ ap (code_front xs) (at_other old.sizes old.instances row rows other)
        ∙ ap (λ (l : List Instr). let z : Coded = Ok (l, row ∷ rows) in z) (append-nil xs)
        ∙ ap (λ (l : List Row). let z : Coded = Ok (xs, l) in z) (sym e)

  pub ends_empty : (xs : List Instr) (mid : Reader) → IsCoding xs old mid → rows_left mid ≡ [] → ReadsTextPart code_read old mid (Ok xs)
  ends_empty xs mid coding e n le =
      sym (ap (λ (l : List Row). code_front xs (all l)) (sym e) ∙ coding.reads)
      ∙ ap (λ (l : List Instr). let z : Coded = Ok (l, []) in z) (append-nil xs)
      ∙ ap (λ (l : List Row). let z : Coded = Ok (xs, l) in z) (sym e)

-- ---- by what the code knows of the next line

not_code : (w : Word) → ((op : ℕ) → w ≡ words.Instruction op → ⊥) → (w ≡ words.Label → ⊥) → nat_eq (place_of w) 23 ≡ false
not_code (words.Instruction op) no_instruction no_label = absurd (no_instruction op refl)
not_code words.Label no_instruction no_label = absurd (no_label refl)
not_code _ no_instruction no_label = refl

module _ (old : Reader) (xs : List Instr) (mid : Reader) (coding : IsCoding xs old mid) where
  pub next_label : (new : Reader) → word_next (rows_left mid) ≡ Some words.Label → Goes mid new → ReadsItem label_read mid new (Ok tt) → IsCoding xs old new
  next_label new next goes reads = let f = first_row_of (rows_left mid) words.Label next in label_more old xs mid coding f.row f.rows f.is new f.word goes reads

  pub next_label_fails : (new : Reader) (d : AsmError) → word_next (rows_left mid) ≡ Some words.Label → ReadsItem label_read mid new (Err d) → ReadsTextPart code_read old new (Err d)
  next_label_fails new d next reads = let f = first_row_of (rows_left mid) words.Label next in label_fails old xs mid coding f.row f.rows f.is new d f.word reads

  pub next_instruction : (new : Reader) (op : ℕ) (x : Instr) → word_next (rows_left mid) ≡ Some (words.Instruction op) → Goes mid new → ReadsItem instruction_read mid new (Ok x) → IsCoding (xs ++ x ∷ []) old new
  next_instruction new op x next goes reads = let f = first_row_of (rows_left mid) (words.Instruction op) next in instr_more old xs mid coding f.row f.rows f.is new op x f.word goes reads

  pub next_instruction_fails : (new : Reader) (op : ℕ) (d : AsmError) → word_next (rows_left mid) ≡ Some (words.Instruction op) → ReadsItem instruction_read mid new (Err d) → ReadsTextPart code_read old new (Err d)
  next_instruction_fails new op d next reads = let f = first_row_of (rows_left mid) (words.Instruction op) next in instr_fails old xs mid coding f.row f.rows f.is new op d f.word reads

  pub stops : (w : Word) → word_next (rows_left mid) ≡ Some w → ((op : ℕ) → w ≡ words.Instruction op → ⊥) → (w ≡ words.Label → ⊥) → ReadsTextPart code_read old mid (Ok xs)
  stops w next no_instruction no_label =
      let f = first_row_of (rows_left mid) w next in
      ends_at old xs mid coding f.row f.rows f.is (ap (λ (u : Word). nat_eq (place_of u) 23) f.word ∙ not_code w no_instruction no_label)

  pub finishes : word_next (rows_left mid) ≡ None → ReadsTextPart code_read old mid (Ok xs)
  finishes next = ends_empty old xs mid coding (no_rows (rows_left mid) next)

-- ---- how long it is

pub summed_more : (xs : List Instr) (x : Instr) (old one new : ℕ) → old ≡ min (code_len xs) (2 ^ 64 - 1) → one ≡ min (instr_len x) (2 ^ 64 - 1) → new ≡ min (old + one) (2 ^ 64 - 1) → new ≡ min (code_len (xs ++ x ∷ [])) (2 ^ 64 - 1)
summed_more xs x old one new e f g = omega (arith, len-append xs (x ∷ []))
