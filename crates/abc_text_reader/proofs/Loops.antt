-- Lines of one word, one after the other.
use Rattle.std.proofs.Common.{◌≡◌, ℕ, zero, suc, ◌+◌, ◌-◌, ◌≤◌, ◌<◌, inl, inr, Bool, true, false, cond, nat_eq, List, [], ◌∷◌, ◌++◌, length, Ok, Err, Some, None, refl, sym, ap, subst, ◌∙◌, append_assoc, append-nil, length-append, arith}
use Rattle.std.specs.declared.result.Result.{Result}
use Rattle.abc_text_lines.specs.declared.word.Word.{Word}
use Rattle.abc_text_lines.specs.Words.{place_of}
use Rattle.abc_text_lines.proofs.Bools.{split_bool}
use Rattle.abc_file_types.specs.declared.tables.Sizes.{Sizes}
use Rattle.abc_text_lines.specs.Lines.{Row}
use Rattle.abc_text_lines.proofs.Many.{eq_refl, eq_true}
use Rattle.abc_text_lines.specs.Rows.{Fault, fault, ◌>>=◌}
use Rattle.abc_text_reader.specs.declared.error.AsmError.{AsmError}
use Rattle.abc_text_reader.specs.declared.error.AsmError.TheVariants as errors
use Rattle.abc_text_reader.specs.declared.reader.Reader.{Reader}
use Rattle.abc_text_reader.specs.Reading.{Goes, IsReader, rows_left, word_next}
use Rattle.abc_text_reader.specs.Parts.{ComesNext, Going, BlockItem, ReadsItem, ReadsTextPart, all_items, items_read, with_front}

abbrev Read : Type 0 → Type 0
Read A = Result (List A × List Row) Fault

front_none : {A : Type 0} (r : Read A) → with_front [] r ≡ r
front_none (Ok x) = refl
front_none (Err f) = refl

abbrev and_then : {A : Type 0} → A → Read A → Read A
and_then x r = r >>= λ xs. Ok (x ∷ xs.0, xs.1)

abbrev at_end : {A : Type 0} → List A → List Row → Read A
at_end xs rows = Ok (xs, rows)

front_more : {A : Type 0} (xs : List A) (x : A) (r : Read A) → with_front xs (and_then x r) ≡ with_front (xs ++ x ∷ []) r
front_more {A} xs x (Ok y) = ap (λ (l : List A). at_end l y.1) (sym (append_assoc xs (x ∷ []) y.0))
front_more xs x (Err e) = refl

module _ {A : Type 0} (word : Word) (item : Row → List Row → Result (A × List Row) Fault) where
  no_lines : (n : ℕ) → items_read word item n [] ≡ Ok ([], [])
  no_lines zero = refl
  no_lines (suc n) = refl

  other_line : (n : ℕ) (row : Row) (rows : List Row) → nat_eq (place_of row.word) (place_of word) ≡ false → items_read word item n (row ∷ rows) ≡ Ok ([], row ∷ rows)
  other_line zero row rows e = refl
  other_line (suc n) row rows e = rw e refl

  abbrev then_more : ℕ → Result (A × List Row) Fault → Read A
  then_more n r = r >>= λ x. items_read word item n x.1 >>= λ xs. Ok (x.0 ∷ xs.0, xs.1)

  one_line : (n : ℕ) (row : Row) (rows : List Row) (r : Result (A × List Row) Fault) → nat_eq (place_of row.word) (place_of word) ≡ true → item row rows ≡ r → items_read word item (suc n) (row ∷ rows) ≡ then_more n r
  one_line n row rows r e f = ap (λ (b : Bool). cond b (then_more n (item row rows)) (Ok ([], row ∷ rows))) e ∙ ap (then_more n) f

-- the first of some lines, by its word
pub record FirstRow (l : List Row) (w : Word) : Type 0 where
  pub row : Row
  pub rows : List Row
  pub is : l ≡ row ∷ rows
  pub word : row.word ≡ w

pub first_row_of : (l : List Row) (w : Word) → word_next l ≡ Some w → FirstRow l w
first_row_of [] w e = absurd cc
first_row_of (row ∷ rows) w e = record { row = row; rows = rows; is = refl; word = cc }

pub no_rows : (l : List Row) → word_next l ≡ None → l ≡ []
no_rows [] e = refl
no_rows (row ∷ rows) e = absurd cc

pub comes_next : (l : List Row) (w word : Word) → word_next l ≡ Some w → place_of w ≡ place_of word → ComesNext word l
comes_next [] w word e at = absurd cc
comes_next (row ∷ rows) w word e at = (let same : row.word ≡ w = cc in ap place_of same ∙ at)

place_same : (l : List Row) (w word : Word) (f : FirstRow l w) → place_of w ≡ place_of word → nat_eq (place_of (f.row).word) (place_of word) ≡ true
place_same l w word f at = eq_refl (place_of (f.row).word) (place_of word) (ap place_of f.word ∙ at)

place_differs : (l : List Row) (w word : Word) (f : FirstRow l w) → ¬ (place_of w ≡ place_of word) → nat_eq (place_of (f.row).word) (place_of word) ≡ false
place_differs l w word f differs =
    elim (split_bool (nat_eq (place_of (f.row).word) (place_of word))) [
      | inl e ↦ absurd (differs (sym (ap place_of f.word) ∙ eq_true (place_of (f.row).word) (place_of word) e))
      | inr e ↦ e
    ]

less : (n a b : ℕ) → a + suc b ≤ n → n - a ≡ suc (n - (a + 1))
less n a b le = omega arith

module _ {A : Type 0} (word : Word) (item : BlockItem A) (old : Reader) where
  abbrev one : ℕ → Row → List Row → Result (A × List Row) Fault
  one n = item old.sizes old.instances n

  pub goes_none : IsReader old → Goes old old
  goes_none is = record { is = is; sizes = refl; instances = refl; fewer = omega arith }

  pub starts : IsReader old → Going word item [] old old
  starts is = record {
    goes = goes_none is;
    taken = omega arith;
    reads = λ n le. let z : n - 0 ≡ n = omega arith in front_none (items_read word (one n) (n - 0) (rows_left old)) ∙ ap (λ (k : ℕ). items_read word (one n) k (rows_left old)) z;
  }

  pub goes_on : (mid new : Reader) → Goes old mid → Goes mid new → Goes old new
  goes_on mid new a b = let le = a.fewer in let ge = b.fewer in record { is = b.is; sizes = b.sizes ∙ a.sizes; instances = b.instances ∙ a.instances; fewer = omega arith }

  module _ (xs : List A) (mid : Reader) (going : Going word item xs old mid) where
    -- at the end of the lines
    pub at_last : rows_left mid ≡ [] → ReadsTextPart (all_items word item) old mid (Ok xs)
    at_last e n le =
        sym (going.reads n le)
        ∙ ap (λ (l : List Row). with_front xs (items_read word (one n) (n - length xs) l)) e
        ∙ ap (with_front xs) (no_lines word (one n) (n - length xs))
        ∙ ap (λ (l : List A). at_end l []) (append-nil xs)
        ∙ ap (λ (l : List Row). at_end xs l) (sym e)

    -- before a line of another word
    pub at_other : (row : Row) (rows : List Row) → rows_left mid ≡ row ∷ rows → nat_eq (place_of row.word) (place_of word) ≡ false → ReadsTextPart (all_items word item) old mid (Ok xs)
    at_other row rows e other n le =
        sym (going.reads n le)
        ∙ ap (λ (l : List Row). with_front xs (items_read word (one n) (n - length xs) l)) e
        ∙ ap (with_front xs) (other_line word (one n) (n - length xs) row rows other)
        ∙ ap (λ (l : List A). at_end l (row ∷ rows)) (append-nil xs)
        ∙ ap (λ (l : List Row). at_end xs l) (sym e)

    -- what is read of all, by what the next item is read as
    all_by : (n : ℕ) (row : Row) (rows : List Row) (r : Result (A × List Row) Fault) → length (rows_left old) ≤ n → rows_left mid ≡ row ∷ rows → nat_eq (place_of row.word) (place_of word) ≡ true → one n row rows ≡ r → with_front xs (then_more word (one n) (n - (length xs + 1)) r) ≡ items_read word (one n) n (rows_left old)
    all_by n row rows r le e same is =
        let few : length xs + suc (length rows) ≤ n = let t = going.taken in let l : length (rows_left mid) ≡ suc (length rows) = ap (λ (l : List Row). length l) e in omega arith in
        let k = n - (length xs + 1) in
        let number : n - length xs ≡ suc k = less n (length xs) (length rows) few in
        sym (
        ap (λ (l : List Row). with_front xs (items_read word (one n) (n - length xs) l)) e
        ∙ ap (λ (m : ℕ). with_front xs (items_read word (one n) m (row ∷ rows))) number
        ∙ ap (with_front xs) (one_line word (one n) k row rows r same is)
        )
        ∙ going.reads n le

    -- the next item has a fault
    pub fails : (row : Row) (rows : List Row) (new : Reader) (e : AsmError) → rows_left mid ≡ row ∷ rows → nat_eq (place_of row.word) (place_of word) ≡ true → ReadsItem item mid new (Err e) → ReadsTextPart (all_items word item) old new (Err e)
    fails row rows new (errors.Refused line reason) e same reads n le =
        let few : length (rows_left mid) ≤ n = let t = going.taken in omega arith in
        let here : one n row rows ≡ Err (fault line reason) = subst (λ (i : ℕ). item old.sizes i n row rows ≡ Err (fault line reason)) going.goes.instances (subst (λ (v : Sizes). item v mid.instances n row rows ≡ Err (fault line reason)) going.goes.sizes (reads n row rows few e)) in
        sym (all_by n row rows (Err (fault line reason)) le e same here)
    fails row rows new errors.NoMemory e same reads n le = tt

    -- one item more
    pub one_more : (row : Row) (rows : List Row) (new : Reader) (x : A) → rows_left mid ≡ row ∷ rows → nat_eq (place_of row.word) (place_of word) ≡ true → Goes mid new → length (rows_left new) < length (rows_left mid) → ReadsItem item mid new (Ok x) → Going word item (xs ++ x ∷ []) old new
    one_more row rows new x e same goes ahead reads =
        let longer : length (xs ++ x ∷ []) ≡ length xs + 1 = length-append xs (x ∷ []) in
        let t = going.taken in
        record {
          goes = goes_on mid new going.goes goes;
          taken = omega arith;
          reads = λ n le.
              let few : length (rows_left mid) ≤ n = omega arith in
              let here : one n row rows ≡ Ok (x, rows_left new) = subst (λ (i : ℕ). item old.sizes i n row rows ≡ Ok (x, rows_left new)) going.goes.instances (subst (λ (v : Sizes). item v mid.instances n row rows ≡ Ok (x, rows_left new)) going.goes.sizes (reads n row rows few e)) in
              ap (λ (k : ℕ). with_front (xs ++ x ∷ []) (items_read word (one n) (n - k) (rows_left new))) longer
              ∙ sym (front_more xs x (items_read word (one n) (n - (length xs + 1)) (rows_left new)))
              ∙ all_by n row rows (Ok (x, rows_left new)) le e same here;
        }

    -- the same, by what the code knows of the next line
    pub finishes : word_next (rows_left mid) ≡ None → ReadsTextPart (all_items word item) old mid (Ok xs)
    finishes e = at_last (no_rows (rows_left mid) e)

    pub stops : (w : Word) → word_next (rows_left mid) ≡ Some w → ¬ (place_of w ≡ place_of word) → ReadsTextPart (all_items word item) old mid (Ok xs)
    stops w e differs = let f = first_row_of (rows_left mid) w e in at_other f.row f.rows f.is (place_differs (rows_left mid) w word f differs)

    pub item_fails : (w : Word) (new : Reader) (d : AsmError) → word_next (rows_left mid) ≡ Some w → place_of w ≡ place_of word → ReadsItem item mid new (Err d) → ReadsTextPart (all_items word item) old new (Err d)
    item_fails w new d e at reads = let f = first_row_of (rows_left mid) w e in fails f.row f.rows new d f.is (place_same (rows_left mid) w word f at) reads

    pub goes_further : (w : Word) (new : Reader) (x : A) → word_next (rows_left mid) ≡ Some w → place_of w ≡ place_of word → Goes mid new → length (rows_left new) < length (rows_left mid) → ReadsItem item mid new (Ok x) → Going word item (xs ++ x ∷ []) old new
    goes_further w new x e at goes ahead reads = let f = first_row_of (rows_left mid) w e in one_more f.row f.rows new x f.is (place_same (rows_left mid) w word f at) goes ahead reads
