-- Three parts one after the other, a line that may be missing, bodies, and what is made of lines.
use Rattle.std.proofs.Common.{◌≡◌, ℕ, suc, ◌+◌, ◌-◌, ◌^◌, ◌<◌, ◌≤◌, min, inl, inr, Bool, true, false, cond, nat_eq, nat_le, List, [], ◌∷◌, ◌++◌, length, take, get_or, append_assoc, Ok, Err, Some, None, refl, sym, ap, subst, ◌∙◌, arith}
use Rattle.std.proofs.Math.Seq.{take-suc}
use Rattle.std.proofs.lemmas.Bool.Decides.{nat_tests}
use Rattle.std.proofs.lemmas.List.{get_or_default}
use Rattle.std.specs.Prelude.{slice_get}
use Rattle.std.specs.declared.option.Option.{Option}
use Rattle.std.specs.declared.result.Result.{Result}
use Rattle.abc_text_lines.specs.declared.word.Word.{Word}
use Rattle.abc_text_lines.specs.Words.{place_of}
use Rattle.abc_text_lines.proofs.Bools.{split_bool}
use Rattle.abc_file_types.specs.declared.classes.Instance.{Instance}
use Rattle.abc_file_types.specs.declared.tables.Sizes.{Sizes}
use Rattle.abc_text_lines.specs.Lines.{Row}
use Rattle.abc_text_lines.specs.Rows.{Fault}
use Rattle.abc_text_lines.specs.Answers.{first_in, flat_pairs}
use Rattle.abc_text_lines.specs.File.{ends_body}
use Rattle.abc_text_reader.specs.declared.error.AsmError.{AsmError}
use Rattle.abc_text_reader.specs.declared.error.AsmError.TheVariants as errors
use Rattle.abc_text_reader.specs.declared.reader.Reader.{Reader}
use Rattle.abc_text_reader.specs.Parts.{ComesNext, GivesPart, Going, BlockItem, TextPart, ReadsItem, ReadsTextPart, all_items, mapped_part, pair_of}
use Rattle.abc_text_reader.specs.Reading.{Goes, IsReader, rows_left, word_next}
use Rattle.abc_text_reader.proofs.Loops.{at_last, at_other, fails, one_more}
use Rattle.abc_text_reader.proofs.Pairs.{mapped_err, mapped_ok, pair_first, pair_ok, pair_second}
use Rattle.abc_text_lines.proofs.Many.{eq_true}
use Rattle.abc_text_operands.specs.declared.lines.InstanceHead.{InstanceHead}
use Rattle.abc_asm.specs.Below.{instance_from_below, optional_item}
use Rattle.abc_asm.specs.declared.classes.InstanceBelow.{InstanceBelow}
use Rattle.abc_asm.specs.Coming.{is_next}

-- ---- three parts

module _ {A B C D : Type 0} (f : A × (B × C) → D) (p : TextPart A) (q : TextPart B) (s : TextPart C) (old : Reader) where
  abbrev two : TextPart (B × C)
  two = pair_of q s

  abbrev three : TextPart (A × (B × C))
  three = pair_of p two

  pub first_fails : (new : Reader) (e : AsmError) → ReadsTextPart p old new (Err e) → ReadsTextPart (mapped_part f three) old new (Err e)
  first_fails new e reads = mapped_err f three old new e (pair_first p two old old new e reads)

  module _ (m1 : Reader) (x : A) (first : ReadsTextPart p old m1 (Ok x)) (goes : Goes old m1) where
    pub second_fails : (new : Reader) (e : AsmError) → ReadsTextPart q m1 new (Err e) → ReadsTextPart (mapped_part f three) old new (Err e)
    second_fails new e reads = mapped_err f three old new e (pair_second p two old m1 new x e first goes (pair_first q s m1 m1 new e reads))

    module _ (m2 : Reader) (y : B) (second : ReadsTextPart q m1 m2 (Ok y)) (goes_on : Goes m1 m2) where
      pub third_fails : (new : Reader) (e : AsmError) → ReadsTextPart s m2 new (Err e) → ReadsTextPart (mapped_part f three) old new (Err e)
      third_fails new e reads = mapped_err f three old new e (pair_second p two old m1 new x e first goes (pair_second q s m1 m2 new y e second goes_on reads))

      pub all_read : (new : Reader) (z : C) (d : D) → ReadsTextPart s m2 new (Ok z) → d ≡ f (x, (y, z)) → ReadsTextPart (mapped_part f three) old new (Ok d)
      all_read new z d third made = mapped_ok f three old new (x, (y, z)) d made (pair_ok p two old m1 new x (y, z) first goes (pair_ok q s m1 m2 new y z second goes_on third))

-- ---- the word of the next line

pub next_is : (word w : Word) (l : List Row) → word_next l ≡ Some w → is_next word l ≡ nat_eq (place_of w) (place_of word)
next_is word w [] e = absurd cc
next_is word w (row ∷ rows) e = (let same : row.word ≡ w = cc in ap (λ (u : Word). nat_eq (place_of u) (place_of word)) same)

pub next_none : (word : Word) (l : List Row) → word_next l ≡ None → is_next word l ≡ false
next_none word [] e = refl
next_none word (row ∷ rows) e = absurd cc

pub comes_next : (word : Word) (l : List Row) → is_next word l ≡ true → ComesNext word l
comes_next word [] e = absurd cc
comes_next word (row ∷ rows) e = eq_true (place_of row.word) (place_of word) e

pub ends_none : (v : Sizes) (i : ℕ) (l : List Row) → word_next l ≡ None → ends_body v i l ≡ true
ends_none v i [] e = refl
ends_none v i (row ∷ rows) e = absurd cc

pub ends_next : (v : Sizes) (i : ℕ) (w : Word) (l : List Row) → word_next l ≡ Some w → ends_body v i l ≡ nat_eq (place_of w) 22
ends_next v i w [] e = absurd cc
ends_next v i w (row ∷ rows) e = (let same : row.word ≡ w = cc in ap (λ (u : Word). nat_eq (place_of u) 22) same)

pub ends_same : (v w : Sizes) (i j : ℕ) (l : List Row) → ends_body v i l ≡ ends_body w j l
ends_same v w i j [] = refl
ends_same v w i j (row ∷ rows) = refl

-- ---- a line that may be missing

module _ {A : Type 0} (word : Word) (item : BlockItem A) (other : A) (old : Reader) where
  one_at : (new : Reader) (result : Result A AsmError) (l : List Row) → rows_left old ≡ l → is_next word l ≡ true → ReadsItem item old new result → (n : ℕ) → length (rows_left old) ≤ n → GivesPart (rows_left new) result (optional_item word item other old.sizes old.instances n l)
  one_at new result [] e here reads n le = absurd cc
  one_at new result (row ∷ rows) e here reads n le =
      let is : cond (nat_eq (place_of row.word) (place_of word)) (item old.sizes old.instances n row rows) (Ok (other, row ∷ rows)) ≡ item old.sizes old.instances n row rows = rw here refl in
      subst (λ (p : Result (A × List Row) Fault). GivesPart (rows_left new) result p) (sym is) (reads n row rows le e)

  pub one_reads : (new : Reader) (result : Result A AsmError) → is_next word (rows_left old) ≡ true → ReadsItem item old new result → ReadsTextPart (optional_item word item other) old new result
  one_reads new result here reads n le = one_at new result (rows_left old) refl here reads n le

  none_at : (l : List Row) → is_next word l ≡ false → (n : ℕ) → optional_item word item other old.sizes old.instances n l ≡ Ok (other, l)
  none_at [] absent n = refl
  none_at (row ∷ rows) absent n = rw absent refl

  pub none_reads : (x : A) → x ≡ other → is_next word (rows_left old) ≡ false → ReadsTextPart (optional_item word item other) old old (Ok x)
  none_reads x is absent n le = none_at (rows_left old) absent n ∙ ap (λ (y : A). Ok (y, rows_left old)) (sym is)

-- ---- lines of one word

module _ {A : Type 0} (word : Word) (item : BlockItem A) (old : Reader) (xs : List A) (mid : Reader) (going : Going word item xs old mid) where
  finish : (l : List Row) → rows_left mid ≡ l → is_next word l ≡ false → ReadsTextPart (all_items word item) old mid (Ok xs)
  finish [] e absent = at_last word item old xs mid going e
  finish (row ∷ rows) e absent = at_other word item old xs mid going row rows e absent

  pub finishes : is_next word (rows_left mid) ≡ false → ReadsTextPart (all_items word item) old mid (Ok xs)
  finishes absent = finish (rows_left mid) refl absent

  fail : (l : List Row) → rows_left mid ≡ l → is_next word l ≡ true → (new : Reader) (d : AsmError) → ReadsItem item mid new (Err d) → ReadsTextPart (all_items word item) old new (Err d)
  fail [] e here new d reads = absurd cc
  fail (row ∷ rows) e here new d reads = fails word item old xs mid going row rows new d e here reads

  pub item_fails : (new : Reader) (d : AsmError) → is_next word (rows_left mid) ≡ true → ReadsItem item mid new (Err d) → ReadsTextPart (all_items word item) old new (Err d)
  item_fails new d here reads = fail (rows_left mid) refl here new d reads

  further : (l : List Row) → rows_left mid ≡ l → is_next word l ≡ true → (new : Reader) (x : A) → Goes mid new → length (rows_left new) < length (rows_left mid) → ReadsItem item mid new (Ok x) → Going word item (xs ++ x ∷ []) old new
  further [] e here new x goes ahead reads = absurd cc
  further (row ∷ rows) e here new x goes ahead reads = one_more word item old xs mid going row rows new x e here goes ahead reads

  pub goes_further : (new : Reader) (x : A) → is_next word (rows_left mid) ≡ true → Goes mid new → length (rows_left new) < length (rows_left mid) → ReadsItem item mid new (Ok x) → Going word item (xs ++ x ∷ []) old new
  goes_further new x here goes ahead reads = further (rows_left mid) refl here new x goes ahead reads

-- ---- what is made of lines

pub got_first : (xs : List ℕ) → slice_get xs 0 ≡ first_in xs
got_first [] = refl
got_first (x ∷ xs) = refl

joined_more : (xs : List (ℕ × ℕ)) (pair : ℕ × ℕ) → flat_pairs (xs ++ pair ∷ []) ≡ flat_pairs xs ++ pair.0 ∷ pair.1 ∷ []
joined_more [] pair = refl
joined_more (x ∷ xs) pair = ap (λ (l : List ℕ). x.0 ∷ x.1 ∷ l) (joined_more xs pair)

joined_next : (xs : List (ℕ × ℕ)) (items : List ℕ) (i : ℕ) (e : ℕ × ℕ) → items ≡ flat_pairs (take i xs) → i < length xs → e ≡ get_or xs i e → (items ++ e.0 ∷ []) ++ e.1 ∷ [] ≡ flat_pairs (take (i + 1) xs)
joined_next xs items i e is lt at =
    let one : i + 1 ≡ suc i = omega arith in
    append_assoc items (e.0 ∷ []) (e.1 ∷ [])
    ∙ ap (λ (l : List ℕ). l ++ e.0 ∷ e.1 ∷ []) is
    ∙ sym (joined_more (take i xs) e)
    ∙ ap (λ (x : ℕ × ℕ). flat_pairs (take i xs ++ x ∷ [])) at
    ∙ sym (ap (λ (n : ℕ). flat_pairs (take n xs)) one ∙ ap flat_pairs (take-suc xs i e lt))

pub joined_step : (xs ys : List (ℕ × ℕ)) (items : List ℕ) (i : ℕ) (d : ℕ × ℕ) → ys ≡ xs → items ≡ flat_pairs (take i xs) → i < length ys → (items ++ (get_or ys i d).0 ∷ []) ++ (get_or ys i d).1 ∷ [] ≡ flat_pairs (take (i + 1) xs)
joined_step xs ys items i d same is lt =
    joined_next ys items i (get_or ys i d) (is ∙ ap (λ (l : List (ℕ × ℕ)). flat_pairs (take i l)) (sym same)) lt (get_or_default ys i d (get_or ys i d) lt)
    ∙ ap (λ (l : List (ℕ × ℕ)). flat_pairs (take (i + 1) l)) same

abbrev instance_with : InstanceHead → InstanceBelow → Option ℕ → Instance
instance_with head below space = record { name = head.name; super_name = head.super_name; flags = head.flags; protected_ns = space; interfaces = below.interfaces; iinit = below.iinit; traits = below.traits }

pub instance_is : (head : InstanceHead) (below : InstanceBelow) (space : Option ℕ) → space ≡ slice_get below.spaces 0 → instance_with head below space ≡ instance_from_below head below
instance_is head below space e = ap (instance_with head below) (e ∙ got_first below.spaces)

-- ---- the length of code, which the program caps

long_still : (n t : ℕ) → n ≡ min t (2 ^ 64 - 1) → nat_le (2 ^ 23) t ≡ true → nat_le (2 ^ 23) n ≡ true
long_still n t e long = grind (arith, nat_tests)

short_still : (n t : ℕ) → n ≡ min t (2 ^ 64 - 1) → nat_le (2 ^ 23) t ≡ false → nat_le (2 ^ 23) n ≡ false
short_still n t e short = grind (arith, nat_tests)

pub capped : (n t : ℕ) → n ≡ min t (2 ^ 64 - 1) → nat_le (2 ^ 23) n ≡ nat_le (2 ^ 23) t
capped n t e = elim (split_bool (nat_le (2 ^ 23) t)) [
  | inl long ↦ long_still n t e long ∙ sym long
  | inr short ↦ short_still n t e short ∙ sym short
]
