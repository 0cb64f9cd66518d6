-- The tables of lines are read as the program reads them.
use Rattle.std.proofs.Common.{◌≡◌, ℕ, zero, suc, inl, inr, Bool, true, false, cond, nat_eq, List, [], ◌∷◌, map, Ok, Err, Some, None, refl, sym, ap, ◌∙◌}
use Rattle.std.specs.declared.option.Option.{Option}
use Rattle.std.specs.declared.result.Result.{Result}
use Rattle.abc_text_lines.specs.declared.reason.AsmReason.{AsmReason}
use Rattle.abc_text_lines.specs.declared.word.Word.{Word}
use Rattle.abc_text_lines.specs.Reasons.{least}
use Rattle.abc_text_lines.specs.Words.{place_of}
use Rattle.abc_text_lines.proofs.Bools.{split_bool}
use Rattle.abc_text_lines.specs.Lines.{Row}
use Rattle.abc_text_lines.specs.Operands.{Operands}
use Rattle.abc_text_lines.specs.Rows.{Fault, Faults, Rows, both_rows, fault, item_first, items_reads, pair_reads, unless, ◌>>=◌}
use Rattle.abc_text_lines.specs.Wordlines.{lines_of_word}
use Rattle.abc_text_reader.specs.Parts.{item_of, items_read}

abbrev pub Reading : Type 0 → Type 0
Reading A = Result (A × List Row) Fault

-- a value, as another
abbrev pub as_other : {A B : Type 0} → (A → B) → Reading A → Reading B
as_other f r = r >>= λ x. Ok (f x.0, x.1)

-- two parts, one after the other
module _ {A B C D : Type 0} (f : A → C) (g : B → D) (q : List Row → Reading B) (s : List Row → Reading D) (rest : (rows : List Row) → as_other g (q rows) ≡ s rows) where
  abbrev both_as : A × B → C × D
  both_as x = (f x.0, g x.1)

  second : (x : A × List Row) (r : Reading B) (t : Reading D) → as_other g r ≡ t → as_other both_as (r >>= λ y. Ok ((x.0, y.0), y.1)) ≡ (t >>= λ y. Ok ((f x.0, y.0), y.1))
  second x (Ok y) t e = ap (λ (z : Reading D). z >>= λ y. Ok ((f x.0, y.0), y.1)) e
  second x (Err d) t e = ap (λ (z : Reading D). z >>= λ y. Ok ((f x.0, y.0), y.1)) e

  first : (r : Reading A) (t : Reading C) → as_other f r ≡ t → as_other both_as (r >>= λ x. q x.1 >>= λ y. Ok ((x.0, y.0), y.1)) ≡ (t >>= λ x. s x.1 >>= λ y. Ok ((x.0, y.0), y.1))
  first (Ok x) t e = second x (q x.1) (s x.1) (rest x.1) ∙ ap (λ (z : Reading C). z >>= λ x. s x.1 >>= λ y. Ok ((x.0, y.0), y.1)) e
  first (Err d) t e = ap (λ (z : Reading C). z >>= λ x. s x.1 >>= λ y. Ok ((x.0, y.0), y.1)) e

  pub pair_is : (p : List Row → Reading A) (t : List Row → Reading C) → ((rows : List Row) → as_other f (p rows) ≡ t rows) → (rows : List Row) → as_other both_as (pair_reads p q rows) ≡ pair_reads t s rows
  pair_is p t e rows = first (p rows) (t rows) (e rows)

-- lines of one word, each with the lines below it
module _ {H B G D A : Type 0} (fs : Faults) (w : Word) (p : Operands H) (agree : H → B → Type 0) (below : Rows B) (g : H → G) (conv : B → D) (lower : List Row → Reading D) (make : G → D → A) (same : (rows : List Row) → as_other conv (below.reads rows) ≡ lower rows) where
  abbrev made : H × B → A
  made x = make (g x.0) (conv x.1)

  abbrev listed_as : Reading (List (H × B)) → Reading (List A)
  listed_as r = r >>= λ x. Ok (map made x.0, x.1)

  abbrev item : Row → List Row → Reading A
  item = item_of fs (λ labels tokens. g (p.value labels tokens)) lower make

  module _ (n : ℕ) (h : H) (again : (rows : List Row) → listed_as (items_reads fs (lines_of_word w p agree) below n rows) ≡ items_read w item n rows) where
    abbrev ahead : A → Reading (List A) → Reading (List A)
    ahead x r = r >>= λ xs. Ok (x ∷ xs.0, xs.1)

    abbrev more : Reading A → Reading (List A)
    more r = r >>= λ x. items_read w item n x.1 >>= λ xs. Ok (x.0 ∷ xs.0, xs.1)

    front : (y : B × List Row) (r : Reading (List (H × B))) → listed_as (item_first h (r >>= λ z. Ok ((y.0, z.0), z.1))) ≡ ahead (make (g h) (conv y.0)) (listed_as r)
    front y (Ok z) = refl
    front y (Err d) = refl

    whole : (r : Reading B) (t : Reading D) → as_other conv r ≡ t → listed_as (item_first h (r >>= λ y. items_reads fs (lines_of_word w p agree) below n y.1 >>= λ z. Ok ((y.0, z.0), z.1))) ≡ more (t >>= λ y. Ok (make (g h) y.0, y.1))
    whole (Ok y) t e =
        front y (items_reads fs (lines_of_word w p agree) below n y.1)
        ∙ ap (ahead (make (g h) (conv y.0))) (again y.1)
        ∙ ap (λ (z : Reading D). more (z >>= λ y. Ok (make (g h) y.0, y.1))) e
    whole (Err d) t e = ap (λ (z : Reading D). more (z >>= λ y. Ok (make (g h) y.0, y.1))) e

    unlessed : (o : Option AsmReason) (number : ℕ) (r : Reading (List (H × B))) (t : Reading A) → listed_as r ≡ more t → listed_as (unless o number r) ≡ more (unless o number t)
    unlessed None number r t e = e
    unlessed (Some s) number r t e = refl

  pub many_is : (n : ℕ) (rows : List Row) → listed_as (items_reads fs (lines_of_word w p agree) below n rows) ≡ items_read w item n rows
  many_is zero rows = refl
  many_is (suc n) [] = refl
  many_is (suc n) (row ∷ rows) =
      let h = p.value row.labels row.operands in
      let o = least (fs row rows) in
      let r : Reading (List (H × B)) = item_first h (pair_reads below.reads (items_reads fs (lines_of_word w p agree) below n) rows) in
      let t : Reading A = lower rows >>= λ y. Ok (make (g h) y.0, y.1) in
      elim (split_bool (nat_eq (place_of row.word) (place_of w))) [
        | inl e ↦
            ap (λ (b : Bool). listed_as (cond b (unless o row.number r) (Ok ([], row ∷ rows)))) e
            ∙ unlessed n h (many_is n) o row.number r t (whole n h (many_is n) (below.reads rows) (lower rows) (same rows))
            ∙ sym (ap (λ (b : Bool). cond b (more n h (many_is n) (item row rows)) (Ok ([], row ∷ rows))) e)
        | inr e ↦
            ap (λ (b : Bool). listed_as (cond b (unless o row.number r) (Ok ([], row ∷ rows)))) e
            ∙ sym (ap (λ (b : Bool). cond b (more n h (many_is n) (item row rows)) (Ok ([], row ∷ rows))) e)
      ]
