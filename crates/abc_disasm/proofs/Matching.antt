-- The lines that are read back are those of the value: labels stand for the numbers that they are shown for.
use Rattle.std.proofs.Common.{◌≡◌, ℕ, ◌+◌, ◌<◌, ◌≤◌, ◌^◌, inl, inr, true, false, nat_eq, List, [], ◌∷◌, ◌++◌, decimal, length, Some, refl, ap, ◌∙◌, bytes_eq, arith}
use Rattle.std.specs.List.{AllByRecursion, flat_map}
use Rattle.std.proofs.lemmas.Bool.{cases_lt}
use Rattle.std.proofs.lemmas.Bool.Decides.{nat_tests}
use Rattle.std.proofs.lemmas.Fmt.{decimal_injective}
use Rattle.std.proofs.lemmas.Grind.{flat_map-append}
use Rattle.std.proofs.lemmas.Slice.Eq.{bytes_eq-Decides}
use Rattle.abc_text_lines.specs.declared.word.Word.{Word}
use Rattle.abc_text_lines.proofs.Bools.{split_bool}
use Rattle.abc_text_lines.specs.Law.{IsLabel, IsLine, Match}
use Rattle.abc_text_lines.specs.Lines.{Label, Item, Number, Signed, Text, Eight, Kind, Target, Shown, Line, Labels}
use Rattle.abc_text_lines.specs.Operands.{place_of_label}
use Rattle.abc_text_lines.specs.Rows.{Head, code_after}
use Rattle.abc_text_lines.specs.Wordlines.{among, shows_operands}
use Rattle.abc_text_lines.specs.Listing.{label_of, target_in, targets_of_line}
use Rattle.abc_text_lines.specs.Texts.{Raw, Skips, Counts, Step, by_step, is_text_among, is_taken, labels_set, method_named, row_of_raw, rows_of_lines, label_step}
use Rattle.abc_disasm.proofs.Items.{CanBeShown, items_tokens}
use Rattle.abc_disasm.proofs.Readback.{AllStand, kept, raw_label, raw_line, raws}

-- ---- names

eq_yes : (a b : List ℕ) → a ≡ b → bytes_eq a b ≡ true
eq_yes a b e = (bytes_eq-Decides a b).1 e

pub eq_no : (a b : List ℕ) → ¬ (a ≡ b) → bytes_eq a b ≡ false
eq_no a b differ =
    elim (split_bool (bytes_eq a b)) [
      | inl e ↦ absurd (differ ((bytes_eq-Decides a b).0 e))
      | inr e ↦ e
    ]

tail_of : List ℕ → List ℕ
tail_of [] = []
tail_of (b ∷ bytes) = bytes

pub labels_differ : (m n : ℕ) → m < 2 ^ 64 → n < 2 ^ 64 → ¬ (m ≡ n) → bytes_eq (label_of m) (label_of n) ≡ false
unfolding tail_of
labels_differ m n p q differ = eq_no (label_of m) (label_of n) (λ e. differ (decimal_injective m n p q (ap tail_of e)))

pub decimals_differ : (m n : ℕ) → m < 2 ^ 64 → n < 2 ^ 64 → ¬ (m ≡ n) → bytes_eq (decimal m) (decimal n) ≡ false
decimals_differ m n p q differ = eq_no (decimal m) (decimal n) (λ e. differ (decimal_injective m n p q e))

-- ---- lines that set no label and are no instruction

abbrev pub IsStill : Shown → Type 0
IsStill (Line w items) = label_step w ≡ Skips
IsStill (Labels n) = ⊥

-- the label of each of these numbers stands for it
abbrev pub AreSet : (ℕ → Type 0) → List Label → Type 0
AreSet leads labels = (n : ℕ) → leads n → place_of_label labels (label_of n) ≡ Some n

line_is : (leads : ℕ → Type 0) (labels : List Label) (number : ℕ) (w : Word) (items : List Item) → AreSet leads labels → AllByRecursion (CanBeShown leads) items → IsLine shows_operands (row_of_raw (raw_line number w items) labels false) w items
line_is leads labels number w items set can = record { word = refl; whole = refl; operands = items_tokens leads labels set items can; once = refl }

pub match_still : (leads : ℕ → Type 0) (labels : List Label) (set : List (List ℕ)) (taken : List (List ℕ)) → AreSet leads labels → (lines : List Shown) → AllStand leads lines → AllByRecursion IsStill lines → (more rest : List Shown)
    → ((k : ℕ) → Match shows_operands (rows_of_lines labels set taken (raws k more)) rest) → (k : ℕ) → Match shows_operands (rows_of_lines labels set taken (raws k (lines ++ more))) (lines ++ rest)
match_still leads labels set taken are [] all still more rest h k = h k
match_still leads labels set taken are (Labels n ∷ lines) all still more rest h k = absurd still.0
match_still leads labels set taken are (Line w items ∷ lines) all still more rest h k =
    let others = raws (k + 1) (lines ++ more) in
    let raw = raw_line k w items in
    let rs = rows_of_lines labels set taken others in (
      row_of_raw raw labels false,
      rs,
      ap (λ (s : Step). by_step s (row_of_raw raw (labels_set 0 others) (is_taken (method_named raw.operands) taken) ∷ rows_of_lines (labels_set 0 others) [] (method_named raw.operands ++ taken) others) (row_of_raw raw labels (is_text_among raw.name set) ∷ rows_of_lines labels (raw.name ∷ set) taken others) (row_of_raw raw labels false ∷ rs) (row_of_raw raw labels false ∷ rs)) still.0,
      line_is leads labels k w items are all.0.1,
      match_still leads labels set taken are lines all.1 still.1 more rest h (k + 1),
    )

-- ---- code

module _ {I : Type 0} (head : Head I (Unit {0})) (counts : (i : I) → label_step (head.word i) ≡ Counts) (named : List ℕ) where
  -- instructions from number j on, with a place for labels before each and at the end
  abbrev pub code_lines : ℕ → List I → List Shown
  code_lines j is = Labels j ∷ code_after head j is

  -- the label before the first instruction is found
  found_here : (j k n : ℕ) (lines rest : List Shown) → j ≡ n → among n named ≡ true → place_of_label (labels_set j (raws k (kept named (Labels j ∷ lines) ++ rest))) (label_of n) ≡ Some n
  found_here j k n lines rest e is =
      let here : among j named ≡ true = ap (λ (m : ℕ). among m named) e ∙ is in
      let same = eq_yes (label_of j) (label_of n) (ap label_of e) in
      rw (here, same) (ap (λ (m : ℕ). Some m) e)

  -- another label is looked for behind it
  found_behind : (j k n : ℕ) (lines rest : List Shown) → j < n → n < 2 ^ 64 → ((k : ℕ) → place_of_label (labels_set j (raws k (kept named lines ++ rest))) (label_of n) ≡ Some n) → place_of_label (labels_set j (raws k (kept named (Labels j ∷ lines) ++ rest))) (label_of n) ≡ Some n
  found_behind j k n lines rest lt small more =
      let differ = labels_differ j n (omega arith) small (λ e. omega arith) in
      elim (split_bool (among j named)) [
        | inl e ↦ rw (e, differ) (more (k + 1))
        | inr e ↦ rw e (more k)
      ]

  past : (j k : ℕ) (i : I) (others : List Raw) → labels_set j (raw_line k (head.word i) (head.items i) ∷ others) ≡ labels_set (j + 1) others
  past j k i others = let raw = raw_line k (head.word i) (head.items i) in ap (λ (s : Step). by_step s [] (record { name = raw.name; number = j } ∷ labels_set j others) (labels_set (j + 1) others) (labels_set j others)) (counts i)

  pub found : (is : List I) (j k n : ℕ) (rest : List Shown) → j ≤ n → n ≤ j + length is → n < 2 ^ 64 → among n named ≡ true → place_of_label (labels_set j (raws k (kept named (code_lines j is) ++ rest))) (label_of n) ≡ Some n
  found [] j k n rest low high small e = found_here j k n [] rest (omega arith) e
  found (i ∷ is) j k n rest low high small e =
      elim (cases_lt j n) [
        | inl lt ↦
            found_behind j k n (code_after head j (i ∷ is)) rest lt small
            (λ m. ap (λ (l : List Label). place_of_label l (label_of n)) (past j m i (raws (m + 1) (kept named (code_lines (j + 1) is) ++ rest))) ∙ found is (j + 1) (m + 1) n rest (omega arith) (omega arith) small e)
        | inr ge ↦ found_here j k n (code_after head j (i ∷ is)) rest (omega arith) e
      ]

  -- no label from number j on is set yet
  abbrev pub AreFresh : ℕ → List (List ℕ) → Type 0
  AreFresh j set = (n : ℕ) → j ≤ n → n < 2 ^ 64 → is_text_among (label_of n) set ≡ false

  fresh_next : (j : ℕ) (set : List (List ℕ)) → AreFresh j set → AreFresh (j + 1) set
  fresh_next j set fresh n le lt = fresh n (omega arith) lt

  fresh_more : (j : ℕ) (set : List (List ℕ)) → j < 2 ^ 64 → AreFresh j set → AreFresh (j + 1) (label_of j ∷ set)
  fresh_more j set small fresh n le lt =
      let differ = labels_differ j n small lt (λ e. omega arith) in
      rw differ (fresh n (omega arith) lt)

  match_label : (labels : List Label) (taken : List (List ℕ)) (j : ℕ) (lines more shown : List Shown) → j < 2 ^ 64
      → ((k : ℕ) (set : List (List ℕ)) → AreFresh (j + 1) set → Match shows_operands (rows_of_lines labels set taken (raws k (kept named lines ++ more))) shown)
      → (k : ℕ) (set : List (List ℕ)) → AreFresh j set → Match shows_operands (rows_of_lines labels set taken (raws k (kept named (Labels j ∷ lines) ++ more))) (Labels j ∷ shown)
  match_label labels taken j lines more shown small h k set fresh =
      elim (split_bool (among j named)) [
        | inl e ↦
            let raw = raw_label k j in
            let line : IsLabel (row_of_raw raw labels (is_text_among (label_of j) set)) = record { word = refl; whole = refl; operands = refl; once = fresh j (omega arith) small } in
            rw e (row_of_raw raw labels (is_text_among (label_of j) set) ∷ [], rows_of_lines labels (label_of j ∷ set) taken (raws (k + 1) (kept named lines ++ more)), refl, (line, tt), h (k + 1) (label_of j ∷ set) (fresh_more j set small fresh))
        | inr e ↦ rw e ([], rows_of_lines labels set taken (raws k (kept named lines ++ more)), refl, tt, h k set (fresh_next j set fresh))
      ]

  pub match_code : (leads : ℕ → Type 0) (labels : List Label) (taken : List (List ℕ)) → AreSet leads labels → (is : List I) (j : ℕ) → j + length is < 2 ^ 64 → AllStand leads (code_lines j is) → (more rest : List Shown)
      → ((k : ℕ) (set : List (List ℕ)) → Match shows_operands (rows_of_lines labels set taken (raws k more)) rest)
      → (k : ℕ) (set : List (List ℕ)) → AreFresh j set → Match shows_operands (rows_of_lines labels set taken (raws k (kept named (code_lines j is) ++ more))) (code_lines j is ++ rest)
  match_code leads labels taken are [] j small all more rest h k set fresh = match_label labels taken j [] more rest (omega arith) (λ k set f. h k set) k set fresh
  match_code leads labels taken are (i ∷ is) j small all more rest h k set fresh =
      match_label labels taken j (code_after head j (i ∷ is)) more (code_after head j (i ∷ is) ++ rest) (omega arith)
      (λ k set f.
      let others = raws (k + 1) (kept named (code_lines (j + 1) is) ++ more) in
      let raw = raw_line k (head.word i) (head.items i) in
      let rs = rows_of_lines labels set taken others in (
        row_of_raw raw labels false,
        rs,
        ap (λ (s : Step). by_step s (row_of_raw raw (labels_set 0 others) (is_taken (method_named raw.operands) taken) ∷ rows_of_lines (labels_set 0 others) [] (method_named raw.operands ++ taken) others) (row_of_raw raw labels (is_text_among raw.name set) ∷ rows_of_lines labels (raw.name ∷ set) taken others) (row_of_raw raw labels false ∷ rs) (row_of_raw raw labels false ∷ rs)) (counts i),
        line_is leads labels k (head.word i) (head.items i) are all.1.0.1,
        match_code leads labels taken are is (j + 1) (omega arith) all.1.1 more rest h (k + 1) set f,
      ))
      k set fresh

-- ---- which numbers are named

among_front : (n : ℕ) (a b : List ℕ) → among n a ≡ true → among n (a ++ b) ≡ true
among_front n [] b e = absurd cc
among_front n (m ∷ a) b e =
    elim (split_bool (nat_eq n m)) [
      | inl x ↦ rw x refl
      | inr x ↦ let more : among n a ≡ true = rw x at e in rw x (among_front n a b more)
    ]

among_behind : (n : ℕ) (a b : List ℕ) → among n b ≡ true → among n (a ++ b) ≡ true
among_behind n [] b e = e
among_behind n (m ∷ a) b e =
    elim (split_bool (nat_eq n m)) [
      | inl x ↦ rw x refl
      | inr x ↦ rw x (among_behind n a b e)
    ]

pub two_named : (a b : List Shown) → flat_map targets_of_line (a ++ b) ≡ flat_map targets_of_line a ++ flat_map targets_of_line b
two_named a b = flat_map-append targets_of_line a b

-- each number that some operands name is among some numbers
abbrev AreNamed : List ℕ → List ℕ → Type 0
AreNamed these named = (n : ℕ) → among n these ≡ true → among n named ≡ true

eq_self : (n : ℕ) → nat_eq n n ≡ true
eq_self n = grind (arith, nat_tests)

items_named : (leads : ℕ → Type 0) (named : List ℕ) (items : List Item) → AreNamed (flat_map target_in items) named → AllByRecursion (CanBeShown leads) items → AllByRecursion (CanBeShown (λ n. leads n × (among n named ≡ true))) items
items_named leads named [] are can = tt
items_named leads named (Number n ∷ items) are can = (can.0, items_named leads named items are can.1)
items_named leads named (Signed z ∷ items) are can = (can.0, items_named leads named items are can.1)
items_named leads named (Text bytes ∷ items) are can = (can.0, items_named leads named items are can.1)
items_named leads named (Eight bytes ∷ items) are can = (can.0, items_named leads named items are can.1)
items_named leads named (Kind kind ∷ items) are can = (can.0, items_named leads named items are can.1)
items_named leads named (Target n ∷ items) are can =
    let here : among n (n ∷ flat_map target_in items) ≡ true = (let e = eq_self n in rw e refl) in
    ((can.0.0, (can.0.1, are n here)), items_named leads named items (λ m e. are m (among_behind m (n ∷ []) (flat_map target_in items) e)) can.1)

lines_named : (leads : ℕ → Type 0) (named : List ℕ) (lines : List Shown) → AreNamed (flat_map targets_of_line lines) named → AllStand leads lines → AllStand (λ n. leads n × (among n named ≡ true)) lines
lines_named leads named [] are all = tt
lines_named leads named (Line w items ∷ lines) are all = (
  (all.0.0, items_named leads named items (λ n e. are n (among_front n (flat_map target_in items) (flat_map targets_of_line lines) e)) all.0.1),
  lines_named leads named lines (λ n e. are n (among_behind n (flat_map target_in items) (flat_map targets_of_line lines) e)) all.1,
)
lines_named leads named (Labels n ∷ lines) are all = (all.0, lines_named leads named lines are all.1)

-- the numbers that some lines name are among those that they name
pub named_stand : (leads : ℕ → Type 0) (lines : List Shown) → AllStand leads lines → AllStand (λ n. leads n × (among n (flat_map targets_of_line lines) ≡ true)) lines
named_stand leads lines all = lines_named leads (flat_map targets_of_line lines) lines (λ n e. e) all

pub kept_still : (named : List ℕ) (lines : List Shown) → AllByRecursion IsStill lines → kept named lines ≡ lines
kept_still named [] still = refl
kept_still named (Line w items ∷ lines) still = ap (λ (l : List Shown). Line w items ∷ l) (kept_still named lines still.1)
kept_still named (Labels n ∷ lines) still = absurd still.0
