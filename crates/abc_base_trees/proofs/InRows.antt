-- Lists in a row: how many there are, what one more is, and where each stands.
use Rattle.std.proofs.Common.{◌≡◌, ℕ, zero, suc, ◌+◌, ◌-◌, ◌<◌, ◌≤◌, List, [], ◌∷◌, ◌++◌, drop, get_or, length, take, refl, sym, ap, subst, ◌∙◌, arith, length-append}
use Rattle.std.proofs.lemmas.List.{drop-append-le, drop_at, length-drop, take-append-le, take_all}
use Rattle.abc_base_trees.specs.Rows.{AreRowEnds, begin_of, rows_from}
use Rattle.abc_base_trees.proofs.Efforts.{below_zero}

pub length_rows : {X : Type 0} (begin : ℕ) (ends : List ℕ) (items : List X) → length (rows_from begin ends items) ≡ length ends
length_rows begin [] items = refl
length_rows begin (end ∷ ends) items = ap suc (length_rows end ends items)

-- ---- where a list begins and ends

pub begins_first : (i : ℕ) (ends : List ℕ) → i ≡ 0 → 0 ≡ begin_of i 0 ends
begins_first zero ends e = refl
begins_first (suc i) ends e = absurd (omega (arith, e))

begins_at : (i begin : ℕ) (ends : List ℕ) → i < length ends → get_or ends i 0 ≡ begin_of (suc i) begin ends
begins_at i begin [] lt = absurd (below_zero i lt)
begins_at zero begin (end ∷ ends) lt = refl
begins_at (suc i) begin (end ∷ ends) lt = begins_at i end ends (omega arith)

pub begins_later : (i j : ℕ) (ends : List ℕ) → i < length ends → i ≡ j + 1 → get_or ends j 0 ≡ begin_of i 0 ends
begins_later i j ends lt e = let q : i ≡ suc j = omega arith in begins_at j 0 ends (omega arith) ∙ ap (λ n. begin_of n 0 ends) (sym q)

ends_within : (begin all : ℕ) (ends : List ℕ) → AreRowEnds begin ends all → begin ≤ all
ends_within begin all [] e = omega (arith, e)
ends_within begin all (end ∷ ends) e = let h = ends_within end all ends e.1 in omega (arith, h, e.0)

begins_before : (i begin all : ℕ) (ends : List ℕ) → AreRowEnds begin ends all → i < length ends → begin_of i begin ends ≤ get_or ends i 0
begins_before i begin all [] e lt = absurd (below_zero i lt)
begins_before zero begin all (end ∷ ends) e lt = e.0
begins_before (suc i) begin all (end ∷ ends) e lt = begins_before i end all ends e.1 (omega arith)

end_within : (i begin all : ℕ) (ends : List ℕ) → AreRowEnds begin ends all → i < length ends → get_or ends i 0 ≤ all
end_within i begin all [] e lt = absurd (below_zero i lt)
end_within zero begin all (end ∷ ends) e lt = ends_within end all ends e.1
end_within (suc i) begin all (end ∷ ends) e lt = end_within i end all ends e.1 (omega arith)

row_at : {X : Type 0} (i begin : ℕ) (ends : List ℕ) (items : List X) → i < length ends → take (get_or ends i 0 - begin_of i begin ends) (drop (begin_of i begin ends) items) ≡ get_or (rows_from begin ends items) i []
row_at i begin [] items lt = absurd (below_zero i lt)
row_at zero begin (end ∷ ends) items lt = refl
row_at (suc i) begin (end ∷ ends) items lt = row_at i end ends items (omega arith)

-- ---- one more

ends_push : (begin all more : ℕ) (ends : List ℕ) → AreRowEnds begin ends all → AreRowEnds begin (ends ++ (all + more) ∷ []) (all + more)
ends_push begin all more [] e = (omega (arith, e), refl)
ends_push begin all more (end ∷ ends) e = (e.0, ends_push end all more ends e.1)

row_stays : {X : Type 0} (begin end : ℕ) (items row : List X) → begin ≤ end → end ≤ length items → take (end - begin) (drop begin (items ++ row)) ≡ take (end - begin) (drop begin items)
row_stays begin end items row a b =
    let far : begin ≤ length items = omega arith in
    let many = length-drop begin items in
    let within : end - begin ≤ length (drop begin items) = omega arith in
    ap (take (end - begin)) (drop-append-le begin items row far) ∙ take-append-le (end - begin) (drop begin items) row within

rows_push : {X : Type 0} (begin : ℕ) (ends : List ℕ) (items row : List X) → AreRowEnds begin ends (length items) → rows_from begin (ends ++ (length items + length row) ∷ []) (items ++ row) ≡ rows_from begin ends items ++ row ∷ []
rows_push begin [] items row e =
    let many : length row ≤ length items + length row - begin = omega (arith, e) in
    ap (λ r. r ∷ []) (ap (take (length items + length row - begin)) (drop_at items row begin (sym e)) ∙ take_all (length items + length row - begin) row many)
rows_push begin (end ∷ ends) items row e =
    let h = ends_within end (length items) ends e.1 in
    ap (λ r. r ∷ rows_from end (ends ++ (length items + length row) ∷ []) (items ++ row)) (row_stays begin end items row e.0 h)
    ∙ ap (λ rs. take (end - begin) (drop begin items) ∷ rs) (rows_push end ends items row e.1)

pub pushed_ends : {X : Type 0} (old ends : List ℕ) (items all row : List X) (end : ℕ) → AreRowEnds 0 old (length items) → ends ≡ old ++ end ∷ [] → all ≡ items ++ row → end ≡ length all → AreRowEnds 0 ends (length all)
pushed_ends old ends items all row end valid e f is =
    let many : length all ≡ length items + length row = ap length f ∙ length-append items row in
    subst (λ n. AreRowEnds 0 ends n) (sym many) (subst (λ es. AreRowEnds 0 es (length items + length row)) (sym (e ∙ ap (λ n. old ++ n ∷ []) (is ∙ many))) (ends_push 0 (length items) (length row) old valid))

pub pushed_rows : {X : Type 0} (old ends : List ℕ) (items all row : List X) (end : ℕ) (value : List (List X)) → AreRowEnds 0 old (length items) → rows_from 0 old items ≡ value → ends ≡ old ++ end ∷ [] → all ≡ items ++ row → end ≡ length all → rows_from 0 ends all ≡ value ++ row ∷ []
pushed_rows old ends items all row end value valid view e f is =
    let many : length all ≡ length items + length row = ap length f ∙ length-append items row in
    let last : ends ≡ old ++ (length items + length row) ∷ [] = e ∙ ap (λ n. old ++ n ∷ []) (is ∙ many) in
    (λ i. rows_from 0 (last i) (f i)) ∙ rows_push 0 old items row valid ∙ ap (λ rs. rs ++ row ∷ []) view

-- ---- reading

inside : {X : Type 0} (ends : List ℕ) (items : List X) (value : List (List X)) (i : ℕ) → rows_from 0 ends items ≡ value → i < length value → i < length ends
inside ends items value i view lt = let many = length_rows 0 ends items in let same = ap length view in omega (arith, many, same)

pub read_within : {X : Type 0} (ends : List ℕ) (items : List X) (read : List ℕ) (value : List (List X)) (i : ℕ) → rows_from 0 ends items ≡ value → read ≡ ends → i < length value → i < length read
read_within ends items read value i view e lt = subst (λ es. i < length es) (sym e) (inside ends items value i view lt)

pub read_order : {X : Type 0} (ends : List ℕ) (items : List X) (value : List (List X)) (i begin end : ℕ) → AreRowEnds 0 ends (length items) → rows_from 0 ends items ≡ value → i < length value → begin ≡ begin_of i 0 ends → end ≡ get_or ends i 0 → begin ≤ end
read_order ends items value i begin end valid view lt b e =
    let h = begins_before i 0 (length items) ends valid (inside ends items value i view lt) in
    omega (arith, h, b, e)

pub read_end : {X : Type 0} (ends : List ℕ) (items read : List X) (value : List (List X)) (i end : ℕ) → AreRowEnds 0 ends (length items) → rows_from 0 ends items ≡ value → i < length value → end ≡ get_or ends i 0 → read ≡ items → end ≤ length read
read_end ends items read value i end valid view lt e r =
    let h = end_within i 0 (length items) ends valid (inside ends items value i view lt) in
    let q = ap length r in
    omega (arith, h, e, q)

pub read_row : {X : Type 0} (ends : List ℕ) (items read : List X) (value : List (List X)) (i begin end : ℕ) → rows_from 0 ends items ≡ value → i < length value → begin ≡ begin_of i 0 ends → end ≡ get_or ends i 0 → read ≡ items → take (end - begin) (drop begin read) ≡ get_or value i []
read_row ends items read value i begin end view lt b e r =
    (λ k. take (e k - b k) (drop (b k) (r k))) ∙ row_at i 0 ends items (inside ends items value i view lt) ∙ ap (λ rs. get_or rs i []) view
