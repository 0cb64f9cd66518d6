-- One part after another, and a line with the part below it.
use Rattle.std.proofs.Common.{◌≡◌, ℕ, ◌≤◌, List, ◌∷◌, length, Ok, Err, Some, None, refl, sym, ap, subst, ◌∙◌, arith}
use Rattle.std.specs.declared.option.Option.{Option}
use Rattle.std.specs.declared.result.Result.{Result}
use Rattle.abc_text_lines.specs.declared.reason.AsmReason.{AsmReason}
use Rattle.abc_text_lines.specs.Reasons.{least}
use Rattle.abc_text_lines.specs.Tokens.{Token}
use Rattle.abc_file_types.specs.declared.tables.Sizes.{Sizes}
use Rattle.abc_text_lines.specs.Firsts.{value_or_reason}
use Rattle.abc_text_lines.specs.Lines.{Label, Row}
use Rattle.abc_text_lines.specs.Rows.{Fault, unless, ◌>>=◌}
use Rattle.abc_text_lines.specs.File.{faults}
use Rattle.abc_text_tokens.specs.Walks.{tokens_of}
use Rattle.abc_text_reader.specs.declared.error.AsmError.{AsmError}
use Rattle.abc_text_reader.specs.declared.error.AsmError.TheVariants as errors
use Rattle.abc_text_reader.specs.declared.reader.Reader.{Reader}
use Rattle.abc_text_reader.specs.declared.reader.Taken.{Taken}
use Rattle.abc_text_reader.specs.Reading.{Goes, labels_now, row_of, rows_left}
use Rattle.abc_text_reader.specs.Parts.{GivesPart, BlockItem, TextPart, ReadsItem, ReadsTextPart, head_says, headed_item, mapped_part, pair_of}
use Rattle.abc_text_reader.proofs.Lone.{IsHeaded, first_row, rest_rows, unless_broken}

-- what a part is read as behind another, by the sizes that were first
pub behind : {A : Type 0} (part : TextPart A) (old mid new : Reader) (result : Result A AsmError) → Goes old mid → ReadsTextPart part mid new result → (n : ℕ) → length (rows_left old) ≤ n → GivesPart (rows_left new) result (part old.sizes old.instances n (rows_left mid))
behind part old mid new result goes reads n le =
    let fewer = goes.fewer in
    subst (λ (i : ℕ). GivesPart (rows_left new) result (part old.sizes i n (rows_left mid))) goes.instances
    (subst (λ (v : Sizes). GivesPart (rows_left new) result (part v mid.instances n (rows_left mid))) goes.sizes (reads n (omega arith)))

module _ {A B : Type 0} (p : TextPart A) (q : TextPart B) (old mid : Reader) where
  abbrev rest : Sizes → ℕ → ℕ → Result (A × List Row) Fault → Result ((A × B) × List Row) Fault
  rest v i n r = r >>= λ x. q v i n x.1 >>= λ y. Ok ((x.0, y.0), y.1)

  abbrev last : A → Result (B × List Row) Fault → Result ((A × B) × List Row) Fault
  last x r = r >>= λ y. Ok ((x, y.0), y.1)

  pub pair_ok : (new : Reader) (x : A) (y : B) → ReadsTextPart p old mid (Ok x) → Goes old mid → ReadsTextPart q mid new (Ok y) → ReadsTextPart (pair_of p q) old new (Ok (x, y))
  pair_ok new x y first goes second n le =
      ap (rest old.sizes old.instances n) (first n le) ∙ ap (last x) (behind q old mid new (Ok y) goes second n le)

  pub pair_first : (new : Reader) (e : AsmError) → ReadsTextPart p old mid (Err e) → ReadsTextPart (pair_of p q) old new (Err e)
  pair_first new (errors.Refused line reason) first n le = ap (rest old.sizes old.instances n) (first n le)
  pair_first new errors.NoMemory first n le = tt

  pub pair_second : (new : Reader) (x : A) (e : AsmError) → ReadsTextPart p old mid (Ok x) → Goes old mid → ReadsTextPart q mid new (Err e) → ReadsTextPart (pair_of p q) old new (Err e)
  pair_second new x (errors.Refused line reason) first goes second n le =
      ap (rest old.sizes old.instances n) (first n le) ∙ ap (last x) (behind q old mid new (Err (errors.Refused line reason)) goes second n le)
  pair_second new x errors.NoMemory first goes second n le = tt

module _ {A B : Type 0} (f : A → B) (p : TextPart A) (old new : Reader) where
  abbrev onto : Result (A × List Row) Fault → Result (B × List Row) Fault
  onto r = r >>= λ x. Ok (f x.0, x.1)

  pub mapped_ok : (x : A) (y : B) → y ≡ f x → ReadsTextPart p old new (Ok x) → ReadsTextPart (mapped_part f p) old new (Ok y)
  mapped_ok x y is reads n le = ap onto (reads n le) ∙ ap (λ (z : B). Ok (z, rows_left new)) (sym is)

  pub mapped_err : (e : AsmError) → ReadsTextPart p old new (Err e) → ReadsTextPart (mapped_part f p) old new (Err e)
  mapped_err (errors.Refused line reason) reads n le = ap onto (reads n le)
  mapped_err errors.NoMemory reads n le = tt

-- ---- a line and the part below it

module _ {H B A : Type 0} (value : Sizes → List Label → List Token → H) (lower : TextPart B) (whole : H → B → A) where
  abbrev item : BlockItem A
  item = headed_item value lower whole

  pub headed : IsHeaded item
  headed v instances n row rows e = unless_broken v instances row rows (lower v instances n rows >>= λ y. Ok (whole (value v row.labels row.operands) y.0, y.1)) e

  pub told_none : (o : Option AsmReason) (x y : H) → Ok y ≡ value_or_reason o x → (o ≡ None) × (x ≡ y)
  told_none None x y e = (refl, cc)
  told_none (Some r) x y e = absurd cc

  pub told_some : (o : Option AsmReason) (x : H) (r : AsmReason) → Err r ≡ value_or_reason o x → o ≡ Some r
  told_some None x r e = absurd cc
  told_some (Some s) x r e = let same : s ≡ r = cc in ap (λ (t : AsmReason). Some t) same

  module _ (old mid : Reader) (taken : Taken) (opens : rows_left old ≡ row_of taken mid ∷ rows_left mid) (goes : Goes old mid) where
    abbrev head : Row
    head = row_of taken mid

    abbrev left : List Row
    left = rows_left mid

    abbrev o : Option AsmReason
    o = least (faults old.sizes old.instances head left)

    abbrev h : H
    h = value old.sizes (labels_now mid.body) (tokens_of mid.operands.items)

    -- the item is read as that of the line that was taken
    pub item_is : (n : ℕ) (row : Row) (rows : List Row) → rows_left old ≡ row ∷ rows → item old.sizes old.instances n row rows ≡ item old.sizes old.instances n head left
    item_is n row rows e =
        ap (λ (a : Row). item old.sizes old.instances n a rows) (first_row row head rows left (sym e ∙ opens))
        ∙ ap (λ (l : List Row). item old.sizes old.instances n head l) (rest_rows row head rows left (sym e ∙ opens))

    -- what the line says, by the sizes that were first
    says : (r : Result H AsmReason) → r ≡ head_says value taken mid → r ≡ value_or_reason o h
    says r is =
        is
        ∙ ap (λ (v : Sizes). value_or_reason (least (faults v mid.instances head left)) (value v (labels_now mid.body) (tokens_of mid.operands.items))) goes.sizes
        ∙ ap (λ (i : ℕ). value_or_reason (least (faults old.sizes i head left)) h) goes.instances

    pub head_fails : (new : Reader) (r : AsmReason) → Err r ≡ head_says value taken mid → ReadsItem item old new (Err (errors.Refused taken.number r))
    head_fails new r is n row rows le e =
        item_is n row rows e ∙ ap (λ (p : Option AsmReason). unless p taken.number (lower old.sizes old.instances n left >>= λ y. Ok (whole h y.0, y.1))) (told_some o h r (says (Err r) is))

    below_is : (n : ℕ) (row : Row) (rows : List Row) (x : H) → rows_left old ≡ row ∷ rows → Ok x ≡ head_says value taken mid → item old.sizes old.instances n row rows ≡ (lower old.sizes old.instances n left >>= λ y. Ok (whole x y.0, y.1))
    below_is n row rows x e is =
        let t = told_none o h x (says (Ok x) is) in
        item_is n row rows e
        ∙ ap (λ (p : Option AsmReason). unless p taken.number (lower old.sizes old.instances n left >>= λ y. Ok (whole h y.0, y.1))) t.0
        ∙ ap (λ (z : H). lower old.sizes old.instances n left >>= λ y. Ok (whole z y.0, y.1)) t.1

    abbrev after : H → Result (B × List Row) Fault → Result (A × List Row) Fault
    after x r = r >>= λ y. Ok (whole x y.0, y.1)

    pub below_fails : (new : Reader) (x : H) (e : AsmError) → Ok x ≡ head_says value taken mid → ReadsTextPart lower mid new (Err e) → ReadsItem item old new (Err e)
    below_fails new x (errors.Refused line reason) is reads n row rows le e =
        below_is n row rows x e is ∙ ap (after x) (behind lower old mid new (Err (errors.Refused line reason)) goes reads n le)
    below_fails new x errors.NoMemory is reads n row rows le e = tt

    pub item_ok : (new : Reader) (x : H) (y : B) (z : A) → Ok x ≡ head_says value taken mid → ReadsTextPart lower mid new (Ok y) → z ≡ whole x y → ReadsItem item old new (Ok z)
    item_ok new x y z is reads made n row rows le e =
        below_is n row rows x e is
        ∙ ap (after x) (behind lower old mid new (Ok y) goes reads n le)
        ∙ ap (λ (a : A). Ok (a, rows_left new)) (sym made)
