-- What a line is read as.
use Rattle.std.proofs.Common.{◌≡◌, ℕ, Bool, true, false, cond, nat_eq, List, [], ◌∷◌, ◌++◌, Ok, Err, Some, None, refl, sym, ap, subst, ◌∙◌, append-nil}
use Rattle.std.specs.declared.option.Option.{Option}
use Rattle.std.specs.declared.result.Result.{Result}
use Rattle.abc_text_lines.specs.declared.reason.AsmReason.{AsmReason}
use Rattle.abc_text_lines.specs.declared.reason.AsmReason.TheVariants as reasons
use Rattle.abc_text_lines.specs.declared.word.Word.{Word}
use Rattle.abc_text_lines.specs.Reasons.{least}
use Rattle.abc_text_lines.specs.Tokens.{Token}
use Rattle.abc_text_lines.specs.Words.{place_of}
use Rattle.abc_file_types.specs.declared.tables.Sizes.{Sizes}
use Rattle.abc_text_lines.proofs.Wordlines.{same_word}
use Rattle.abc_text_lines.proofs.Many.{eq_refl}
use Rattle.abc_text_lines.specs.Firsts.{value_or_reason}
use Rattle.abc_text_lines.specs.Lines.{Label, Row}
use Rattle.abc_text_lines.specs.Rows.{Fault, fault, unless}
use Rattle.abc_text_lines.specs.Wordlines.{if_none, plain_faults, repeat_reason}
use Rattle.abc_text_lines.specs.File.{extra, faults, others, own, rules}
use Rattle.abc_text_operands.specs.Answers.{AnswersOperand}
use Rattle.abc_text_operands.specs.Places.{Places}
use Rattle.abc_text_operands.specs.declared.error.LineError.{LineError}
use Rattle.abc_text_operands.specs.declared.error.LineError.TheVariants as lines
use Rattle.abc_text_tokens.specs.Walks.{tokens_of}
use Rattle.abc_text_reader.specs.declared.error.AsmError.{AsmError}
use Rattle.abc_text_reader.specs.declared.error.AsmError.TheVariants as errors
use Rattle.abc_text_reader.specs.declared.reader.Reader.{Reader}
use Rattle.abc_text_reader.specs.declared.reader.Taken.{Taken}
use Rattle.abc_text_reader.specs.Reading.{IsLineBroken, labels_now, may_repeat, row_of, rows_left}
use Rattle.abc_text_reader.specs.Parts.{ComesNext, GivesPart, IsPlainLine, BlockItem, ReadsItem, line_says, lone, lone_item, made_at}

none_more : (l : List AsmReason) → if_none l [] ≡ []
none_more [] = refl
none_more (r ∷ rs) = refl

module _ (v : Sizes) (instances : ℕ) (row : Row) (after : List Row) where
  abbrev plain : List AsmReason
  plain = plain_faults (rules v instances) row after

  abbrev own_in : Word → List AsmReason
  own_in w = own v instances w row.labels row.operands

  abbrev again : List AsmReason
  again = cond row.repeated (repeat_reason row.word ∷ []) []

  -- the faults of a whole line
  pub whole_faults : row.broken ≡ false → plain ≡ own_in row.word ++ (others v instances row after row.word ++ again)
  whole_faults e = ap (λ (b : Bool). cond b (reasons.Text ∷ []) (own_in row.word ++ (others v instances row after row.word ++ again))) e

  -- and of one that repeats no other
  pub once_faults : (w : Word) → row.word ≡ w → row.broken ≡ false → row.repeated ≡ false → plain ≡ own_in w ++ (others v instances row after w ++ [])
  once_faults w is whole once =
      whole_faults whole
      ∙ ap (λ (b : Bool). own_in row.word ++ (others v instances row after row.word ++ cond b (repeat_reason row.word ∷ []) [])) once
      ∙ ap (λ (u : Word). own_in u ++ (others v instances row after u ++ [])) is

  -- where a line has no faults but those that are plain
  pub no_extra : (w : Word) → row.word ≡ w → extra v instances row after w ≡ [] → faults v instances row after ≡ plain
  no_extra w is none =
      ap (λ (l : List AsmReason). plain ++ if_none plain l) (ap (λ (u : Word). extra v instances row after u) is ∙ none)
      ∙ ap (λ (l : List AsmReason). plain ++ l) (none_more plain)
      ∙ append-nil plain

  pub lone_faults : (w : Word) → IsPlainLine w → row.word ≡ w → row.broken ≡ false → row.repeated ≡ false → faults v instances row after ≡ own_in w
  lone_faults w p is whole once =
      no_extra w is (p.no_extra v instances row after)
      ∙ once_faults w is whole once
      ∙ ap (λ (l : List AsmReason). own_in w ++ (l ++ [])) (p.no_others v instances row after)
      ∙ append-nil (own_in w)

  pub broken_least : row.broken ≡ true → least (faults v instances row after) ≡ Some reasons.Text
  unfolding least
  broken_least e =
      let text : plain ≡ reasons.Text ∷ [] = ap (λ (b : Bool). cond b (reasons.Text ∷ []) (own_in row.word ++ (others v instances row after row.word ++ again))) e in
      ap (λ (l : List AsmReason). least (l ++ if_none l (extra v instances row after row.word))) text

  pub unless_broken : {A : Type 0} (r : Result (A × List Row) Fault) → row.broken ≡ true → unless (least (faults v instances row after)) row.number r ≡ Err (fault row.number reasons.Text)
  unless_broken r e = ap (λ (o : Option AsmReason). unless o row.number r) (broken_least e)

-- An item that begins with its line's faults.
abbrev pub IsHeaded : {A : Type 0} → BlockItem A → Type 0
IsHeaded item = (v : Sizes) (instances n : ℕ) (row : Row) (rows : List Row) → row.broken ≡ true → item v instances n row rows ≡ Err (fault row.number reasons.Text)

pub first_row : (a b : Row) (xs ys : List Row) → a ∷ xs ≡ b ∷ ys → a ≡ b
first_row a b xs ys e = cc

pub rest_rows : (a b : Row) (xs ys : List Row) → a ∷ xs ≡ b ∷ ys → xs ≡ ys
rest_rows a b xs ys e = cc

-- a line that is broken
pub broken_reads : {A : Type 0} (item : BlockItem A) (old new : Reader) (e : AsmError) → IsHeaded item → IsLineBroken e (rows_left old) → ReadsItem item old new (Err e)
broken_reads item old new (errors.Refused line reason) headed broken n row rows le is =
    let same : row ≡ broken.0 = first_row row broken.0 rows broken.1 (sym is ∙ broken.2) in
    let here : row.broken ≡ true = ap (λ (r : Row). r.broken) same ∙ broken.3 in
    let number : row.number ≡ line = ap (λ (r : Row). r.number) same ∙ broken.4 in
    headed old.sizes old.instances n row rows here ∙ ap (λ (k : ℕ). Err (fault k reasons.Text)) number ∙ ap (λ (r : AsmReason). Err (fault line r)) (sym broken.5)
broken_reads item old new errors.NoMemory headed broken n row rows le is = tt

pub given_by : {A : Type 0} (r : Result A LineError) (o : Option AsmReason) (x : A) (line : ℕ) (left : List Row) → AnswersOperand r (value_or_reason o x) → GivesPart left (made_at line r) (unless o line (Ok (x, left)))
given_by {A} (Ok y) None x line left answers =
    let same : x ≡ y = cc in
    let pair : A → Result (A × List Row) Fault = λ z. Ok (z, left) in
    ap pair same
given_by (Ok y) (Some s) x line left answers = absurd cc
given_by (Err (lines.Refused reason)) None x line left answers = absurd cc
given_by {A} (Err (lines.Refused reason)) (Some s) x line left answers =
    let same : s ≡ reason = cc in
    let bad : AsmReason → Result (A × List Row) Fault = λ t. Err (fault line t) in
    ap bad same
given_by (Err lines.NoMemory) o x line left answers = tt

-- a line with no lines below it
pub lone_reads : {A : Type 0} (word : Word) (value : Sizes → List Label → List Token → A) (old new : Reader) (taken : Taken) (r : Result A LineError) → IsPlainLine word → taken.word ≡ word → (may_repeat taken.word ≡ false → taken.repeated ≡ false) → rows_left old ≡ row_of taken new ∷ rows_left new → new.sizes ≡ old.sizes → Places new.places (labels_now new.body) → ((instances : ℕ) (labels : List Label) → Places new.places labels → AnswersOperand r (line_says word value new.sizes instances labels (tokens_of new.operands.items))) → ReadsItem (lone_item value) old new (made_at taken.number r)
lone_reads {A} word value old new taken r plain_word is once opens sizes places says n row rows le e =
    let v = old.sizes in let instances = old.instances in
    let head = row_of taken new in
    let left = rows_left new in
    let labels = labels_now new.body in
    let tokens = tokens_of new.operands.items in
    let o = least (own v instances word labels tokens) in
    let x = value v labels tokens in
    let not_again : taken.repeated ≡ false = once (ap may_repeat is ∙ plain_word.once) in
    let reads : lone (faults v instances) (value v) row rows ≡ unless o taken.number (Ok (x, left)) =
    ap (λ (a : Row). lone (faults v instances) (value v) a rows) (first_row row head rows left (sym e ∙ opens))
    ∙ ap (λ (l : List Row). lone (faults v instances) (value v) head l) (rest_rows row head rows left (sym e ∙ opens))
    ∙ ap (λ (l : List AsmReason). unless (least l) taken.number (Ok (x, left))) (lone_faults v instances head left word plain_word is refl not_again) in
    let answers : AnswersOperand r (value_or_reason o x) = subst (λ (z : Sizes). AnswersOperand r (line_says word value z instances labels tokens)) sizes (says instances labels places) in
    subst (λ (p : Result (A × List Row) Fault). GivesPart left (made_at taken.number r) p) (sym reads) (given_by r o x taken.number left answers)

-- the line that was taken is of the word that comes next
pub named_is : (word : Word) (old new : Reader) (taken : Taken) → nat_eq (place_of word) 23 ≡ false → ComesNext word (rows_left old) → rows_left old ≡ row_of taken new ∷ rows_left new → taken.word ≡ word
named_is word old new taken apart comes opens =
    let at : place_of taken.word ≡ place_of word = subst (ComesNext word) opens comes in
    same_word taken.word word (λ h. let yes : nat_eq (place_of word) 23 ≡ true = eq_refl (place_of word) 23 h in absurd cc) at

pub next_at : (word : Word) (row : Row) (rows all : List Row) → all ≡ row ∷ rows → ComesNext word all → place_of row.word ≡ place_of word
next_at word row rows all e comes = subst (ComesNext word) e comes

pub lone_headed : {A : Type 0} (value : Sizes → List Label → List Token → A) → IsHeaded (lone_item value)
lone_headed value v instances n row rows e = unless_broken v instances row rows (Ok (value v row.labels row.operands, rows)) e
