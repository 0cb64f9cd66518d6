-- Which operands and lines of a part can be written and read back, proved once for each way to make a part.
use Rattle.std.proofs.Common.{◌≡◌, ℕ, ◌<◌, ◌≤◌, ◌^◌, Bool, true, false, nat_lt, List, [], ◌∷◌, ◌++◌, map, Some, None, refl, arith}
use Rattle.std.specs.List.{AllByRecursion}
use Rattle.std.specs.declared.option.Option.{Option}
use Rattle.std.proofs.lemmas.Bool.Decides.{nat_tests}
use Rattle.abc_text_lines.specs.declared.reason.AsmReason.{AsmReason}
use Rattle.abc_text_lines.specs.declared.word.Word.{Word}
use Rattle.abc_text_lines.specs.declared.word.Word.TheVariants as words
use Rattle.abc_text_lines.specs.Lines.{Shown, Line, Labels}
use Rattle.abc_text_lines.specs.Operands.{Operand, Operands, any_number, by, operand_with_test, entry_upto, index_operand_below, index_upto, is_name, kind, none, number_below, map_operands, several, u30_operand, ◌&◌}
use Rattle.abc_text_lines.specs.Rows.{Faults, Head, ItemsFit, OptionFits, Rows, items_shown, empty_rows, option_shown}
use Rattle.abc_text_lines.specs.Wordlines.{always, flat_lines, lines_of_word}
use Rattle.abc_text_lines.specs.Texts.{Skips, label_step}
use Rattle.abc_disasm.proofs.ReadHeads.{is_line_word, line_head}
use Rattle.abc_disasm.proofs.Items.{CanBeShown}
use Rattle.abc_disasm.proofs.Matching.{IsStill}
use Rattle.abc_disasm.proofs.Readback.{AllStand}

-- ---- operands

module _ (leads : ℕ → Type 0) where
  -- each value that fits can be shown
  abbrev pub IsShown : {A : Type 0} → Operand A → Type 0
  IsShown {A} p = (x : A) → p.fits x → CanBeShown leads (p.item x)

  abbrev pub AreShown : {A : Type 0} → Operands A → Type 0
  AreShown {A} p = (x : A) → p.fits x → AllByRecursion (CanBeShown leads) (p.items x)

  pub number_below-shown : (bound : ℕ) → bound ≤ 2 ^ 64 → IsShown (number_below bound)
  unfolding any_number
  number_below-shown bound le x fits = let e : nat_lt x bound ≡ true = fits.1 in let lt : x < bound = grind (arith, nat_tests) in omega arith

  pub checked-shown : {A : Type 0} (test : A → Bool) (reason : AsmReason) (p : Operand A) → IsShown p → IsShown (operand_with_test test reason p)
  checked-shown test reason p shown x fits = shown x fits.0

  pub u30-shown : IsShown u30_operand
  u30-shown = number_below-shown (2 ^ 30) (omega arith)

  pub index_upto-shown : (size : ℕ) → IsShown (index_upto size)
  index_upto-shown size x fits = u30-shown x fits.0

  pub entry_upto-shown : (size : ℕ) → IsShown (entry_upto size)
  entry_upto-shown size x fits = u30-shown x fits.0

  pub index_below-shown : (size : ℕ) → IsShown (index_operand_below size)
  index_below-shown size x fits = u30-shown x fits.0

  pub kind-shown : {K : Type 0} (name : K → List ℕ) (named : List ℕ → Option K) (default : K) → ((k : K) → is_name (name k) ≡ true) → IsShown (kind name named default)
  kind-shown name named default are k fits = are k

  -- ---- the operands of a line

  pub none-shown : AreShown none
  none-shown x fits = tt

  pub by-shown : {A B : Type 0} (p : Operand A) (rest : Option A → Operands B) → IsShown p → ((x : A) → AreShown (rest (Some x))) → AreShown (by p rest)
  by-shown p rest first more x fits = (first x.0 fits.0, more x.0 x.1 fits.1)

  pub then-shown : {A B : Type 0} (p : Operand A) (others : Operands B) → IsShown p → AreShown others → AreShown (p & others)
  then-shown p others first more x fits = (first x.0 fits.0, more x.1 fits.1)

  pub several-shown : {A : Type 0} (p : Operand A) → IsShown p → AreShown (several p)
  several-shown p shown [] fits = tt
  several-shown p shown (x ∷ xs) fits = (shown x fits.0, several-shown p shown xs fits.1)

  pub seen-shown : {A B : Type 0} (f : A → B) (g : B → A) (p : Operands A) → AreShown p → AreShown (map_operands f g p)
  seen-shown f g p shown x fits = shown (g x) fits.0

-- ---- lines

-- a line's word, but not a body's
abbrev pub is_quiet : Word → Bool
is_quiet words.Body = false
is_quiet (words.Instruction op) = false
is_quiet words.Label = false
is_quiet words.Unknown = false
is_quiet _ = true

quiet_is : (w : Word) → is_quiet w ≡ true → (is_line_word w ≡ true) × (label_step w ≡ Skips)
quiet_is words.Abc e = (refl, refl)
quiet_is words.Int e = (refl, refl)
quiet_is words.UInt e = (refl, refl)
quiet_is words.Double e = (refl, refl)
quiet_is words.Text e = (refl, refl)
quiet_is words.Namespace e = (refl, refl)
quiet_is words.Set e = (refl, refl)
quiet_is words.Name e = (refl, refl)
quiet_is words.Method e = (refl, refl)
quiet_is words.Param e = (refl, refl)
quiet_is words.Optional e = (refl, refl)
quiet_is words.ParamName e = (refl, refl)
quiet_is words.Metadata e = (refl, refl)
quiet_is words.Entry e = (refl, refl)
quiet_is words.Instance e = (refl, refl)
quiet_is words.Protected e = (refl, refl)
quiet_is words.Implements e = (refl, refl)
quiet_is words.Initializer e = (refl, refl)
quiet_is words.Trait e = (refl, refl)
quiet_is words.TraitMetadata e = (refl, refl)
quiet_is words.Class e = (refl, refl)
quiet_is words.Script e = (refl, refl)
quiet_is words.Catch e = (refl, refl)
quiet_is words.Body e = absurd cc
quiet_is (words.Instruction op) e = absurd cc
quiet_is words.Label e = absurd cc
quiet_is words.Unknown e = absurd cc

-- a line that can be written and read back, and changes no labels
abbrev pub Sits : (ℕ → Type 0) → Shown → Type 0
Sits leads (Line w items) = (is_quiet w ≡ true) × AllByRecursion (CanBeShown leads) items
Sits leads (Labels n) = ⊥

abbrev pub AllSit : (ℕ → Type 0) → List Shown → Type 0
AllSit leads lines = AllByRecursion (Sits leads) lines

pub sit_stand : (leads : ℕ → Type 0) (lines : List Shown) → AllSit leads lines → AllStand leads lines
sit_stand leads [] all = tt
sit_stand leads (Line w items ∷ lines) all = ((line_head w (quiet_is w all.0.0).0, all.0.1), sit_stand leads lines all.1)
sit_stand leads (Labels n ∷ lines) all = absurd all.0

pub sit_still : (leads : ℕ → Type 0) (lines : List Shown) → AllSit leads lines → AllByRecursion IsStill lines
sit_still leads [] all = tt
sit_still leads (Line w items ∷ lines) all = ((quiet_is w all.0.0).1, sit_still leads lines all.1)
sit_still leads (Labels n ∷ lines) all = absurd all.0

-- ---- parts

module _ (leads : ℕ → Type 0) where
  pub two_sit : (a b : List Shown) → AllSit leads a → AllSit leads b → AllSit leads (a ++ b)
  two_sit [] b p q = q
  two_sit (x ∷ a) b p q = (p.0, two_sit a b p.1 q)

  -- each line of a value that fits
  abbrev pub LineSits : {H B : Type 0} → Head H B → Type 0
  LineSits {H} {B} head = (h : H) (y : B) → head.fits h y → Sits leads (Line (head.word h) (head.items h))

  -- each line of a part's values that fit
  abbrev pub Listed : {A : Type 0} → Rows A → Type 0
  Listed {A} p = (x : A) → p.fits x → AllSit leads (p.shows x)

  pub line-sits : {A B : Type 0} (w : Word) (p : Operands A) (agree : A → B → Type 0) → is_quiet w ≡ true → AreShown leads p → LineSits (lines_of_word w p agree)
  line-sits w p agree quiet shown h y fits = (quiet, shown h fits.0)

  pub many-sits : {H B : Type 0} (head : Head H B) (below : Rows B) → LineSits head → Listed below → (xs : List (H × B)) → ItemsFit head below xs → AllSit leads (items_shown head below xs)
  many-sits head below first more [] fit = tt
  many-sits head below first more (x ∷ xs) fit = (first x.0 x.1 fit.0, two_sit (below.shows x.1) (items_shown head below xs) (more x.1 fit.1) (many-sits head below first more xs fit.2))

  pub flat-sits : {A : Type 0} (faults : Faults) (w : Word) (p : Operands A) (n : ℕ) → is_quiet w ≡ true → AreShown leads p → Listed (flat_lines faults w p n)
  flat-sits {A} faults w p n quiet shown xs fit = many-sits (lines_of_word w p always) empty_rows (line-sits w p always quiet shown) (λ y f. tt) (map (λ (x : A). (x, tt)) xs) fit

  pub optional-sits : {H B : Type 0} (head : Head H B) (below : Rows B) → LineSits head → Listed below → (o : Option (H × B)) → OptionFits head below o → AllSit leads (option_shown head below o)
  optional-sits head below first more None fit = tt
  optional-sits head below first more (Some x) fit = (first x.0 x.1 fit.0, more x.1 fit.1)
