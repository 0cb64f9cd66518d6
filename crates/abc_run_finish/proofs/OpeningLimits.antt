-- The counts of the opening against the limits, in the words of the meaning.
use Rattle.std.proofs.Common.{◌≡◌, ℕ, ◌<◌, ◌≤◌, List, Bool, true, false, length, refl, sym, ap, ◌∙◌, arith, if◌then◌else◌}
use Rattle.std.specs.Prelude.{None, Some, nat_lt}
use Rattle.std.specs.declared.option.Option.{Option}
use Rattle.std.proofs.lemmas.Bool.{ltb-false, ltb-true}
use Rattle.std.proofs.lemmas.List.{length-map}
use Rattle.abc_heap_store.specs.Heap.{Heap, cells_used, ledger}
use Rattle.abc_heap_store.specs.declared.records.Limit.{Limit}
use Rattle.abc_heap_store.specs.declared.records.Limit.TheVariants as limit
use Rattle.abc_heap_store.specs.declared.records.Limits.{Limits}
use Rattle.abc_meaning.specs.Meaning.{first_world, too_small}
use Rattle.abc_base.specs.declared.formula.Formula.{Formula}
use Rattle.abc_objects.specs.Opening.{IsHeapOpened, IsUnopened, IsOpeningWithin, PassesAtOpening, formula_names, opening, opening_counts}
use Rattle.abc_objects.specs.declared.error.OpenError.{OpenError}
use Rattle.abc_objects.specs.declared.error.OpenError.TheVariants as errors
use Rattle.abc_objects.proofs.Steps.{ledger_opened}
use Rattle.abc_meaning.specs.Openings.{IsOpeningRefused, setting}
use Rattle.abc_link_names.specs.Linked.{IsLinkedFile, LinkedFile}

is_less : (a b : ℕ) → a < b → nat_lt a b ≡ true
is_less a b h = go (nat_lt a b) refl
  where
    go : (t : Bool) → nat_lt a b ≡ t → nat_lt a b ≡ true
    go true e = e
    go false e = let c : b ≤ a = ltb-false a b e in absurd (omega (arith, h, c))

is_no_less : (a b : ℕ) → b ≤ a → nat_lt a b ≡ false
is_no_less a b h = go (nat_lt a b) refl
  where
    go : (t : Bool) → nat_lt a b ≡ t → nat_lt a b ≡ false
    go true e = let c : a < b = ltb-true a b e in absurd (omega (arith, h, c))
    go false e = e

abbrev small_by : Bool → Bool → Option Limit
small_by a b = if a then Some limit.Objects else (if b then Some limit.Cells else None)

small_is : (h : Heap) (a b : Bool) → nat_lt h.limits.objects (length h.objects) ≡ a → nat_lt h.limits.cells (cells_used h) ≡ b → too_small h ≡ small_by a b
small_is h a b e f = ap (λ (t : Bool). small_by t (nat_lt h.limits.cells (cells_used h))) e ∙ ap (small_by a) f

pub is_large : (h : Heap) (counts : Limits) → ledger h ≡ counts → IsOpeningWithin counts h.limits → too_small h ≡ None
is_large h counts e w =
    let objects = ap (λ (l : Limits). l.objects) e in
    let cells = ap (λ (l : Limits). l.cells) e in
    small_is h false false (is_no_less h.limits.objects (length h.objects) (omega (arith, objects, w))) (is_no_less h.limits.cells (cells_used h) (omega (arith, cells, w)))

pub is_small : (h : Heap) (counts : Limits) (which : Limit) → ledger h ≡ counts → PassesAtOpening counts h.limits which → too_small h ≡ Some which
is_small h counts limit.Objects e w =
    let objects = ap (λ (l : Limits). l.objects) e in
    ap (λ (t : Bool). small_by t (nat_lt h.limits.cells (cells_used h))) (is_less h.limits.objects (length h.objects) (omega (arith, objects, w)))
is_small h counts limit.Cells e w =
    let objects = ap (λ (l : Limits). l.objects) e in
    let cells = ap (λ (l : Limits). l.cells) e in
    small_is h false true (is_no_less h.limits.objects (length h.objects) (omega (arith, objects, w))) (is_less h.limits.cells (cells_used h) (omega (arith, cells, w)))
is_small h counts limit.Text e w = absurd w
is_small h counts limit.Frames e w = absurd w
is_small h counts limit.Stack e w = absurd w

-- ---- a file's opening

pub fits_in : (l : LinkedFile) (fs : List Formula) (limits : Limits) (h : Heap) → IsLinkedFile l → IsHeapOpened l (formula_names fs) limits h → too_small (first_world (setting l fs) limits).heap ≡ None
fits_in l fs limits h k o =
    let counts = opening_counts l (length (formula_names fs)) in
    let same : opening_counts l (length fs) ≡ counts = ap (opening_counts l) (sym (length-map fs (λ (f : Formula). f.name))) in
    is_large (opening l (formula_names fs) limits) counts (ledger_opened l fs limits (opening l (formula_names fs) limits) k refl ∙ same) o.0

pub refused : (l : LinkedFile) (fs : List Formula) (limits : Limits) (e : OpenError) → IsLinkedFile l → IsUnopened (opening_counts l (length fs)) limits e → IsOpeningRefused (setting l fs) limits e
refused l fs limits errors.NoMemory k u = tt
refused l fs limits (errors.TooSmall which) k u = is_small (opening l (formula_names fs) limits) (opening_counts l (length fs)) which (ledger_opened l fs limits (opening l (formula_names fs) limits) k refl) u
