-- The ledger counts the flat cells.
use Rattle.std.proofs.Common.{◌≡◌, ℕ, suc, ◌+◌, ◌<◌, ◌≤◌, Bool, true, false, cond, List, [], ◌∷◌, Some, length, refl, sym, ap, ◌∙◌, arith, inl, inr}
use Rattle.std.specs.Prelude.{slice_get}
use Rattle.std.proofs.lemmas.Bool.{cases_eq}
use Rattle.std.proofs.lemmas.List.{length-map}
use Rattle.abc_heap_values.specs.declared.cell.Cell.{Cell}
use Rattle.abc_heap_values.specs.declared.cell.Lane.{Lane}
use Rattle.abc_heap_values.specs.declared.cell.Lane.TheVariants.{Slots, Properties, Elements}
use Rattle.abc_heap_values.specs.Lanes.{lane_of, same_lane, belongs_to_lane, cells_of_lane, value_of_held, property_in}
use Rattle.abc_heap_values.specs.Links.{Link, link_of, links}
use Rattle.abc_heap_values.proofs.Grows.{is_in_own}
use Rattle.abc_heap_values.proofs.Owned.{is_of_other, is_of_lane}
use Rattle.abc_heap_store.specs.declared.heads.Head.{Head}
use Rattle.abc_heap_store.specs.Heap.{all_cells, cells_of}
use Rattle.abc_heap_store.specs.View.{object_viewed, objects, AreObjectHeads}

abbrev sizes : ℕ → List Cell → ℕ
sizes o cells = length (cells_of_lane o Slots cells) + length (cells_of_lane o Properties cells) + length (cells_of_lane o Elements cells)

cells_are : (cells : List Cell) (o : ℕ) (h : Head) → cells_of (object_viewed cells o h) ≡ sizes o cells
cells_are cells o h = omega (arith, length-map (cells_of_lane o Slots cells) (λ (c : Cell). value_of_held c.held), length-map (cells_of_lane o Properties cells) (λ (c : Cell). property_in c.held), length-map (cells_of_lane o Elements cells) (λ (c : Cell). value_of_held c.held))

put_in : (b : Bool) (c : Cell) (cs : List Cell) → b ≡ true → length (cond b (c ∷ cs) cs) ≡ length cs + 1
put_in true c cs e = omega arith
put_in false c cs e = absurd cc

left_out : (b : Bool) (c : Cell) (cs : List Cell) → b ≡ false → length (cond b (c ∷ cs) cs) ≡ length cs
left_out false c cs e = refl
left_out true c cs e = absurd cc

sizes_own : (c : Cell) (cells : List Cell) (l : Lane) → lane_of c.held ≡ l → sizes c.owner (c ∷ cells) ≡ sizes c.owner cells + 1
sizes_own c cells Slots e = omega (arith, put_in (belongs_to_lane c.owner Slots c) c (cells_of_lane c.owner Slots cells) (is_in_own (link_of c) c.owner Slots refl e), left_out (belongs_to_lane c.owner Properties c) c (cells_of_lane c.owner Properties cells) (is_of_lane c c.owner Properties (ap (λ m. same_lane m Properties) e)), left_out (belongs_to_lane c.owner Elements c) c (cells_of_lane c.owner Elements cells) (is_of_lane c c.owner Elements (ap (λ m. same_lane m Elements) e)))
sizes_own c cells Properties e = omega (arith, put_in (belongs_to_lane c.owner Properties c) c (cells_of_lane c.owner Properties cells) (is_in_own (link_of c) c.owner Properties refl e), left_out (belongs_to_lane c.owner Slots c) c (cells_of_lane c.owner Slots cells) (is_of_lane c c.owner Slots (ap (λ m. same_lane m Slots) e)), left_out (belongs_to_lane c.owner Elements c) c (cells_of_lane c.owner Elements cells) (is_of_lane c c.owner Elements (ap (λ m. same_lane m Elements) e)))
sizes_own c cells Elements e = omega (arith, put_in (belongs_to_lane c.owner Elements c) c (cells_of_lane c.owner Elements cells) (is_in_own (link_of c) c.owner Elements refl e), left_out (belongs_to_lane c.owner Slots c) c (cells_of_lane c.owner Slots cells) (is_of_lane c c.owner Slots (ap (λ m. same_lane m Slots) e)), left_out (belongs_to_lane c.owner Properties c) c (cells_of_lane c.owner Properties cells) (is_of_lane c c.owner Properties (ap (λ m. same_lane m Properties) e)))

sizes_other : (c : Cell) (cells : List Cell) (o : ℕ) → (o ≡ c.owner → ⊥) → sizes o (c ∷ cells) ≡ sizes o cells
sizes_other c cells o n = omega (arith, left_out (belongs_to_lane o Slots c) c (cells_of_lane o Slots cells) (is_of_other c c.owner o Slots refl n), left_out (belongs_to_lane o Properties c) c (cells_of_lane o Properties cells) (is_of_other c c.owner o Properties refl n), left_out (belongs_to_lane o Elements c) c (cells_of_lane o Elements cells) (is_of_other c c.owner o Elements refl n))

none_more : (c : Cell) (cells : List Cell) (m : ℕ) (hs : List Head) → c.owner < m → all_cells (objects (c ∷ cells) m hs) ≡ all_cells (objects cells m hs)
none_more c cells m [] b = refl
none_more c cells m (h ∷ hs) b =
    let n : m ≡ c.owner → ⊥ = λ (q : m ≡ c.owner). absurd (omega arith) in
    omega (arith, none_more c cells (m + 1) hs (omega arith), cells_are (c ∷ cells) m h, cells_are cells m h, sizes_other c cells m n)

one_more : (c : Cell) (cells : List Cell) (m : ℕ) (hs : List Head) → m ≤ c.owner → c.owner < m + length hs → all_cells (objects (c ∷ cells) m hs) ≡ all_cells (objects cells m hs) + 1
one_more c cells m [] b d = absurd (omega arith)
one_more c cells m (h ∷ hs) b d = elim (cases_eq m c.owner) [
  | inl q ↦
      let s : sizes m (c ∷ cells) ≡ sizes m cells + 1 = ap (λ n. sizes n (c ∷ cells)) q ∙ (sizes_own c cells (lane_of c.held) refl ∙ ap (λ n. sizes n cells + 1) (sym q)) in
      omega (arith, none_more c cells (m + 1) hs (omega arith), cells_are (c ∷ cells) m h, cells_are cells m h, s)
  | inr n ↦ omega (arith, one_more c cells (m + 1) hs (omega arith) (omega arith), cells_are (c ∷ cells) m h, cells_are cells m h, sizes_other c cells m n)
]

no_cells : (m : ℕ) (hs : List Head) → all_cells (objects [] m hs) ≡ 0
no_cells m [] = refl
no_cells m (h ∷ hs) = omega (arith, no_cells (m + 1) hs)

all_counted : (cells : List Cell) (hs : List Head) → ((i : ℕ) (x : Link) → slice_get (links cells) i ≡ Some x → x.owner < length hs) → all_cells (objects cells 0 hs) ≡ length cells
all_counted [] hs f = no_cells 0 hs
all_counted (c ∷ cells) hs f = omega (arith, one_more c cells 0 hs (omega arith) (omega (arith, f 0 (link_of c) refl)), all_counted cells hs (λ i x e. f (i + 1) x (at_next i x e)))
  where
    at_next : (i : ℕ) (x : Link) → slice_get (links cells) i ≡ Some x → slice_get (link_of c ∷ links cells) (i + 1) ≡ Some x
    at_next i x e = let q : i + 1 ≡ suc i = omega arith in ap (slice_get (link_of c ∷ links cells)) q ∙ e

pub ledger : (cells : List Cell) (hs : List Head) → AreObjectHeads (links cells) hs → all_cells (objects cells 0 hs) ≡ length cells
ledger cells hs a = all_counted cells hs a.owners
