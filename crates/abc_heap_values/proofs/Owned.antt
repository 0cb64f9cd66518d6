-- The lists of an object after a write and after one more cell, and of all other objects.
use Rattle.std.proofs.Common.{◌≡◌, ℕ, zero, suc, Bool, true, false, cond, List, [], ◌∷◌, ◌++◌, Some, length, take, map, set, refl, sym, ap, ◌∙◌}
use Rattle.std.specs.Prelude.{slice_get, filter, nat_eq, ◌&&◌}
use Rattle.std.proofs.lemmas.Bool.{ne_eqb, and_left, and_right}
use Rattle.std.proofs.lemmas.List.Elements.{filter-append}
use Rattle.abc_heap_values.specs.declared.cell.Cell.{Cell}
use Rattle.abc_heap_values.specs.declared.cell.Held.{Held}
use Rattle.abc_heap_values.specs.declared.cell.Lane.{Lane}
use Rattle.abc_heap_values.specs.Lanes.{lane_of, same_lane, belongs_to_lane, cells_of_lane}
use Rattle.abc_heap_values.specs.Links.{Link, link_of, links, is_in_lane, count, IsCellAt, AreLinked, held_at}
use Rattle.abc_heap_values.proofs.Parts.{filter_at, filter_set_in, filter_set_out}
use Rattle.abc_heap_values.proofs.Walks.{link_at}
use Rattle.abc_heap_values.proofs.Grows.{is_in_own, set_held}

step : (b : Bool) (x : Link) (xs : List Link) (c : Cell) (cs : List Cell) → length xs ≡ length cs → length (cond b (x ∷ xs) xs) ≡ length (cond b (c ∷ cs) cs)
step true x xs c cs e = ap suc e
step false x xs c cs e = e

pub count_owned : (o : ℕ) (l : Lane) (cells : List Cell) → count o l (links cells) ≡ length (cells_of_lane o l cells)
count_owned o l [] = refl
count_owned o l (c ∷ cells) = step (belongs_to_lane o l c) (link_of c) (filter (is_in_lane o l) (links cells)) c (cells_of_lane o l cells) (count_owned o l cells)

take_links : (i : ℕ) (cells : List Cell) → take i (links cells) ≡ links (take i cells)
take_links zero cells = refl
take_links (suc i) [] = refl
take_links (suc i) (c ∷ cells) = ap (λ r. link_of c ∷ r) (take_links i cells)

-- the position of a cell is its place in its list
pub ranked : (cells : List Cell) (i o : ℕ) (l : Lane) (k : ℕ) (c : Cell) → AreLinked (links cells) → IsCellAt (links cells) i o l k → slice_get cells i ≡ Some c → length (cells_of_lane o l (take i cells)) ≡ k
ranked cells i o l k c a h e =
    let x = link_at cells i c e in
    let s = h.is (link_of c) x in
    let n : c.position ≡ count c.owner (lane_of c.held) (take i (links cells)) = (a i (link_of c) x).counted in
    let m : count c.owner (lane_of c.held) (take i (links cells)) ≡ count o l (take i (links cells)) = ap (λ p. count p (lane_of c.held) (take i (links cells))) s.0 ∙ ap (λ p. count o p (take i (links cells))) s.1 in
    sym (sym s.2 ∙ (n ∙ (m ∙ (ap (count o l) (take_links i cells) ∙ count_owned o l (take i cells)))))

pub is_of_at : (cells : List Cell) (i o : ℕ) (l : Lane) (k : ℕ) (c : Cell) → IsCellAt (links cells) i o l k → slice_get cells i ≡ Some c → belongs_to_lane o l c ≡ true
is_of_at cells i o l k c h e = let s = h.is (link_of c) (link_at cells i c e) in is_in_own (link_of c) o l s.0 s.1

pub owned_at : (cells : List Cell) (i o : ℕ) (l : Lane) (k : ℕ) (c : Cell) → AreLinked (links cells) → IsCellAt (links cells) i o l k → slice_get cells i ≡ Some c → slice_get (cells_of_lane o l cells) k ≡ Some c
owned_at cells i o l k c a h e = ap (slice_get (cells_of_lane o l cells)) (sym (ranked cells i o l k c a h e)) ∙ filter_at (belongs_to_lane o l) cells i c e (is_of_at cells i o l k c h e)

-- a write, in the list that the cell belongs to
pub owned_held : (cells : List Cell) (i o : ℕ) (l : Lane) (k : ℕ) (c : Cell) (h : Held) → AreLinked (links cells) → IsCellAt (links cells) i o l k → slice_get cells i ≡ Some c → lane_of h ≡ l → cells_of_lane o l (held_at cells i h) ≡ held_at (cells_of_lane o l cells) k h
owned_held cells i o l k c h a at e same =
    let s = at.is (link_of c) (link_at cells i c e) in
    ap (cells_of_lane o l) (sym (set_held cells i c h e))
    ∙ (filter_set_in (belongs_to_lane o l) cells i c (record c { held = h }) e (is_of_at cells i o l k c at e) (is_in_own (link_of (record c { held = h })) o l s.0 same)
    ∙ (ap (λ n. set (cells_of_lane o l cells) n (record c { held = h })) (ranked cells i o l k c a at e)
    ∙ set_held (cells_of_lane o l cells) k c h (owned_at cells i o l k c a at e)))

-- a write, in every other list
pub owned_apart : (cells : List Cell) (i : ℕ) (c : Cell) (h : Held) (o : ℕ) (l : Lane) → slice_get cells i ≡ Some c → belongs_to_lane o l c ≡ false → lane_of h ≡ lane_of c.held → cells_of_lane o l (held_at cells i h) ≡ cells_of_lane o l cells
owned_apart cells i c h o l e f same =
    ap (cells_of_lane o l) (sym (set_held cells i c h e)) ∙ filter_set_out (belongs_to_lane o l) cells i c (record c { held = h }) e f (ap (λ m. nat_eq c.owner o && same_lane m l) same ∙ f)

-- the links stay
pub links_held : (cells : List Cell) (i : ℕ) (c : Cell) (h : Held) → slice_get cells i ≡ Some c → lane_of h ≡ lane_of c.held → links (held_at cells i h) ≡ links cells
links_held (x ∷ cells) zero c h e s = let q : x ≡ c = cc in ap (λ m. (record (link_of x) { lane = m }) ∷ links cells) (s ∙ ap (λ (z : Cell). lane_of z.held) (sym q))
links_held (x ∷ cells) (suc i) c h e s = ap (λ r. link_of x ∷ r) (links_held cells i c h e s)
links_held [] i c h e s = absurd cc

-- another owner, or another list
pub is_of_other : (c : Cell) (o p : ℕ) (l : Lane) → c.owner ≡ o → (p ≡ o → ⊥) → belongs_to_lane p l c ≡ false
is_of_other c o p l e n = and_left (nat_eq c.owner p) (same_lane (lane_of c.held) l) (ne_eqb c.owner p (λ q. n (sym q ∙ e)))

pub is_of_lane : (c : Cell) (o : ℕ) (l : Lane) → same_lane (lane_of c.held) l ≡ false → belongs_to_lane o l c ≡ false
is_of_lane c o l e = and_right (nat_eq c.owner o) (same_lane (lane_of c.held) l) e

-- one more cell
pub owned_more : (cells : List Cell) (c : Cell) (o : ℕ) (l : Lane) → belongs_to_lane o l c ≡ true → cells_of_lane o l (cells ++ c ∷ []) ≡ cells_of_lane o l cells ++ c ∷ []
owned_more cells c o l t = filter-append (belongs_to_lane o l) cells (c ∷ []) ∙ ap (λ b. cells_of_lane o l cells ++ cond b (c ∷ []) []) t

pub owned_past : (cells : List Cell) (c : Cell) (o : ℕ) (l : Lane) → belongs_to_lane o l c ≡ false → cells_of_lane o l (cells ++ c ∷ []) ≡ cells_of_lane o l cells ++ []
owned_past cells c o l t = filter-append (belongs_to_lane o l) cells (c ∷ []) ∙ ap (λ b. cells_of_lane o l cells ++ cond b (c ∷ []) []) t

-- what is held, as a list
pub map_held : {X : Type 0} (f : Held → X) (cells : List Cell) (k : ℕ) (h : Held) → map (λ (c : Cell). f c.held) (held_at cells k h) ≡ set (map (λ (c : Cell). f c.held) cells) k (f h)
map_held f [] k h = refl
map_held f (c ∷ cells) zero h = refl
map_held f (c ∷ cells) (suc k) h = ap (λ r. f c.held ∷ r) (map_held f cells k h)
