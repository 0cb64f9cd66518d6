-- Walks along the links.
use Rattle.std.proofs.Common.{◌≡◌, ℕ, ◌<◌, ◌≤◌, List, Some, length, take, sym, ap, ◌∙◌, subst, arith}
use Rattle.std.specs.Prelude.{slice_get, option_map}
use Rattle.std.proofs.lemmas.Option.{slice_get-map, slice_get_within}
use Rattle.std.proofs.lemmas.List.{length-map, length-take}
use Rattle.abc_heap_values.specs.declared.cell.Cell.{Cell}
use Rattle.abc_heap_values.specs.declared.cell.Lane.{Lane}
use Rattle.abc_heap_values.specs.Lanes.{lane_of}
use Rattle.abc_heap_values.specs.Links.{Link, link_of, links, IsCellAt, IsCellBelow, IsLinked, AreLinked, IsCellReached, IsUnder}
use Rattle.abc_heap_values.proofs.Parts.{slice_get_take, slice_get_some}

pub link_at : (cells : List Cell) (i : ℕ) (c : Cell) → slice_get cells i ≡ Some c → slice_get (links cells) i ≡ Some (link_of c)
link_at cells i c e = slice_get-map link_of cells i ∙ ap (option_map link_of) e

-- what is said of a place among the earlier cells holds among all
pub linked_at : (cells : List Cell) (i : ℕ) (c : Cell) → AreLinked (links cells) → slice_get cells i ≡ Some c → IsLinked (take i (links cells)) (link_of c)
linked_at cells i c l e = l i (link_of c) (link_at cells i c e)

pub jump_in : (cells : List Cell) (i : ℕ) (c : Cell) (k : ℕ) → AreLinked (links cells) → slice_get cells i ≡ Some c → k < c.position → (c.jump < i) × (c.before < i) × (i < length cells)
jump_in cells i c k l e b =
    let p : 0 < c.position = omega arith in
    let m = linked_at cells i c l e in
    let j : c.jump < length (take i (links cells)) = (m.jump p).inside in
    let h : c.before < length (take i (links cells)) = (m.before p).inside in
    let w : i < length cells = slice_get_within cells i c e in
    (omega (arith, length-take i (links cells)), omega (arith, length-take i (links cells)), w)

pub nearer_jump : (cells : List Cell) (i : ℕ) (c d : Cell) (k : ℕ) → AreLinked (links cells) → slice_get cells i ≡ Some c → slice_get cells c.jump ≡ Some d → k < c.position → k ≤ d.position → IsCellReached (links cells) i c.jump k
nearer_jump cells i c d k l e f below above = record {
  inside = slice_get_within (links cells) c.jump (link_of d) (link_at cells c.jump d f);
  is = λ x y ex ey.
      let a : slice_get (links cells) i ≡ Some (link_of c) = link_at cells i c e in
      let j : c.jump < i = (jump_in cells i c k l e below).0 in
      let t : slice_get (take i (links cells)) c.jump ≡ Some y = slice_get_take i (links cells) c.jump j ∙ ey in
      let s = ((linked_at cells i c l e).jump (omega arith)).is y t in
      let b : slice_get (links cells) c.jump ≡ Some (link_of d) = link_at cells c.jump d f in
      let q : link_of c ≡ x = cc in
      let r : link_of d ≡ y = cc in
      (s.0 ∙ ap (λ (z : Link). z.owner) q, s.1 ∙ ap (λ (z : Link). z.lane) q, subst (λ (z : Link). k ≤ z.position) r above);
}

pub nearer_before : (cells : List Cell) (i : ℕ) (c : Cell) (k : ℕ) → AreLinked (links cells) → slice_get cells i ≡ Some c → k < c.position → IsCellReached (links cells) i c.before k
nearer_before cells i c k l e below =
    let j = jump_in cells i c k l e below in
    record {
      inside = omega (arith, length-map cells link_of, j);
      is = λ x y ex ey.
          let a : slice_get (links cells) i ≡ Some (link_of c) = link_at cells i c e in
          let t : slice_get (take i (links cells)) c.before ≡ Some y = slice_get_take i (links cells) c.before j.1 ∙ ey in
          let s = ((linked_at cells i c l e).before (omega arith)).is y t in
          let q : link_of c ≡ x = cc in
          (s.0 ∙ ap (λ (z : Link). z.owner) q, s.1 ∙ ap (λ (z : Link). z.lane) q, omega (arith, s.2));
    }

pub reached_self : (cells : List Cell) (i k : ℕ) → IsCellReached (links cells) i i k → (c : Cell) → slice_get cells i ≡ Some c → k ≤ c.position
reached_self cells i k r c e = (r.is (link_of c) (link_of c) (link_at cells i c e) (link_at cells i c e)).2

pub reached_on : (cells : List Cell) (i j m k : ℕ) → IsCellReached (links cells) i j k → IsCellReached (links cells) j m k → IsCellReached (links cells) i m k
reached_on cells i j m k r s = record {
  inside = s.inside;
  is = λ x z ex ez.
      let w = slice_get_some (links cells) j r.inside in
      let a = r.is x w.0 ex w.1 in
      let b = s.is w.0 z w.1 ez in
      (b.0 ∙ a.0, b.1 ∙ a.1, b.2);
}

pub reached_at : (cells : List Cell) (i j k : ℕ) (c d : Cell) → IsCellReached (links cells) i j k → slice_get cells i ≡ Some c → slice_get cells j ≡ Some d → d.position ≡ k → IsCellAt (links cells) j c.owner (lane_of c.held) k
reached_at cells i j k c d r e f p = record {
  inside = r.inside;
  is = λ y ey.
      let s = r.is (link_of c) y (link_at cells i c e) ey in
      let b : slice_get (links cells) j ≡ Some (link_of d) = link_at cells j d f in
      let q : link_of d ≡ y = cc in
      (s.0, s.1, sym (ap (λ (z : Link). z.position) q) ∙ p);
}

pub reached_above : (cells : List Cell) (i j k : ℕ) (c d : Cell) → i < length (links cells) → IsCellReached (links cells) i j k → slice_get cells j ≡ Some d → (d.position ≡ k → ⊥) → slice_get cells j ≡ Some c → k < c.position
reached_above cells i j k c d b r e n f =
    let w = slice_get_some (links cells) i b in
    let s = r.is w.0 (link_of c) w.1 (link_at cells j c f) in
    let q : c ≡ d = cc in
    let p : c.position ≡ d.position = ap (λ (z : Cell). z.position) q in
    let m : c.position ≡ k → ⊥ = λ (h : c.position ≡ k). n (sym p ∙ h) in
    omega (arith, s.2, m)

pub under_self : (xs : List Link) (i : ℕ) → i < length xs → IsUnder xs i i
under_self xs i b = record {
  inside = b;
  is = λ x y ex ey. let q : x ≡ y = cc in (sym (ap (λ (z : Link). z.owner) q), sym (ap (λ (z : Link). z.lane) q), subst (λ (z : Link). z.position ≤ x.position) q (omega arith));
}

pub under_jump : (cells : List Cell) (i : ℕ) (c : Cell) → AreLinked (links cells) → slice_get cells i ≡ Some c → (c.position ≡ 0 → ⊥) → IsUnder (links cells) i c.jump
under_jump cells i c l e n =
    let j = jump_in cells i c 0 l e (omega arith) in
    record {
      inside = omega (arith, length-map cells link_of, j);
      is = λ x y ex ey.
          let a : slice_get (links cells) i ≡ Some (link_of c) = link_at cells i c e in
          let t : slice_get (take i (links cells)) c.jump ≡ Some y = slice_get_take i (links cells) c.jump j.0 ∙ ey in
          let s = ((linked_at cells i c l e).jump (omega arith)).is y t in
          let q : link_of c ≡ x = cc in
          (s.0 ∙ ap (λ (z : Link). z.owner) q, s.1 ∙ ap (λ (z : Link). z.lane) q, subst (λ (z : Link). y.position ≤ z.position) q (omega (arith, s.2)));
    }

pub under_on : (xs : List Link) (i j k : ℕ) → IsUnder xs i j → IsUnder xs j k → IsUnder xs i k
under_on xs i j k r s = record {
  inside = s.inside;
  is = λ x z ex ez.
      let w = slice_get_some xs j r.inside in
      let a = r.is x w.0 ex w.1 in
      let b = s.is w.0 z w.1 ez in
      (b.0 ∙ a.0, b.1 ∙ a.1, omega (arith, a.2, b.2));
}

pub under_le : (cells : List Cell) (i j : ℕ) (c d : Cell) → IsUnder (links cells) i j → slice_get cells i ≡ Some c → slice_get cells j ≡ Some d → d.position ≤ c.position
under_le cells i j c d u e f = (u.is (link_of c) (link_of d) (link_at cells i c e) (link_at cells j d f)).2

pub below_from : (xs : List Link) (i j : ℕ) (o : ℕ) (l : Lane) (k n : ℕ) → IsCellAt xs i o l k → IsUnder xs i j → k < n → IsCellBelow xs j o l n
below_from xs i j o l k n a u b = record {
  inside = u.inside;
  is = λ y ey.
      let w = slice_get_some xs i a.inside in
      let s = a.is w.0 w.1 in
      let t = u.is w.0 y w.1 ey in
      (t.0 ∙ s.0, t.1 ∙ s.1, omega (arith, t.2, s.2));
}
