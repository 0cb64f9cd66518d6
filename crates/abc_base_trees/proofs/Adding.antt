-- Ranges hang one after the other, each level by level.
use Rattle.std.proofs.Common.{◌≡◌, ℕ, zero, suc, ◌+◌, ◌-◌, ◌*◌, ◌/◌, ◌%◌, ◌≤◌, ◌<◌, List, [], ◌⊎◌, Some, None, length, refl, sym, ap, ◌∙◌, subst, arith, inl, inr}
use Rattle.std.specs.Prelude.{Bool, true, false, slice_get}
use Rattle.std.proofs.lemmas.Bool.{cases_Bool, cases_eq, cases_lt}
use Rattle.std.proofs.lemmas.Option.{slice_get_within}
use Rattle.abc_base_trees.specs.Adding.{AddsAtNode, HangFrom, Spans}
use Rattle.abc_base_trees.specs.Hanging.{Hangs, first_link}
use Rattle.abc_base_trees.specs.Hung.{AreHung, Covers, HangsAt, leaf, leaves, levels_above}
use Rattle.abc_base_trees.specs.Pieces.{AreBounds, piece}
use Rattle.abc_base_trees.specs.declared.hang.Hang.{Hang}
use Rattle.abc_base_trees.specs.declared.hang.Range.{Range}
use Rattle.abc_base_trees.specs.declared.stabs.Stabs.{Stabs}
use Rattle.abc_base_trees.proofs.Hanging.{hangs_none, hangs_split}
use Rattle.abc_base_trees.proofs.Levels.{only_these}
use Rattle.abc_base_trees.proofs.Pieces.{piece_few, piece_over, piece_up}

-- so far; what is left is what lies between two nodes of a level
pub record IsHanging (number from to : ℕ) (t u : Stabs) (low high : ℕ) : Type 0 where
  pub level : ℕ
  pub bounds : u.bounds.items ≡ t.bounds.items
  pub long : length u.firsts ≡ length t.firsts
  pub above : 0 < low
  pub below : high ≤ to
  pub inside : (z : ℕ) → low ≤ levels_above level z → levels_above level z < high → (from ≤ z) × (z < to)
  pub keeps : (n k : ℕ) → HangsAt t n k → HangsAt u n k
  pub gets : (x : ℕ) → from ≤ x → x < to → ((j : ℕ) × HangsAt u (levels_above j x) number) ⊎ ((low ≤ levels_above level x) × (levels_above level x < high))
  pub only : (j k x : ℕ) → leaves t ≤ x → x < 2 * leaves t → HangsAt u (levels_above j x) k → HangsAt t (levels_above j x) k ⊎ ((k ≡ number) × (from ≤ x) × (x < to))

pub hanging_first : (number from to : ℕ) (t : Stabs) → 0 < from → IsHanging number from to t t from to
hanging_first number from to t pos = record { level = 0; bounds = refl; long = refl; above = pos; below = omega arith; inside = λ z a b. (a, b); keeps = λ n k g. g; gets = λ x a b. inr (a, b); only = λ j k x a b g. inl g }

pub hanging_more : (number from to : ℕ) (t u v w : Stabs) (low high : ℕ) (a b : Bool) → leaves t ≤ from → to ≤ 2 * leaves t → low < high
    → (a ≡ true → low % 2 ≡ 1) → (a ≡ false → low % 2 ≡ 0) → (b ≡ true → high % 2 ≡ 1) → (b ≡ false → high % 2 ≡ 0)
    → IsHanging number from to t u low high → AddsAtNode a low number u v → AddsAtNode b (high - 1) number v w → IsHanging number from to t w ((low + 1) / 2) (high / 2)
hanging_more number from to t u v w low high a b least most lt ao ae bo be h p q = record {
  level = suc h.level;
  bounds = q.bounds ∙ p.bounds ∙ h.bounds;
  long = q.long ∙ p.long ∙ h.long;
  above = let z = h.above in omega arith;
  below = let z = h.below in omega arith;
  inside = λ z c d. h.inside z (omega arith) (omega arith);
  keeps = λ n k g. q.keeps n k (p.keeps n k (h.keeps n k g));
  gets = gets;
  only = only;
}
  where
    kept : (x : ℕ) → (j : ℕ) × HangsAt u (levels_above j x) number → (j : ℕ) × HangsAt w (levels_above j x) number
    kept x r = (r.0, q.keeps (levels_above r.0 x) number (p.keeps (levels_above r.0 x) number r.1))

    at_low : (x : ℕ) → a ≡ true → levels_above h.level x ≡ low → (j : ℕ) × HangsAt w (levels_above j x) number
    at_low x on e = (h.level, subst (λ (n : ℕ). HangsAt w n number) (sym e) (q.keeps low number (p.gets on)))

    at_high : (x : ℕ) → b ≡ true → levels_above h.level x ≡ high - 1 → (j : ℕ) × HangsAt w (levels_above j x) number
    at_high x on e = (h.level, subst (λ (n : ℕ). HangsAt w n number) (sym e) (q.gets on))

    further : (x : ℕ) → low ≤ levels_above h.level x → levels_above h.level x < high → ((j : ℕ) × HangsAt w (levels_above j x) number) ⊎ (((low + 1) / 2 ≤ levels_above h.level x / 2) × (levels_above h.level x / 2 < high / 2))
    further x c d = elim (cases_eq (levels_above h.level x) low) [
      | inl e ↦ elim (cases_Bool a) [ inl on ↦ inl (at_low x on e) | inr off ↦ (let z = ae off in ends x c d (omega arith)) ]
      | inr ne ↦ ends x c d (omega arith)
    ]
      where
        ends : (x : ℕ) → low ≤ levels_above h.level x → levels_above h.level x < high → (low + 1) / 2 ≤ levels_above h.level x / 2 → ((j : ℕ) × HangsAt w (levels_above j x) number) ⊎ (((low + 1) / 2 ≤ levels_above h.level x / 2) × (levels_above h.level x / 2 < high / 2))
        ends x c d le = elim (cases_eq (levels_above h.level x) (high - 1)) [
          | inl e ↦ elim (cases_Bool b) [ inl on ↦ inl (at_high x on e) | inr off ↦ (let z = be off in inr (le, omega arith)) ]
          | inr ne ↦ inr (le, omega arith)
        ]

    gets : (x : ℕ) → from ≤ x → x < to → ((j : ℕ) × HangsAt w (levels_above j x) number) ⊎ (((low + 1) / 2 ≤ levels_above (suc h.level) x) × (levels_above (suc h.level) x < high / 2))
    gets x c d = elim (h.gets x c d) [ inl r ↦ inl (kept x r) | inr r ↦ further x r.0 r.1 ]

    -- what hangs at a node of this level
    those : (m : ℕ) → low ≤ m → m < high → (j x : ℕ) → leaves t ≤ x → x < 2 * leaves t → levels_above j x ≡ m → (from ≤ x) × (x < to)
    those m c d = only_these from to (leaves t) h.level m least most (λ z e. h.inside z (omega arith) (omega arith))

    only : (j k x : ℕ) → leaves t ≤ x → x < 2 * leaves t → HangsAt w (levels_above j x) k → HangsAt t (levels_above j x) k ⊎ ((k ≡ number) × (from ≤ x) × (x < to))
    only j k x c d g = elim (q.only (levels_above j x) k g) [
      | inr r ↦ (let z = those (high - 1) (omega arith) (omega arith) j x c d r.1 in inr (r.2, z.0, z.1))
      | inl f ↦ elim (p.only (levels_above j x) k f) [
        | inr r ↦ (let z = those low (omega arith) (omega arith) j x c d r.1 in inr (r.2, z.0, z.1))
        | inl e ↦ h.only j k x c d e
      ]
    ]

pub hanging_last : (number from to : ℕ) (t u : Stabs) (low high : ℕ) → high ≤ low → IsHanging number from to t u low high → Spans number from to t u
hanging_last number from to t u low high le h = record {
  bounds = h.bounds;
  long = h.long;
  keeps = h.keeps;
  gets = λ x c d. elim (h.gets x c d) [ inl r ↦ r | inr r ↦ absurd (let a = r.0 in let b = r.1 in omega arith) ];
  only = h.only;
}

-- ---- one range after the other

past_end : (ranges : List Range) (k : ℕ) (r : Range) → length ranges ≤ k → slice_get ranges k ≡ Some r → ⊥
past_end ranges k r h e = let lt = slice_get_within ranges k r e in omega arith

nothing : (k link : ℕ) → Hangs [] k link → ⊥
nothing k zero g = hangs_none [] k g
nothing k (suc n) g = let s = hangs_split [] k (suc n) g in let e = s.1 in absurd cc

pub none_hangs : (ranges : List Range) (t : Stabs) → AreBounds ranges t.bounds.items → length t.firsts ≡ 2 * leaves t → t.hangs ≡ [] → HangFrom ranges (length ranges) t
none_hangs ranges t bounds long none = record {
  bounds = bounds;
  long = long;
  every = λ k x le c. absurd (past_end ranges k c.0 le c.1);
  only = λ j k x g. absurd (nothing k (first_link t.firsts (levels_above j (leaf t x))) (subst (λ (hs : List Hang). Hangs hs k (first_link t.firsts (levels_above j (leaf t x)))) none g));
}

same_leaf : (t u : Stabs) (x : ℕ) → u.bounds.items ≡ t.bounds.items → leaf u x ≡ leaf t x
same_leaf t u x e = ap (λ (bs : List ℕ). piece bs x + suc (length bs)) e

pub one_more : (ranges : List Range) (number : ℕ) (r : Range) (t u : Stabs) (from to : ℕ) → HangFrom ranges (number + 1) t → slice_get ranges number ≡ Some r → from ≡ leaf t r.from → to ≡ leaf t r.to → Spans number from to t u → HangFrom ranges number u
one_more ranges number r t u from to h is a b s = record {
  bounds = subst (λ (bs : List ℕ). AreBounds ranges bs) (sym s.bounds) h.bounds;
  long = let x = s.long in let y = h.long in let z = ap length s.bounds in omega arith;
  every = every;
  only = only;
}
  where
    every : (k x : ℕ) → number ≤ k → Covers ranges k x → (j : ℕ) × HangsAt u (levels_above j (leaf u x)) k
    every k x le c = elim (cases_eq k number) [
      | inr ne ↦ (
          let g = h.every k x (omega arith) c in
          (g.0, subst (λ (n : ℕ). HangsAt u (levels_above g.0 n) k) (sym (same_leaf t u x s.bounds)) (s.keeps (levels_above g.0 (leaf t x)) k g.1)))
      | inl q ↦ (
          let e : c.0 ≡ r = (let f : Some c.0 ≡ Some r = sym c.1 ∙ ap (slice_get ranges) q ∙ is in cc) in
          let low : r.from ≤ x = subst (λ (y : Range). y.from ≤ x) e c.2 in
          let high : x < r.to = subst (λ (y : Range). x < y.to) e c.3 in
          let p = piece_up t.bounds.items r.from x low in
          let o = piece_over t.bounds.items x r.to high (h.bounds.to number r is) in
          let g = s.gets (leaf t x) (omega arith) (omega arith) in
          (g.0, subst (λ (n : ℕ). HangsAt u (levels_above g.0 n) k) (sym (same_leaf t u x s.bounds)) (subst (λ (n : ℕ). HangsAt u (levels_above g.0 (leaf t x)) n) (sym q) g.1)))
    ]

    only : (j k x : ℕ) → HangsAt u (levels_above j (leaf u x)) k → Covers ranges k x
    only j k x g =
        let few = piece_few t.bounds.items x in
        let f : HangsAt u (levels_above j (leaf t x)) k = subst (λ (n : ℕ). HangsAt u (levels_above j n) k) (same_leaf t u x s.bounds) g in
        elim (s.only j k (leaf t x) (omega arith) (omega arith) f) [
          | inl e ↦ h.only j k x e
          | inr e ↦ (
              let low : r.from ≤ x = elim (cases_lt x r.from) [ inr le ↦ le | inl lt ↦ absurd (let o = piece_over t.bounds.items x r.from lt (h.bounds.from number r is) in let z = e.1 in omega arith) ] in
              let high : x < r.to = elim (cases_lt x r.to) [ inl lt ↦ lt | inr le ↦ absurd (let p = piece_up t.bounds.items r.to x le in let z = e.2 in omega arith) ] in
              (r, ap (slice_get ranges) e.0 ∙ is, low, high))
        ]

pub no_more : (ranges : List Range) (number : ℕ) (t : Stabs) → HangFrom ranges (number + 1) t → slice_get ranges number ≡ None → HangFrom ranges number t
no_more ranges number t h is = record {
  bounds = h.bounds;
  long = h.long;
  every = λ k x le c. elim (cases_eq k number) [
    | inr ne ↦ h.every k x (omega arith) c
    | inl q ↦ absurd (let e : Some c.0 ≡ None = sym c.1 ∙ ap (slice_get ranges) q ∙ is in cc)
  ];
  only = h.only;
}

pub all_hang : (ranges : List Range) (first : ℕ) (t : Stabs) → first ≤ 0 → HangFrom ranges first t → AreHung ranges t
all_hang ranges first t z h = record { every = λ k x c. h.every k x (omega arith) c; only = h.only }

pub no_tree : (ranges : List Range) (t : Stabs) → length ranges ≡ 0 → t.firsts ≡ [] → AreHung ranges t
no_tree ranges t e none = record {
  every = λ k x c. absurd (past_end ranges k c.0 (omega arith) c.1);
  only = λ j k x g. absurd (hangs_none t.hangs k (subst (λ (xs : List ℕ). Hangs t.hangs k (first_link xs (levels_above j (leaf t x)))) none g));
}
