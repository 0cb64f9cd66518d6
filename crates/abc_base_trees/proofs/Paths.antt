-- The nodes above a place, from its leaf up.
use Rattle.std.proofs.Common.{◌≡◌, ◌≢◌, ℕ, suc, ◌/◌, ◌≤◌, ◌<◌, refl, sym, ap, ◌∙◌, subst, arith, inl, inr}
use Rattle.std.proofs.lemmas.Bool.{cases_lt}
use Rattle.abc_base_trees.specs.Hanging.{Hangs, Here, AreLinksWhole, first_link}
use Rattle.abc_base_trees.specs.Hung.{HangsAt, IsStabFree, IsStabTaken, leaf, levels_above}
use Rattle.abc_base_trees.specs.declared.stabs.Stabs.{Stabs}
use Rattle.abc_base_trees.proofs.Hanging.{hangs_none, linked_some}
use Rattle.abc_base_trees.proofs.Levels.{up_past}

-- nothing hangs at those below one
pub record IsPassed (t : Stabs) (x node : ℕ) : Type 0 where
  pub level : ℕ
  pub at : node ≡ levels_above level (leaf t x)
  pub none : (j k : ℕ) → j < level → HangsAt t (levels_above j (leaf t x)) k → ⊥

pub passed_first : (t : Stabs) (x node : ℕ) → node ≡ leaf t x → IsPassed t x node
passed_first t x node e = record { level = 0; at = e; none = λ j k h g. absurd (omega arith) }

pub passed_more : (t : Stabs) (x node : ℕ) → IsPassed t x node → first_link t.firsts node ≡ 0 → IsPassed t x (node / 2)
passed_more t x node h e = record {
  level = suc h.level;
  at = ap (λ (n : ℕ). n / 2) h.at;
  none = λ j k lt g. elim (cases_lt j h.level) [
    | inl lu ↦ h.none j k lu g
    | inr le ↦ (
        let q : j ≡ h.level = omega arith in
        let z : first_link t.firsts (levels_above j (leaf t x)) ≡ 0 = ap (λ (i : ℕ). first_link t.firsts (levels_above i (leaf t x))) q ∙ ap (first_link t.firsts) (sym h.at) ∙ e in
        hangs_none t.hangs k (subst (λ (l : ℕ). Hangs t.hangs k l) z g))
  ];
}

pub passed_all : (t : Stabs) (x node : ℕ) → AreLinksWhole t.bounds.items t.firsts t.hangs → node ≤ 0 → IsPassed t x node → IsStabFree t x
passed_all t x node w le h j k g = elim (cases_lt j h.level) [
  | inl lt ↦ h.none j k lt g
  | inr ge ↦ (
      let a = h.at in
      let top : levels_above j (leaf t x) ≡ 0 = up_past j h.level (leaf t x) ge (omega arith) in
      let z : first_link t.firsts (levels_above j (leaf t x)) ≡ 0 = ap (first_link t.firsts) top ∙ w.root in
      hangs_none t.hangs k (subst (λ (l : ℕ). Hangs t.hangs k l) z g))
]

pub passed_stop : (t : Stabs) (x node : ℕ) → AreLinksWhole t.bounds.items t.firsts t.hangs → first_link t.firsts node ≢ 0 → IsPassed t x node → IsStabTaken t x
passed_stop t x node w ne h =
    let s = linked_some t.hangs (first_link t.firsts node) (omega arith) (w.inside node) in
    (h.level, (s.0.number, subst (λ (n : ℕ). HangsAt t n s.0.number) h.at (Here (first_link t.firsts node) s.0 s.1 refl)))
