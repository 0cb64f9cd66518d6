-- Going up the tree, in the words of the code.
use Rattle.std.proofs.Common.{◌≡◌, ◌≢◌, ℕ, zero, suc, ◌+◌, ◌-◌, ◌≤◌, ◌<◌, ◌↔◌, IsTrue, nat_eq, eq-eqb, eqb-true, sym, ap, ◌∙◌, subst, arith, inl, inr}
use Rattle.std.proofs.lemmas.Bool.{cases_lt}
use Rattle.abc_link_names.specs.Linked.{IsLinkedFile, LinkedFile, above}
use Rattle.abc_link_names.specs.Tree.{IsBelow, IsCommon, up}
use Rattle.abc_link_names.proofs.Tree.{above_le, below_le, below_next, below_self, below_trans, below_up, up_more}
use Rattle.abc_kinds.specs.Steps.{ClimbsTo, NearsTo}

-- of two layouts above one, that with the lower number is above the other
chained : (p : LinkedFile) → IsLinkedFile p → (x y z : ℕ) → IsBelow p x y → IsBelow p x z → z ≤ y → IsBelow p y z
chained p t x y z a b le = elim (cases_lt b.steps a.steps) [
  | inl lt ↦ (let rest : IsBelow p z y = after b.steps a.steps z y b.climb a.climb (omega arith) in subst (λ (n : ℕ). IsBelow p n z) (let q = below_le p t z y rest in let e : z ≡ y = omega arith in e) (below_self p z))
  | inr ge ↦ after a.steps b.steps y z a.climb b.climb ge
]
  where
    after : (j k m n : ℕ) → up p j x ≡ m → up p k x ≡ n → j ≤ k → IsBelow p m n
    after j k m n e f le =
        let q : k ≡ j + (k - j) = omega arith in
        record { steps = k - j; climb = ap (up p (k - j)) (sym e) ∙ sym (up_more p j (k - j) x) ∙ ap (λ (i : ℕ). up p i x) (sym q) ∙ f }

-- all layouts are below the first
below_first : (p : LinkedFile) → IsLinkedFile p → (n x : ℕ) → x ≤ n → IsBelow p x 0
below_first p t zero x le = let e : 0 ≡ x = omega arith in subst (λ (k : ℕ). IsBelow p k 0) e (below_self p 0)
below_first p t (suc n) x le = let h = above_le p t x in below_up p x 0 (below_first p t n (above p x) (omega arith))

-- ---- on the way to a layout

pub climbs_far : (p : LinkedFile) → IsLinkedFile p → (at other far : ℕ) → IsBelow p at far → other ≤ far → far < at → ClimbsTo p at other far
climbs_far p t at other far h le lt = record { less = lt; keeps = (λ b. chained p t at far other h b le, λ b. below_trans p at far other h b) }

pub climbs_one : (p : LinkedFile) → IsLinkedFile p → (at other next : ℕ) → other < at → next ≡ above p at → ClimbsTo p at other next
climbs_one p t at other next lt e =
    let ne : at ≢ other = omega arith in
    record {
      less = let h = above_le p t at in omega arith;
      keeps = (λ b. subst (λ (n : ℕ). IsBelow p n other) (sym e) (below_next p at other b ne), λ b. below_up p at other (subst (λ (n : ℕ). IsBelow p n other) e b));
    }

pub climb_on : (p : LinkedFile) (x at next other : ℕ) → (IsBelow p x other ↔ IsBelow p at other) → ClimbsTo p at other next → IsBelow p x other ↔ IsBelow p next other
climb_on p x at next other h s = (λ b. s.keeps.0 (h.0 b), λ b. h.1 (s.keeps.1 b))

-- where the climb ends
pub reached : (p : LinkedFile) → IsLinkedFile p → (x at other : ℕ) → at ≤ other → (IsBelow p x other ↔ IsBelow p at other) → IsTrue (nat_eq at other) ↔ IsBelow p x other
reached p t x at other le h = (λ e. let q : at ≡ other = eqb-true at other e in h.1 (subst (λ (n : ℕ). IsBelow p at n) q (below_self p at)), λ b. let q = below_le p t at other (h.0 b) in let e : at ≡ other = omega arith in eq-eqb at other e)

-- ---- on the way to the lowest layout above both

pub nears_far : (p : LinkedFile) → IsLinkedFile p → (at other far : ℕ) → IsBelow p at far → far < at → (IsBelow p other far → ⊥) → NearsTo p at other far
nears_far p t at other far h lt apart = record {
  less = lt;
  above = h;
  keeps = λ n a b. elim (cases_lt far n) [
    | inl gt ↦ absurd (apart (below_trans p other n far b (chained p t at n far a h (omega arith))))
    | inr le ↦ chained p t at far n h a le
  ];
}

pub nears_one : (p : LinkedFile) → IsLinkedFile p → (at other next : ℕ) → (IsBelow p other at → ⊥) → next ≡ above p at → NearsTo p at other next
nears_one p t at other next apart e =
    record {
      less = let h = above_le p t at in let z : at ≢ 0 = λ q. apart (subst (λ (n : ℕ). IsBelow p other n) (sym q) (below_first p t other other (omega arith))) in omega arith;
      above = subst (λ (n : ℕ). IsBelow p at n) (sym e) (below_up p at (above p at) (below_self p (above p at)));
      keeps = λ n a b. let ne : at ≢ n = λ q. apart (subst (λ (k : ℕ). IsBelow p other k) (sym q) b) in subst (λ (k : ℕ). IsBelow p k n) (sym e) (below_next p at n a ne);
    }

-- a layout on the way
pub record Meeting (p : LinkedFile) (a b x : ℕ) : Type 0 where
  pub left : IsBelow p a x
  pub least : (n : ℕ) → IsBelow p a n → IsBelow p b n → IsBelow p x n

pub meeting_starts : (p : LinkedFile) (a b : ℕ) → Meeting p a b a
meeting_starts p a b = record { left = below_self p a; least = λ n l r. l }

pub meeting_nears : (p : LinkedFile) (a b x next : ℕ) → Meeting p a b x → NearsTo p x b next → Meeting p a b next
meeting_nears p a b x next m s = record { left = below_trans p a x next m.left s.above; least = λ n l r. s.keeps n (m.least n l r) r }

pub meet : (p : LinkedFile) (a b x : ℕ) → Meeting p a b x → IsBelow p b x → IsCommon p a b x
meet p a b x m r = record { left = m.left; right = r; least = m.least }
