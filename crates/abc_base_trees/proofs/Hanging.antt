-- Chains of links, and what hangs at a node once another number does.
use Rattle.std.proofs.Common.{◌≡◌, ◌≢◌, ℕ, zero, suc, ◌≤◌, ◌<◌, ◌^◌, List, [], ◌∷◌, ◌++◌, ◌⊎◌, Some, length, set, replicate, refl, sym, ap, ◌∙◌, subst, arith, inl, inr, length-append, length-set}
use Rattle.std.specs.Prelude.{Bool, true, false, slice_get}
use Rattle.std.specs.List.Sorted.{IsNonDecreasing}
use Rattle.std.proofs.lemmas.Bool.{cases_eq, cases_lt}
use Rattle.std.proofs.lemmas.Option.{slice_get_within}
use Rattle.abc_base_trees.specs.Adding.{AddsAtNode}
use Rattle.abc_base_trees.specs.Hanging.{Hangs, Here, Further, AreLinksWhole, first_link, link_in, at_link}
use Rattle.abc_base_trees.specs.Hung.{HangsAt}
use Rattle.abc_base_trees.specs.declared.hang.Hang.{Hang}
use Rattle.abc_base_trees.specs.declared.stabs.Stabs.{Stabs}

-- ---- lists

get_left : {X : Type 0} (xs ys : List X) (n : ℕ) (x : X) → slice_get xs n ≡ Some x → slice_get (xs ++ ys) n ≡ Some x
get_left [] ys n x e = absurd cc
get_left (a ∷ xs) ys zero x e = e
get_left (a ∷ xs) ys (suc n) x e = get_left xs ys n x e

get_back : {X : Type 0} (xs : List X) (y : X) (n : ℕ) → n < length xs → slice_get (xs ++ y ∷ []) n ≡ slice_get xs n
get_back [] y n h = absurd (omega arith)
get_back (a ∷ xs) y zero h = refl
get_back (a ∷ xs) y (suc n) h = get_back xs y n (omega arith)

get_last : {X : Type 0} (xs : List X) (y : X) → slice_get (xs ++ y ∷ []) (length xs) ≡ Some y
get_last [] y = refl
get_last (a ∷ xs) y = get_last xs y

get_set : {X : Type 0} (xs : List X) (n : ℕ) (x : X) → n < length xs → slice_get (set xs n x) n ≡ Some x
get_set [] n x h = absurd (omega arith)
get_set (a ∷ xs) zero x h = refl
get_set (a ∷ xs) (suc n) x h = get_set xs n x (omega arith)

get_other : {X : Type 0} (xs : List X) (i n : ℕ) (x : X) → i ≢ n → slice_get (set xs n x) i ≡ slice_get xs i
get_other [] i n x ne = refl
get_other (a ∷ xs) zero zero x ne = absurd (ne refl)
get_other (a ∷ xs) zero (suc n) x ne = refl
get_other (a ∷ xs) (suc i) zero x ne = refl
get_other (a ∷ xs) (suc i) (suc n) x ne = get_other xs i n x (λ e. ne (ap suc e))

-- ---- chains

AreBack : List Hang → Type 0
AreBack hangs = (i : ℕ) (h : Hang) → slice_get hangs i ≡ Some h → h.next ≤ i

linked_left : (xs ys : List Hang) (link : ℕ) (h : Hang) → at_link xs link ≡ Some h → at_link (xs ++ ys) link ≡ Some h
linked_left xs ys zero h e = absurd cc
linked_left xs ys (suc n) h e = get_left xs ys n h e

linked_back : (xs : List Hang) (y : Hang) (link : ℕ) → link ≤ length xs → at_link (xs ++ y ∷ []) link ≡ at_link xs link
linked_back xs y zero h = refl
linked_back xs y (suc n) h = get_back xs y n (omega arith)

pub linked_next : (xs : List Hang) (link : ℕ) (h : Hang) → ((i : ℕ) (g : Hang) → slice_get xs i ≡ Some g → g.next ≤ i) → at_link xs link ≡ Some h → h.next < link
linked_next xs zero h back e = absurd cc
linked_next xs (suc n) h back e = let r = back n h e in omega arith

-- there is something at a link
pub linked_some : (xs : List Hang) (link : ℕ) → 0 < link → link ≤ length xs → (h : Hang) × (at_link xs link ≡ Some h)
linked_some xs zero pos le = absurd (omega arith)
linked_some [] (suc n) pos le = absurd (omega arith)
linked_some (x ∷ xs) (suc zero) pos le = (x, refl)
linked_some (x ∷ xs) (suc (suc n)) pos le = linked_some xs (suc n) (omega arith) (omega arith)

pub hangs_split : (xs : List Hang) (k link : ℕ) → Hangs xs k link → (h : Hang) × (at_link xs link ≡ Some h) × ((h.number ≡ k) ⊎ Hangs xs k h.next)
hangs_split xs k link (Here link' h e q) = (h, e, inl q)
hangs_split xs k link (Further link' h e r) = (h, e, inr r)

pub hangs_none : (xs : List Hang) (k : ℕ) → Hangs xs k 0 → ⊥
hangs_none xs k g = let s = hangs_split xs k 0 g in let e = s.1 in absurd cc

hangs_on : (xs ys : List Hang) (k link : ℕ) → Hangs xs k link → Hangs (xs ++ ys) k link
hangs_on xs ys k link (Here link' h e q) = Here link' h (linked_left xs ys link' h e) q
hangs_on xs ys k link (Further link' h e r) = Further link' h (linked_left xs ys link' h e) (hangs_on xs ys k h.next r)

hangs_back : (xs : List Hang) (y : Hang) (k link : ℕ) → ((i : ℕ) (g : Hang) → slice_get xs i ≡ Some g → g.next ≤ i) → link ≤ length xs → Hangs (xs ++ y ∷ []) k link → Hangs xs k link
hangs_back xs y k link back le (Here link' h e q) = Here link' h (sym (linked_back xs y link' le) ∙ e) q
hangs_back xs y k link back le (Further link' h e r) =
    let f : at_link xs link' ≡ Some h = sym (linked_back xs y link' le) ∙ e in
    Further link' h f (hangs_back xs y k h.next back (let z = linked_next xs link' h back f in omega arith) r)

-- ---- the table stays whole

pub whole_new : AreLinksWhole [] [] []
whole_new = record { sorted = λ i j d h lt. absurd (omega arith); few = omega arith; back = λ i h e. absurd cc; inside = λ node. omega arith; root = refl }

blank : (n node : ℕ) → first_link (replicate n 0) node ≡ 0
blank zero node = refl
blank (suc n) zero = refl
blank (suc n) (suc node) = blank n node

pub whole_first : (bounds firsts : List ℕ) (hangs : List Hang) (n : ℕ) → IsNonDecreasing bounds → length bounds < 2 ^ 30 → firsts ≡ replicate n 0 → hangs ≡ [] → AreLinksWhole bounds firsts hangs
whole_first bounds firsts hangs n up few e none = record {
  sorted = up;
  few = few;
  back = λ i h f. absurd (let z : slice_get [] i ≡ Some h = subst (λ (xs : List Hang). slice_get xs i ≡ Some h) none f in cc);
  inside = λ node. let z : first_link firsts node ≡ 0 = ap (λ (xs : List ℕ). first_link xs node) e ∙ blank n node in omega arith;
  root = ap (λ (xs : List ℕ). first_link xs 0) e ∙ blank n 0;
}

pub whole_push : (bounds firsts : List ℕ) (hangs : List Hang) (h : Hang) (node : ℕ) → AreLinksWhole bounds firsts hangs → h.next ≡ first_link firsts node → AreLinksWhole bounds firsts (hangs ++ h ∷ [])
whole_push bounds firsts hangs h node w e = record {
  sorted = w.sorted;
  few = w.few;
  back = λ i g f. elim (cases_lt i (length hangs)) [
    | inl lt ↦ w.back i g (sym (get_back hangs h i lt) ∙ f)
    | inr le ↦ (
        let lt = slice_get_within (hangs ++ h ∷ []) i g f in
        let long = length-append hangs (h ∷ []) in
        let q : i ≡ length hangs = omega arith in
        let z : slice_get (hangs ++ h ∷ []) (length hangs) ≡ Some g = subst (λ (k : ℕ). slice_get (hangs ++ h ∷ []) k ≡ Some g) q f in
        let last = get_last hangs h in
        let same : h ≡ g = cc in
        let next : g.next ≡ h.next = ap (λ (x : Hang). x.next) (sym same) in
        let most = w.inside node in
        omega arith)
  ];
  inside = λ n. let r = w.inside n in let long = length-append hangs (h ∷ []) in omega arith;
  root = w.root;
}

first_set : (firsts : List ℕ) (node link : ℕ) → node < length firsts → first_link (set firsts node link) node ≡ link
first_set firsts node link h = ap link_in (get_set firsts node link h)

first_other : (firsts : List ℕ) (n node link : ℕ) → n ≢ node → first_link (set firsts node link) n ≡ first_link firsts n
first_other firsts n node link ne = ap link_in (get_other firsts n node link ne)

pub whole_set : (bounds firsts : List ℕ) (hangs : List Hang) (node link : ℕ) → AreLinksWhole bounds firsts hangs → 0 < node → node < length firsts → link ≤ length hangs → AreLinksWhole bounds (set firsts node link) hangs
whole_set bounds firsts hangs node link w pos lt le = record {
  sorted = w.sorted;
  few = w.few;
  back = w.back;
  inside = λ n. elim (cases_eq n node) [
    | inl q ↦ (let z : first_link (set firsts node link) n ≡ link = ap (first_link (set firsts node link)) q ∙ first_set firsts node link lt in omega arith)
    | inr ne ↦ (let z = first_other firsts n node link ne in let r = w.inside n in omega arith)
  ];
  root = first_other firsts 0 node link (λ e. absurd (omega arith)) ∙ w.root;
}

-- ---- one number more

pub adds_not : (t : Stabs) (node number : ℕ) (so : Bool) → so ≡ false → AddsAtNode so node number t t
adds_not t node number so off = record { bounds = refl; long = refl; keeps = λ n k g. g; gets = λ on. absurd (let e = sym off ∙ on in cc); only = λ n k g. inl g }

pub adds_one : (t u : Stabs) (node number link : ℕ) (h : Hang) → AreLinksWhole t.bounds.items t.firsts t.hangs → node < length t.firsts → h.number ≡ number → h.next ≡ first_link t.firsts node → u.bounds.items ≡ t.bounds.items → link ≡ suc (length t.hangs) → u.firsts ≡ set t.firsts node link → u.hangs ≡ t.hangs ++ h ∷ [] → AddsAtNode true node number t u
adds_one t u node number link h w lt is next same at firsts hangs = record {
  bounds = same;
  long = ap length firsts ∙ length-set t.firsts node link;
  keeps = λ n k g. keeps n k g;
  gets = λ on. subst (λ (l : ℕ). Hangs u.hangs number l) (sym new_link) (Here link h here is);
  only = λ n k g. only n k g;
}
  where
    new_link : first_link u.firsts node ≡ link
    new_link = ap (λ (xs : List ℕ). first_link xs node) firsts ∙ first_set t.firsts node link lt

    old_link : (n : ℕ) → n ≢ node → first_link u.firsts n ≡ first_link t.firsts n
    old_link n ne = ap (λ (xs : List ℕ). first_link xs n) firsts ∙ first_other t.firsts n node link ne

    here : at_link u.hangs link ≡ Some h
    here = ap (λ (xs : List Hang). at_link xs link) hangs ∙ ap (at_link (t.hangs ++ h ∷ [])) at ∙ get_last t.hangs h

    on : (k l : ℕ) → Hangs t.hangs k l → Hangs u.hangs k l
    on k l g = subst (λ (xs : List Hang). Hangs xs k l) (sym hangs) (hangs_on t.hangs (h ∷ []) k l g)

    back : (k l : ℕ) → l ≤ length t.hangs → Hangs u.hangs k l → Hangs t.hangs k l
    back k l le g = hangs_back t.hangs h k l w.back le (subst (λ (xs : List Hang). Hangs xs k l) hangs g)

    keeps : (n k : ℕ) → HangsAt t n k → HangsAt u n k
    keeps n k g = elim (cases_eq n node) [
      | inl q ↦ (
          let a : Hangs t.hangs k h.next = subst (λ (l : ℕ). Hangs t.hangs k l) (ap (first_link t.firsts) q ∙ sym next) g in
          subst (λ (l : ℕ). Hangs u.hangs k l) (sym (ap (first_link u.firsts) q ∙ new_link)) (Further link h here (on k h.next a)))
      | inr ne ↦ subst (λ (l : ℕ). Hangs u.hangs k l) (sym (old_link n ne)) (on k (first_link t.firsts n) g)
    ]

    only : (n k : ℕ) → HangsAt u n k → HangsAt t n k ⊎ ((true ≡ true) × (n ≡ node) × (k ≡ number))
    only n k g = elim (cases_eq n node) [
      | inr ne ↦ inl (back k (first_link t.firsts n) (w.inside n) (subst (λ (l : ℕ). Hangs u.hangs k l) (old_link n ne) g))
      | inl q ↦ (
          let s = hangs_split u.hangs k link (subst (λ (l : ℕ). Hangs u.hangs k l) (ap (first_link u.firsts) q ∙ new_link) g) in
          let same : s.0 ≡ h = (let e : Some s.0 ≡ Some h = sym s.1 ∙ here in cc) in
          elim s.2 [
            | inl r ↦ inr (refl, q, sym r ∙ ap (λ (x : Hang). x.number) same ∙ is)
            | inr r ↦ inl (subst (λ (l : ℕ). Hangs t.hangs k l) (sym (ap (first_link t.firsts) q ∙ sym next)) (back k h.next (let z = w.inside node in omega arith) (subst (λ (x : Hang). Hangs u.hangs k x.next) same r)))
          ])
    ]
