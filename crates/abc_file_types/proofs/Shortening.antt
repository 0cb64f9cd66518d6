-- Bytes of one part, spelled anew by another: no spelling is shorter than the new one, and none as short has a lesser byte.
use Rattle.std.proofs.Common.{◌≡◌, ℕ, zero, suc, ◌≤◌, List, [], ◌∷◌, ◌++◌, length, map, refl, sym, ap, subst, ◌∙◌, append_assoc, length-append, arith}
use Rattle.std.specs.List.{flat_map}
use Rattle.std.proofs.lemmas.List.{append-nil, map-append}
use Rattle.std.proofs.lemmas.List.Concat.{flat_map-cons}
use Rattle.abc_base.specs.Numbers.{number_bytes}
use Rattle.abc_file_types.specs.Canonical.{IsCanonical, NoGreater, counted_bytes}
use Rattle.abc_file_types.specs.Lists.{chain, count_and_items, times}
use Rattle.abc_file_types.specs.Numbers.{u30}
use Rattle.abc_file_types.specs.Part.{Part, both, image, then_by}
use Rattle.abc_file_types.proofs.Canon.{times_length, u30-canonical}
use Rattle.abc_file_types.proofs.Lesser.{halves, no_greater_append}

-- Where p spells x, the bytes f x spell the value g x by q, and no spelling of x by p is shorter.
pub record Shortens {A B : Type 0} (p : Part A) (q : Part B) (g : A → B) (f : A → List ℕ) : Type 0 where
  pub spelled : (x : A) (b : List ℕ) → p.spells x b → q.spells (g x) (f x)
  pub shortest : (x : A) (b : List ℕ) → p.spells x b → length (f x) ≤ length b

-- the value as it is
abbrev pub kept : {A : Type 0} → A → A
kept x = x

pub canonical-shortens : {A : Type 0} (p : Part A) (f : A → List ℕ) → IsCanonical p f → Shortens p p kept f
canonical-shortens p f k = record { spelled = k.spelled; shortest = k.shortest }

-- No spelling of x by p is shorter than f x, and none as short has a lesser byte in any place.
pub record Lessens {A : Type 0} (p : Part A) (f : A → List ℕ) : Type 0 where
  pub shortest : (x : A) (b : List ℕ) → p.spells x b → length (f x) ≤ length b
  pub least : (x : A) (b : List ℕ) → p.spells x b → length (f x) ≡ length b → NoGreater (f x) b

pub canonical-lessens : {A : Type 0} (p : Part A) (f : A → List ℕ) → IsCanonical p f → Lessens p f
canonical-lessens p f k = record { shortest = k.shortest; least = k.least }

pub lessens-canonical : {A : Type 0} (p : Part A) (f : A → List ℕ) → Shortens p p kept f → Lessens p f → IsCanonical p f
lessens-canonical p f k l = record { spelled = k.spelled; shortest = l.shortest; least = l.least }

-- of what follows, no byte need be the least but after bytes as short
pub then-lessens : {A B : Type 0} (p : Part A) (f : A → List ℕ) (p2 : A → Part B) (f2 : A → B → List ℕ) → Lessens p f
    → ((x : A) (b : List ℕ) → p.spells x b → (y : B) (c : List ℕ) → (p2 x).spells y c → length (f2 x y) ≤ length c)
    → ((x : A) (b : List ℕ) → p.spells x b → length (f x) ≡ length b → Lessens (p2 x) (f2 x))
    → Lessens (then_by p p2) (λ x. f x.0 ++ f2 x.0 x.1)
then-lessens p f p2 f2 k short more = record {
  shortest = λ x b s.
      let one = k.shortest x.0 s.0 s.3 in
      let two = short x.0 s.0 s.3 x.1 s.1 s.4 in
      rw s.2 (omega (arith, one, two, length-append s.0 s.1, length-append (f x.0) (f2 x.0 x.1)));
  least = λ x b s len.
      let h = halves (f x.0) (f2 x.0 x.1) s.0 s.1 (k.shortest x.0 s.0 s.3) (short x.0 s.0 s.3 x.1 s.1 s.4) (len ∙ ap length s.2) in
      rw s.2 (no_greater_append (f x.0) (f2 x.0 x.1) s.0 s.1 (k.least x.0 s.0 s.3 h.0) ((more x.0 s.0 s.3 h.0).least x.1 s.1 s.4 h.1));
}

pub both-lessens : {A B : Type 0} (p : Part A) (f : A → List ℕ) (p2 : Part B) (f2 : B → List ℕ) → Lessens p f → Lessens p2 f2 → Lessens (both p p2) (λ x. f x.0 ++ f2 x.1)
both-lessens p f p2 f2 k k2 = then-lessens p f (λ _. p2) (λ _. f2) k (λ x b s. k2.shortest) (λ x b s len. k2)

pub image-lessens : {A C : Type 0} (m : A → C) (p : Part A) (f : A → List ℕ) (e : C → List ℕ) → Lessens p f → ((x : A) (b : List ℕ) → p.spells x b → f x ≡ e (m x)) → Lessens (image m p) e
image-lessens m p f e k bytes = record {
  shortest = λ y b s.
      let is : f s.0 ≡ e y = bytes s.0 b s.1 ∙ ap e (sym s.2) in
      subst (λ (l : List ℕ). length l ≤ length b) is (k.shortest s.0 b s.1);
  least = λ y b s len.
      let is : f s.0 ≡ e y = bytes s.0 b s.1 ∙ ap e (sym s.2) in
      subst (λ (l : List ℕ). NoGreater l b) is (k.least s.0 b s.1 (ap length is ∙ len));
}

pub then-shortens : {A B C D : Type 0} (p : Part A) (q : Part C) (g : A → C) (f : A → List ℕ) (p2 : A → Part B) (q2 : C → Part D) (g2 : A → B → D) (f2 : A → B → List ℕ)
    → Shortens p q g f → ((x : A) (b : List ℕ) → p.spells x b → Shortens (p2 x) (q2 (g x)) (g2 x) (f2 x))
    → Shortens (then_by p p2) (then_by q q2) (λ x. (g x.0, g2 x.0 x.1)) (λ x. f x.0 ++ f2 x.0 x.1)
then-shortens p q g f p2 q2 g2 f2 k k2 = record {
  spelled = λ x b s. (f x.0, f2 x.0 x.1, refl, k.spelled x.0 s.0 s.3, (k2 x.0 s.0 s.3).spelled x.1 s.1 s.4);
  shortest = λ x b s.
      let one = k.shortest x.0 s.0 s.3 in
      let two = (k2 x.0 s.0 s.3).shortest x.1 s.1 s.4 in
      rw s.2 (omega (arith, one, two, length-append s.0 s.1, length-append (f x.0) (f2 x.0 x.1)));
}

pub both-shortens : {A B C D : Type 0} (p : Part A) (q : Part C) (g : A → C) (f : A → List ℕ) (p2 : Part B) (q2 : Part D) (g2 : B → D) (f2 : B → List ℕ)
    → Shortens p q g f → Shortens p2 q2 g2 f2 → Shortens (both p p2) (both q q2) (λ x. (g x.0, g2 x.1)) (λ x. f x.0 ++ f2 x.1)
both-shortens p q g f p2 q2 g2 f2 k k2 = then-shortens p q g f (λ _. p2) (λ _. q2) (λ _. g2) (λ _. f2) k (λ x b s. k2)

pub image-shortens : {A B C D : Type 0} (m : A → C) (n : B → D) (p : Part A) (q : Part B) (g : A → B) (f : A → List ℕ) (h : C → D) (e : C → List ℕ)
    → Shortens p q g f → ((x : A) → h (m x) ≡ n (g x)) → ((x : A) (b : List ℕ) → p.spells x b → f x ≡ e (m x)) → Shortens (image m p) (image n q) h e
image-shortens m n p q g f h e k value bytes = record {
  spelled = λ y b s.
      let is : f s.0 ≡ e y = bytes s.0 b s.1 ∙ ap e (sym s.2) in
      (g s.0, subst (λ (l : List ℕ). q.spells (g s.0) l) is (k.spelled s.0 b s.1), ap h s.2 ∙ value s.0);
  shortest = λ y b s.
      let is : f s.0 ≡ e y = bytes s.0 b s.1 ∙ ap e (sym s.2) in
      subst (λ (l : List ℕ). length l ≤ length b) is (k.shortest s.0 b s.1);
}

-- ---- many

times_spelled : {A : Type 0} (n : ℕ) (p q : Part A) (f : A → List ℕ) → Shortens p q kept f → (xs : List A) (b : List ℕ) → (times n p).spells xs b → (times n q).spells xs (flat_map f xs)
times_spelled zero p q f k xs b s = rw s.0 (refl, refl)
times_spelled (suc n) p q f k xs b s =
    let x = s.0.0 in
    let rest = s.0.1 in
    let one = k.spelled x s.1.0 s.1.3 in
    let two = times_spelled n p q f k rest s.1.1 s.1.4 in
    rw (s.2, flat_map-cons) (s.0, (f x, flat_map f rest, refl, one, two), refl)

times_shortest : {A : Type 0} (n : ℕ) (p q : Part A) (f : A → List ℕ) → Shortens p q kept f → (xs : List A) (b : List ℕ) → (times n p).spells xs b → length (flat_map f xs) ≤ length b
times_shortest zero p q f k xs b s = rw s.0 (omega arith)
times_shortest (suc n) p q f k xs b s =
    let x = s.0.0 in
    let rest = s.0.1 in
    let one = k.shortest x s.1.0 s.1.3 in
    let two = times_shortest n p q f k rest s.1.1 s.1.4 in
    rw (s.2, flat_map-cons, s.1.2) (omega (arith, one, two, length-append (f x) (flat_map f rest), length-append s.1.0 s.1.1))

pub times-shortens : {A : Type 0} (n : ℕ) (p q : Part A) (f : A → List ℕ) → Shortens p q kept f → Shortens (times n p) (times n q) kept (flat_map f)
times-shortens n p q f k = record { spelled = times_spelled n p q f k; shortest = times_shortest n p q f k }

pub counted-shortens : {A : Type 0} (p q : Part A) (f : A → List ℕ) → Shortens p q kept f → Shortens (count_and_items p) (count_and_items q) kept (counted_bytes f)
unfolding count_and_items counted_bytes
counted-shortens {A = A} p q f k =
    image-shortens (λ (x : ℕ × List A). x.1) (λ (x : ℕ × List A). x.1) (then_by u30 (λ n. times n p)) (then_by u30 (λ n. times n q)) (λ x. (x.0, x.1)) (λ x. number_bytes x.0 ++ flat_map f x.1)
    kept (λ xs. number_bytes (length xs) ++ flat_map f xs)
    (then-shortens u30 u30 kept number_bytes (λ n. times n p) (λ n. times n q) (λ _. kept) (λ _. flat_map f) (canonical-shortens u30 number_bytes u30-canonical) (λ n b s. times-shortens n p q f k))
    (λ x. refl)
    (λ x b s. ap (λ (n : ℕ). number_bytes n ++ flat_map f x.1) (sym (times_length x.0 p x.1 s.1 s.4)))

-- ---- a chain, whose items depend on those before

-- After `before`, the chain's bytes b spell these further items; spelled anew they are others, and no longer.
pub record Chained {A : Type 0} (n : ℕ) (p : List A → Part A) (g : A → A) (f : A → List ℕ) (before xs : List A) (b : List ℕ) : Type 0 where
  pub rest : List A
  pub is : xs ≡ before ++ rest
  pub count : length rest ≡ n
  pub spelled : (chain n p (map g before)).spells (map g xs) (flat_map f rest)
  pub short : length (flat_map f rest) ≤ length b
  pub least : length (flat_map f rest) ≡ length b → NoGreater (flat_map f rest) b

module _ {A : Type 0} (p : List A → Part A) (g : A → A) (f : A → List ℕ) (each : (before : List A) → Shortens (p before) (p (map g before)) g f) (lesser : (before : List A) → Lessens (p before) f) where
  pub chained : (n : ℕ) (before xs : List A) (b : List ℕ) → (chain n p before).spells xs b → Chained n p g f before xs b
  chained zero before xs b s = record { rest = []; is = s.0 ∙ sym (append-nil before); count = refl; spelled = (ap (map g) s.0, refl); short = omega arith; least = λ len. rw s.1 tt }
  chained (suc n) before xs b s =
      let x = s.0.0 in
      let one = (each before).spelled x s.1.0 s.1.3 in
      let few = (each before).shortest x s.1.0 s.1.3 in
      let more = chained n (before ++ x ∷ []) s.0.1 s.1.1 s.1.4 in
      let moved : (chain n p (map g before ++ g x ∷ [])).spells (map g s.0.1) (flat_map f more.rest) = subst (λ (l : List A). (chain n p l).spells (map g s.0.1) (flat_map f more.rest)) (map-append g before (x ∷ [])) more.spelled in
      record {
        rest = x ∷ more.rest;
        is = s.2 ∙ more.is ∙ append_assoc before (x ∷ []) more.rest;
        count = ap suc more.count;
        spelled = ((g x, map g s.0.1), (f x, flat_map f more.rest, flat_map-cons f x more.rest, one, moved), ap (map g) s.2);
        short = rw (flat_map-cons f x more.rest, s.1.2) (omega (arith, few, more.short, length-append (f x) (flat_map f more.rest), length-append s.1.0 s.1.1));
        least = λ len.
            let h = halves (f x) (flat_map f more.rest) s.1.0 s.1.1 few more.short (ap length (sym (flat_map-cons f x more.rest)) ∙ len ∙ ap length s.1.2) in
            rw (flat_map-cons f x more.rest, s.1.2) (no_greater_append (f x) (flat_map f more.rest) s.1.0 s.1.1 ((lesser before).least x s.1.0 s.1.3 h.0) (more.least h.1));
      }
