-- Parts that spell some of the values of another, by the same bytes.
use Rattle.std.proofs.Common.{◌≡◌, ℕ, zero, suc, ◌-◌, Bool, true, List, [], ◌∷◌, ◌++◌, sym, subst, ◌∙◌, append_assoc}
use Rattle.std.specs.Prelude.{All}
use Rattle.std.proofs.lemmas.List.{append-nil}
use Rattle.std.proofs.lemmas.List.Elements.{All-cons, All-head, All-nil, All-push, All-same, All-tail}
use Rattle.abc_file_types.specs.declared.reason.Reason.{Reason}
use Rattle.abc_file_types.specs.Lists.{chain, pool_by, times}
use Rattle.abc_file_types.specs.Numbers.{u30}
use Rattle.abc_file_types.specs.Part.{Part, with_test, image, then_by}

-- q spells just what p spells of the values that are P
pub record Narrows {A : Type 0} (q p : Part A) (P : A → Type 0) : Type 0 where
  pub wider : (x : A) (b : List ℕ) → q.spells x b → p.spells x b × P x
  pub narrower : (x : A) (b : List ℕ) → p.spells x b → P x → q.spells x b

pub image_narrows : {A B : Type 0} (f : A → B) (q p : Part A) (P : B → Type 0) → Narrows q p (λ x. P (f x)) → Narrows (image f q) (image f p) P
image_narrows f q p P n = record {
  wider = λ y b s. let w = n.wider s.0 b s.1 in ((s.0, w.0, s.2), subst P (sym s.2) w.1);
  narrower = λ y b s h. (s.0, n.narrower s.0 b s.1 (subst P s.2 h), s.2);
}

pub checked_narrows : {A : Type 0} (few all : A → Bool) (reason : Reason) (p : Part A) (P : A → Type 0)
    → ((x : A) → few x ≡ true → (all x ≡ true) × P x) → ((x : A) → all x ≡ true → P x → few x ≡ true) → Narrows (with_test few reason p) (with_test all reason p) P
checked_narrows few all reason p P wide back = record {
  wider = λ x b s. let w = wide x s.1 in ((s.0, w.0), w.1);
  narrower = λ x b s h. (s.0, back x s.1 h);
}

pub first_narrows : {A B : Type 0} (q p : Part A) (f : A → Part B) (P : A → Type 0) → Narrows q p P → Narrows (then_by q f) (then_by p f) (λ x. P x.0)
first_narrows q p f P n = record {
  wider = λ x b s. let w = n.wider x.0 s.0 s.3 in ((s.0, s.1, s.2, w.0, s.4), w.1);
  narrower = λ x b s h. (s.0, s.1, s.2, n.narrower x.0 s.0 s.3 h, s.4);
}

pub second_narrows : {A B : Type 0} (p : Part A) (g f : A → Part B) (R : A × B → Type 0) → ((x : A) → Narrows (g x) (f x) (λ y. R (x, y))) → Narrows (then_by p g) (then_by p f) R
second_narrows p g f R n = record {
  wider = λ x b s. let w = (n x.0).wider x.1 s.1 s.4 in ((s.0, s.1, s.2, s.3, w.0), w.1);
  narrower = λ x b s h. (s.0, s.1, s.2, s.3, (n x.0).narrower x.1 s.1 s.4 h);
}

-- the values said otherwise
pub told_narrows : {A : Type 0} (q p : Part A) (P R : A → Type 0) → ((x : A) (b : List ℕ) → p.spells x b → P x → R x) → ((x : A) (b : List ℕ) → p.spells x b → R x → P x) → Narrows q p P → Narrows q p R
told_narrows q p P R there back n = record {
  wider = λ x b s. let w = n.wider x b s in (w.0, there x b w.0 w.1);
  narrower = λ x b s h. n.narrower x b s (back x b s h);
}

-- ---- lists

times_wider : {A : Type 0} (q p : Part A) (P : A → Type 0) (n : ℕ) → Narrows q p P → (xs : List A) (b : List ℕ) → (times n q).spells xs b → (times n p).spells xs b × All P xs
times_wider q p P zero k xs b s = (s, All-same P xs [] s.0 (All-nil P))
times_wider q p P (suc n) k xs b s =
    let one = k.wider s.0.0 s.1.0 s.1.3 in
    let more = times_wider q p P n k s.0.1 s.1.1 s.1.4 in
    ((s.0, (s.1.0, s.1.1, s.1.2, one.0, more.0), s.2), All-same P xs (s.0.0 ∷ s.0.1) s.2 (All-cons P s.0.0 s.0.1 one.1 more.1))

times_narrower : {A : Type 0} (q p : Part A) (P : A → Type 0) (n : ℕ) → Narrows q p P → (xs : List A) (b : List ℕ) → (times n p).spells xs b → All P xs → (times n q).spells xs b
times_narrower q p P zero k xs b s all = s
times_narrower q p P (suc n) k xs b s all =
    let here = All-same P (s.0.0 ∷ s.0.1) xs (sym s.2) all in
    let one = k.narrower s.0.0 s.1.0 s.1.3 (All-head P s.0.0 s.0.1 here) in
    (s.0, (s.1.0, s.1.1, s.1.2, one, times_narrower q p P n k s.0.1 s.1.1 s.1.4 (All-tail P s.0.0 s.0.1 here)), s.2)

times_narrows : {A : Type 0} (q p : Part A) (P : A → Type 0) (n : ℕ) → Narrows q p P → Narrows (times n q) (times n p) (All P)
times_narrows q p P n k = record { wider = times_wider q p P n k; narrower = times_narrower q p P n k }

pub pool_by_narrows : {A : Type 0} (q p : ℕ → Part A) (P : A → Type 0) → ((n : ℕ) → Narrows (q n) (p n) P) → Narrows (pool_by q) (pool_by p) (All P)
unfolding pool_by
pool_by_narrows {A = A} q p P k =
    image_narrows (λ (x : ℕ × List A). x.1) _ _ (All P)
    (second_narrows u30 (λ n. times (n - 1) (q (n - 1))) (λ n. times (n - 1) (p (n - 1))) (λ x. All P x.1) (λ n. times_narrows (q (n - 1)) (p (n - 1)) P (n - 1) (k (n - 1))))

-- what follows those before
record Rest {A : Type 0} (before xs : List A) : Type 0 where
  rest : List A
  is : xs ≡ before ++ rest

chain_rest : {A : Type 0} (n : ℕ) (p : List A → Part A) (before xs : List A) (b : List ℕ) → (chain n p before).spells xs b → Rest before xs
chain_rest zero p before xs b s = record { rest = []; is = s.0 ∙ sym (append-nil before) }
chain_rest (suc n) p before xs b s =
    let more = chain_rest n p (before ++ s.0.0 ∷ []) s.0.1 s.1.1 s.1.4 in
    record { rest = s.0.0 ∷ more.rest; is = s.2 ∙ more.is ∙ append_assoc before (s.0.0 ∷ []) more.rest }

middle : {X : Type 0} (P : X → Type 0) (before : List X) (x : X) (rest : List X) → All P (before ++ x ∷ rest) → P x
middle P [] x rest all = All-head P x rest all
middle P (y ∷ before) x rest all = middle P before x rest (All-tail P y (before ++ x ∷ rest) all)

chain_wider : {A : Type 0} (n : ℕ) (q p : List A → Part A) (P : A → Type 0) → ((before : List A) → Narrows (q before) (p before) P) → (before xs : List A) (b : List ℕ)
    → (chain n q before).spells xs b → All P before → (chain n p before).spells xs b × All P xs
chain_wider zero q p P k before xs b s all = (s, All-same P xs before s.0 all)
chain_wider (suc n) q p P k before xs b s all =
    let one = (k before).wider s.0.0 s.1.0 s.1.3 in
    let more = chain_wider n q p P k (before ++ s.0.0 ∷ []) s.0.1 s.1.1 s.1.4 (All-push P before s.0.0 all one.1) in
    ((s.0, (s.1.0, s.1.1, s.1.2, one.0, more.0), s.2), All-same P xs s.0.1 s.2 more.1)

chain_narrower : {A : Type 0} (n : ℕ) (q p : List A → Part A) (P : A → Type 0) → ((before : List A) → Narrows (q before) (p before) P) → (before xs : List A) (b : List ℕ)
    → (chain n p before).spells xs b → All P xs → (chain n q before).spells xs b
chain_narrower zero q p P k before xs b s all = s
chain_narrower (suc n) q p P k before xs b s all =
    let more = chain_rest n p (before ++ s.0.0 ∷ []) s.0.1 s.1.1 s.1.4 in
    let last = All-same P s.0.1 xs (sym s.2) all in
    let x = middle P before s.0.0 more.rest (All-same P (before ++ s.0.0 ∷ more.rest) s.0.1 (sym (more.is ∙ append_assoc before (s.0.0 ∷ []) more.rest)) last) in
    (s.0, (s.1.0, s.1.1, s.1.2, (k before).narrower s.0.0 s.1.0 s.1.3 x, chain_narrower n q p P k (before ++ s.0.0 ∷ []) s.0.1 s.1.1 s.1.4 last), s.2)

pub chain_narrows : {A : Type 0} (n : ℕ) (q p : List A → Part A) (P : A → Type 0) → ((before : List A) → Narrows (q before) (p before) P) → Narrows (chain n q []) (chain n p []) (All P)
chain_narrows n q p P k = record { wider = λ xs b s. chain_wider n q p P k [] xs b s (All-nil P); narrower = chain_narrower n q p P k [] }

pub pair_narrows : {A B : Type 0} (q p : Part A) (g f : A → Part B) (P : A → Type 0) (Q : B → Type 0) → Narrows q p P → ((x : A) → Narrows (g x) (f x) Q) → Narrows (then_by q g) (then_by p f) (λ x. P x.0 × Q x.1)
pair_narrows q p g f P Q m n = record {
  wider = λ x b s. let v = m.wider x.0 s.0 s.3 in let w = (n x.0).wider x.1 s.1 s.4 in ((s.0, s.1, s.2, v.0, w.0), (v.1, w.1));
  narrower = λ x b s h. (s.0, s.1, s.2, m.narrower x.0 s.0 s.3 h.0, (n x.0).narrower x.1 s.1 s.4 h.1);
}
