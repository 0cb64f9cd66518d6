-- Edges that lead from a node to another: by computing, and by their definition.
use Rattle.std.proofs.Common.{◌≡◌, ℕ, zero, suc, ◌+◌, ◌-◌, ◌<◌, ◌≤◌, inl, inr, Bool, true, false, ◌||◌, nat_eq, List, [], ◌∷◌, length, refl, sym, ap, ◌∙◌, subst, eq-eqb, eqb-true, arith}
use Rattle.std.specs.List.{AllByRecursion, Any, Contains, IsDistinct, list_any}
use Rattle.std.proofs.lemmas.Bool.{cases_lt, false≢true}
use Rattle.std.proofs.lemmas.List.{get_or_past}
use Rattle.std.proofs.lemmas.List.Folds.{Any-from_list_any, list_any_at}
use Rattle.std.proofs.lemmas.Map.Steps.{length-le_from_distinct_below}
use Rattle.abc_base_graphs.specs.Graph.{Edge, Leads, Then, leads_to}
use Rattle.abc_meaning.specs.Types.{leads_within}

-- ---- tests

or_true : (a : Bool) → (a || true) ≡ true
or_true true = refl
or_true false = refl

or_more : (a b c : Bool) → (b ≡ true → c ≡ true) → (a || b) ≡ true → (a || c) ≡ true
or_more true b c f e = refl
or_more false b c f e = f e

any_more : (p q : ℕ → Bool) (xs : List ℕ) → ((z : ℕ) → p z ≡ true → q z ≡ true) → list_any p xs ≡ true → list_any q xs ≡ true
any_more p q [] f e = e
any_more p q (x ∷ xs) f e = go (λ g. any_more p q xs f g) (p x) refl
  where
    go : (list_any p xs ≡ true → list_any q xs ≡ true) → (b : Bool) → p x ≡ b → list_any q (x ∷ xs) ≡ true
    go more true is = ap (λ b. b || list_any q xs) (f x is)
    go more false is = ap (λ b. q x || b) (more (sym (ap (λ b. b || list_any p xs) is) ∙ e)) ∙ or_true (q x)

any_target : (p : ℕ → Bool) (xs : List ℕ) (v : ℕ) → Contains xs v → p v ≡ true → list_any p xs ≡ true
any_target p xs v (k, lt, e) t = list_any_at p xs k v lt (ap p e ∙ t)

-- ---- what is computed is so

pub leads_sound : (g : List (List ℕ)) (n x y : ℕ) → leads_within g n x y ≡ true → Leads g x y
leads_sound g zero x y e = absurd (false≢true e)
leads_sound g (suc n) x y e = go (leads_sound g n) (Any-from_list_any (λ z. nat_eq y z || leads_within g n z y) (leads_to g x) e)
  where
    step : ((u v : ℕ) → leads_within g n u v ≡ true → Leads g u v) → (z : ℕ) → Contains (leads_to g x) z → (b : Bool) → nat_eq y z ≡ b → (b || leads_within g n z y) ≡ true → Leads g x y
    step more z c true is t = Edge (subst (λ w. Contains (leads_to g x) w) (sym (eqb-true y z is)) c)
    step more z c false is t = Then c (more z y t)

    go : ((u v : ℕ) → leads_within g n u v ≡ true → Leads g u v) → Any (λ z. (nat_eq y z || leads_within g n z y) ≡ true) (leads_to g x) → Leads g x y
    go more (k, z, lt, is, t) = step more z (k, lt, is) (nat_eq y z) refl t

-- ---- trails: nodes of which each has an edge to the next, and the last to the end

abbrev IsTrail : List (List ℕ) → List ℕ → ℕ → Type 0
IsTrail g [] y = ⊥
IsTrail g (u ∷ []) y = Contains (leads_to g u) y
IsTrail g (u ∷ v ∷ vs) y = Contains (leads_to g u) v × IsTrail g (v ∷ vs) y

trail_leads : (g : List (List ℕ)) (u : ℕ) (us : List ℕ) (y : ℕ) → IsTrail g (u ∷ us) y → leads_within g (suc (length us)) u y ≡ true
trail_leads g u [] y c = any_target (λ z. nat_eq y z || leads_within g zero z y) (leads_to g u) y c (ap (λ b. b || false) (eq-eqb y y refl))
trail_leads g u (v ∷ vs) y (c, t) = any_target (λ z. nat_eq y z || leads_within g (suc (length vs)) z y) (leads_to g u) v c (ap (λ b. nat_eq y v || b) (trail_leads g v vs y t) ∙ or_true (nat_eq y v))

leads_more : (g : List (List ℕ)) (n x y : ℕ) → leads_within g n x y ≡ true → leads_within g (suc n) x y ≡ true
leads_more g zero x y e = absurd (false≢true e)
leads_more g (suc n) x y e = any_more (λ z. nat_eq y z || leads_within g n z y) (λ z. nat_eq y z || leads_within g (suc n) z y) (leads_to g x) (λ z t. or_more (nat_eq y z) (leads_within g n z y) (leads_within g (suc n) z y) (leads_more g n z y) t) e

leads_beyond : (g : List (List ℕ)) (k n x y : ℕ) → leads_within g n x y ≡ true → leads_within g (n + k) x y ≡ true
leads_beyond g zero n x y e = let same : n ≡ n + 0 = omega arith in subst (λ j. leads_within g j x y ≡ true) same e
leads_beyond g (suc k) n x y e = let same : suc (n + k) ≡ n + suc k = omega arith in subst (λ j. leads_within g j x y ≡ true) same (leads_more g (n + k) x y (leads_beyond g k n x y e))

-- ---- a trail on which no node stands twice

abbrev Trail : List (List ℕ) → ℕ → ℕ → Type 0
Trail g x y = (us : List ℕ) × IsTrail g (x ∷ us) y × IsDistinct nat_eq (x ∷ us)

-- from where a node stands on it
cut : (g : List (List ℕ)) (x w : ℕ) (ws : List ℕ) (y : ℕ) → IsTrail g (w ∷ ws) y → IsDistinct nat_eq (w ∷ ws) → list_any (nat_eq x) (w ∷ ws) ≡ true → Trail g x y
unfolding IsDistinct
cut g x w [] y t d e = go (nat_eq x w) refl e
  where
    go : (b : Bool) → nat_eq x w ≡ b → (b || false) ≡ true → Trail g x y
    go true is f = subst (λ z. Trail g z y) (sym (eqb-true x w is)) ([], t, d)
    go false is f = absurd (false≢true f)
cut g x w (v ∷ vs) y t d e = go (cut g x v vs y t.1 d.1) (nat_eq x w) refl e
  where
    go : (list_any (nat_eq x) (v ∷ vs) ≡ true → Trail g x y) → (b : Bool) → nat_eq x w ≡ b → (b || list_any (nat_eq x) (v ∷ vs)) ≡ true → Trail g x y
    go more true is f = subst (λ z. Trail g z y) (sym (eqb-true x w is)) (v ∷ vs, t, d)
    go more false is f = more f

all_apart : (x : ℕ) (ws : List ℕ) → list_any (nat_eq x) ws ≡ false → AllByRecursion (λ w. nat_eq x w ≡ false) ws
all_apart x [] e = tt
all_apart x (w ∷ ws) e = go (all_apart x ws) (nat_eq x w) refl e
  where
    go : (list_any (nat_eq x) ws ≡ false → AllByRecursion (λ v. nat_eq x v ≡ false) ws) → (b : Bool) → nat_eq x w ≡ b → (b || list_any (nat_eq x) ws) ≡ false → AllByRecursion (λ v. nat_eq x v ≡ false) (w ∷ ws)
    go more true is f = absurd (false≢true (sym f))
    go more false is f = (is, more f)

with_first : (g : List (List ℕ)) (x z y : ℕ) → Contains (leads_to g x) z → Trail g z y → Trail g x y
unfolding IsDistinct
with_first g x z y c (us, t, d) = go (list_any (nat_eq x) (z ∷ us)) refl
  where
    go : (b : Bool) → list_any (nat_eq x) (z ∷ us) ≡ b → Trail g x y
    go true e = cut g x z us y t d e
    go false e = (z ∷ us, (c, t), (all_apart x (z ∷ us) e, d))

trail_of : (g : List (List ℕ)) (x y : ℕ) → Leads g x y → Trail g x y
unfolding IsDistinct
trail_of g x y (Edge c) = ([], c, (tt, tt))
trail_of g x y (Then {y = z} c rest) = with_first g x z y c (trail_of g z y rest)

-- ---- its nodes are nodes of the graph, so it is no longer than there are

has_edge : (g : List (List ℕ)) (u v : ℕ) → Contains (leads_to g u) v → u < length g
has_edge g u v (k, lt, e) = elim (cases_lt u (length g)) [ inl low ↦ low | inr high ↦ let none : leads_to g u ≡ [] = get_or_past g u [] high in let gone : k < 0 = subst (λ ts. k < length ts) none lt in absurd (omega arith) ]

all_low : (g : List (List ℕ)) (u : ℕ) (us : List ℕ) (y : ℕ) → IsTrail g (u ∷ us) y → (q : ℕ) → list_any (nat_eq q) (u ∷ us) ≡ true → q < length g
all_low g u [] y c q e = go (nat_eq q u) refl e
  where
    go : (b : Bool) → nat_eq q u ≡ b → (b || false) ≡ true → q < length g
    go true is f = subst (λ z. z < length g) (sym (eqb-true q u is)) (has_edge g u y c)
    go false is f = absurd (false≢true f)
all_low g u (v ∷ vs) y (c, t) q e = go (all_low g v vs y t q) (nat_eq q u) refl e
  where
    go : (list_any (nat_eq q) (v ∷ vs) ≡ true → q < length g) → (b : Bool) → nat_eq q u ≡ b → (b || list_any (nat_eq q) (v ∷ vs)) ≡ true → q < length g
    go more true is f = subst (λ z. z < length g) (sym (eqb-true q u is)) (has_edge g u v c)
    go more false is f = more f

pub leads_complete : (g : List (List ℕ)) (x y : ℕ) → Leads g x y → leads_within g (length g) x y ≡ true
leads_complete g x y h =
    let trail = trail_of g x y h in
    let short : length (x ∷ trail.0) ≤ length g = length-le_from_distinct_below (x ∷ trail.0) (length g) trail.2 (all_low g x trail.0 y trail.1) in
    let fits : suc (length trail.0) + (length g - suc (length trail.0)) ≡ length g = omega arith in
    subst (λ j. leads_within g j x y ≡ true) fits (leads_beyond g (length g - suc (length trail.0)) (suc (length trail.0)) x y (trail_leads g x trail.0 y trail.1))
