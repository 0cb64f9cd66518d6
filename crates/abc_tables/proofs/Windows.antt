-- A walk over bodies that marks which of some methods it has met.
use Rattle.std.proofs.Common.{◌≡◌, ◌≢◌, ℕ, ◌+◌, ◌-◌, ◌*◌, ◌/◌, ◌<◌, ◌≤◌, inl, inr, Bool, true, false, List, [], ◌∷◌, ◌++◌, length, get_or, set, take, drop, take-append-drop, refl, sym, ap, subst, ◌∙◌, arith}
use Rattle.std.specs.Prelude.{All, AllPairs, ◌||◌, nat_eq}
use Rattle.std.specs.List.{list_any}
use Rattle.std.proofs.lemmas.Bool.{cases_eq}
use Rattle.std.proofs.lemmas.Bool.Decides.{nat_tests}
use Rattle.std.proofs.lemmas.Grind.{get_or-set_at}
use Rattle.std.proofs.lemmas.List.{get_or-set_other, length-set, take_more}
use Rattle.std.proofs.lemmas.List.Folds.{list_any-append, list_any_at, list_any_none}
use Rattle.std.proofs.lemmas.List.Quantifiers.{all_pairs_push}
use Rattle.abc_file_types.specs.declared.code.Body.{Body}
use Rattle.abc_file_types.proofs.Resolving.{drop_read}
use Rattle.abc_tables.specs.declared.fitting_bodies.TheConstants.{WINDOW}
use Rattle.abc_tables.specs.Distinct.{Differ, DifferFrom}
use Rattle.abc_tables.proofs.Chains.{pairs_before}

abbrev has : ℕ → Body → Bool
has m b = nat_eq b.method m

-- The marks tell which of the methods from `low` on these bodies have, and each body has another.
pub record Walked (low many : ℕ) (seen : List Bool) (met : List Body) : Type 0 where
  pub room : length seen ≡ many
  pub marks : (k : ℕ) → k < many → get_or seen k false ≡ list_any (has (low + k)) met
  pub apart : AllPairs (DifferFrom low many) met

or_true : (a b : Bool) → b ≡ true → (a || (b || false)) ≡ true
or_true true b e = refl
or_true false true e = refl
or_true false false e = absurd cc

or_false : (a b : Bool) → b ≡ false → (a || (b || false)) ≡ a
or_false true b e = refl
or_false false false e = refl
or_false false true e = absurd cc

one_more : (m : ℕ) (met : List Body) (x : Body) → list_any (has m) (met ++ x ∷ []) ≡ (list_any (has m) met || (has m x || false))
one_more m met x = list_any-append (has m) met (x ∷ [])

pub begun : (low many : ℕ) (seen : List Bool) → length seen ≡ many → All (λ mark. mark ≡ false) seen → Walked low many seen []
begun low many seen room clear = record { room = room; marks = λ k lt. clear k false (omega (arith, room)); apart = λ i j d lt len. absurd (omega arith) }

-- no body before has the method
others : (m : ℕ) (met : List Body) → list_any (has m) met ≡ false → All (λ y. y.method ≢ m) met
others m met none = λ k d lt same.
    let test : has m (get_or met k d) ≡ true = grind (arith, nat_tests) in
    let some = list_any_at (has m) met k d lt test in
    absurd cc

pub marked : (low many : ℕ) (seen : List Bool) (met : List Body) (x : Body) → Walked low many seen met → low ≤ x.method → x.method - low < many → get_or seen (x.method - low) false ≡ false → Walked low many (set seen (x.method - low) true) (met ++ x ∷ [])
marked low many seen met x w le lt free =
    let n = x.method - low in
    let at : low + n ≡ x.method = omega arith in
    record {
      room = length-set seen n true ∙ w.room;
      marks = λ k less. elim (cases_eq k n) [
        | inl e ↦
            let test : has (low + k) x ≡ true = grind (arith, nat_tests) in
            get_or-set_at seen n k true false e (omega (arith, w.room)) ∙ sym (one_more (low + k) met x ∙ or_true (list_any (has (low + k)) met) (has (low + k) x) test)
        | inr d ↦
            let test : has (low + k) x ≡ false = grind (arith, nat_tests) in
            get_or-set_other seen n k true false d ∙ w.marks k less ∙ sym (one_more (low + k) met x ∙ or_false (list_any (has (low + k)) met) (has (low + k) x) test)
      ];
      apart = all_pairs_push (DifferFrom low many) met x w.apart (λ k d less ge within. rw at at (others (low + n) met (sym (w.marks n lt) ∙ free) k d less));
    }

outside : (m : ℕ) (x : Body) → x.method ≢ m → has m x ≡ false
outside m x other = grind (arith, nat_tests)

pub skipped : (low many : ℕ) (seen : List Bool) (met : List Body) (x : Body) → Walked low many seen met → (low ≤ x.method → x.method - low < many → ⊥) → Walked low many seen (met ++ x ∷ [])
skipped low many seen met x w out = record {
  room = w.room;
  marks = λ k less.
      let test : has (low + k) x ≡ false = outside (low + k) x (λ e. out (omega arith) (omega arith)) in
      w.marks k less ∙ sym (one_more (low + k) met x ∙ or_false (list_any (has (low + k)) met) (has (low + k) x) test);
  apart = all_pairs_push (DifferFrom low many) met x w.apart (λ k d lt ge within same. out (omega arith) (omega arith));
}

none_met : (m : ℕ) (met : List Body) → All (λ y. y.method ≢ m) met → list_any (has m) met ≡ true → ⊥
none_met m met all some =
    let none : list_any (has m) met ≡ false = list_any_none (has m) met (λ k d lt. outside m (get_or met k d) (all k d lt)) in
    cc

-- a mark tells of a body before that has the method
pub met_again : (low many : ℕ) (seen : List Bool) (met : List Body) (x : Body) (rest : List Body) → Walked low many seen met → low ≤ x.method → x.method - low < many → get_or seen (x.method - low) false ≡ true → AllPairs (DifferFrom low many) (met ++ x ∷ rest) → ⊥
met_again low many seen met x rest w le lt met_it pairs =
    let n = x.method - low in
    let at : low + n ≡ x.method = omega arith in
    let before = pairs_before (DifferFrom low many) met x rest pairs in
    let some : list_any (has (low + n)) met ≡ true = sym (w.marks n lt) ∙ met_it in
    none_met (low + n) met (λ k d less same. before k d less (omega arith) (omega (arith, same)) (same ∙ at)) some

-- ---- at a body of a list

module _ (low many : ℕ) (seen : List Bool) (bodies : List Body) (i : ℕ) (x : Body) (within : i < length bodies) (is : x ≡ get_or bodies i x) (w : Walked low many seen (take i bodies)) where
  front : take (i + 1) bodies ≡ take i bodies ++ x ∷ []
  front = take_more bodies i x within ∙ ap (λ (y : Body). take i bodies ++ y ∷ []) (sym is)

  whole : bodies ≡ take i bodies ++ x ∷ drop (i + 1) bodies
  whole = sym (take-append-drop i bodies) ∙ ap (λ (l : List Body). take i bodies ++ l) (drop_read bodies i x within is)

  pub marked_at : low ≤ x.method → x.method - low < length seen → get_or seen (x.method - low) false ≡ false → Walked low many (set seen (x.method - low) true) (take (i + 1) bodies)
  marked_at le lt free = rw front (marked low many seen (take i bodies) x w le (omega (arith, w.room)) free)

  pub skipped_at : (low ≤ x.method → x.method - low < length seen → ⊥) → Walked low many seen (take (i + 1) bodies)
  skipped_at out = rw front (skipped low many seen (take i bodies) x w (λ le lt. out le (omega (arith, w.room))))

  pub met_at : low ≤ x.method → x.method - low < length seen → get_or seen (x.method - low) false ≡ true → AllPairs (DifferFrom low many) bodies → ⊥
  met_at le lt met_it pairs = met_again low many seen (take i bodies) x (drop (i + 1) bodies) w le (omega (arith, w.room)) met_it (subst (AllPairs (DifferFrom low many)) whole pairs)

-- windows that cover all methods
pub covered : (bodies : List Body) (count methods : ℕ) → ((w : ℕ) → w < count → AllPairs (DifferFrom (w * WINDOW) WINDOW) bodies) → methods / WINDOW < count → All (λ b. b.method < methods) bodies → AllPairs Differ bodies
covered bodies count methods each enough below = λ i j d lt len.
    let m = (get_or bodies i d).method in
    let less : m < methods = below i d (omega arith) in
    each (m / WINDOW) (omega arith) i j d lt len (omega arith) (omega arith)
