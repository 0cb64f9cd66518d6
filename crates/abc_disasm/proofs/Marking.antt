-- One more number that is named.
use Rattle.std.proofs.Common.{◌≡◌, ℕ, zero, suc, ◌+◌, take, ◌<◌, ◌≤◌, inl, inr, Bool, true, false, cond, nat_eq, List, [], ◌∷◌, ◌++◌, length, get_or, refl, sym, ap, subst, ◌∙◌, get_or-set_same, get_or-set_other, length-set, arith, append_assoc, append-nil}
use Rattle.std.specs.List.{flat_map}
use Rattle.std.proofs.Math.ListN.{replicate, set}
use Rattle.std.proofs.lemmas.List.{take_all, take_more}
use Rattle.std.proofs.lemmas.Grind.{flat_map-append}
use Rattle.std.proofs.lemmas.Bool.Decides.{nat_tests}
use Rattle.abc_text_lines.proofs.Bools.{split_bool}
use Rattle.abc_text_lines.proofs.Scans.{eq_is}
use Rattle.abc_text_lines.specs.Wordlines.{among}
use Rattle.abc_disasm.specs.Marks.{AreTargetMarks}

among_last : (k n : ℕ) (named : List ℕ) → among k (named ++ n ∷ []) ≡ cond (among k named) true (nat_eq k n)
among_last k n [] = elim (split_bool (nat_eq k n)) [ inl e ↦ rw e refl | inr e ↦ rw e refl ]
among_last k n (m ∷ named) = elim (split_bool (nat_eq k m)) [ inl e ↦ rw e refl | inr e ↦ rw e (among_last k n named) ]

yes : (b : Bool) → cond b true true ≡ true
yes true = refl
yes false = refl

same_ : (b : Bool) → cond b true false ≡ b
same_ true = refl
same_ false = refl

pub marked : (ms : List Bool) (named : List ℕ) (n : ℕ) → n < length ms → AreTargetMarks ms named → AreTargetMarks (set ms n true) (named ++ n ∷ [])
marked ms named n lt are k within =
    let few : k < length ms = omega (arith, length-set ms n true) in
    elim (split_bool (nat_eq k n)) [
      | inl e ↦
          let same : k ≡ n = eq_is k n e in
          ap (λ (j : ℕ). get_or (set ms n true) j false) same ∙ get_or-set_same ms n true false lt ∙ sym (among_last k n named ∙ ap (λ (b : Bool). cond (among k named) true b) e ∙ yes (among k named))
      | inr e ↦
          let differ : ¬ (k ≡ n) = λ h. (let t : nat_eq k n ≡ true = grind (arith, nat_tests) in cc) in
          get_or-set_other ms n k true false differ ∙ are k few ∙ sym (among_last k n named ∙ ap (λ (b : Bool). cond (among k named) true b) e ∙ same_ (among k named))
    ]

pub unmarked : (ms : List Bool) (named : List ℕ) (n : ℕ) → length ms ≤ n → AreTargetMarks ms named → AreTargetMarks ms (named ++ n ∷ [])
unmarked ms named n le are k within =
    let other : nat_eq k n ≡ false = grind (arith, nat_tests) in
    are k within ∙ sym (among_last k n named ∙ ap (λ (b : Bool). cond (among k named) true b) other ∙ same_ (among k named))

-- ---- lists of which one more item was gone over

pub more_by : {A : Type 0} (f : A → List ℕ) (named : List ℕ) (xs : List A) (i : ℕ) (d : A) → i < length xs → (named ++ flat_map f (take i xs)) ++ f (get_or xs i d) ≡ named ++ flat_map f (take (i + 1) xs)
more_by f named xs i d lt =
    append_assoc named (flat_map f (take i xs)) (f (get_or xs i d))
    ∙ ap (λ (l : List ℕ). named ++ l) (sym (ap (flat_map f) (take_more xs i d lt) ∙ flat_map-append f (take i xs) (get_or xs i d ∷ []) ∙ ap (λ (l : List ℕ). flat_map f (take i xs) ++ l) (append-nil (f (get_or xs i d)))))

pub more_all : (named ts : List ℕ) (i : ℕ) → i < length ts → (named ++ take i ts) ++ get_or ts i 0 ∷ [] ≡ named ++ take (i + 1) ts
more_all named ts i lt = append_assoc named (take i ts) (get_or ts i 0 ∷ []) ∙ ap (λ (l : List ℕ). named ++ l) (sym (take_more ts i 0 lt))

pub whole : {A : Type 0} (xs : List A) (i : ℕ) → length xs ≤ i → take i xs ≡ xs
whole xs i le = take_all i xs le

-- no number is named yet
pub none_marked : (n : ℕ) → AreTargetMarks (replicate n false) []
none_marked zero k lt = refl
none_marked (suc n) zero lt = refl
none_marked (suc n) (suc k) lt = none_marked n k (omega (arith, lt))

-- what is left of other marks once all are taken away and blank ones added
pub cleared : (n k : ℕ) (ms old : List Bool) → old ≡ [] → ms ≡ take n old ++ replicate k false → AreTargetMarks ms []
cleared n k ms old e h =
    let blank : List Bool → List Bool = λ l. l ++ replicate k false in
    let same : ms ≡ replicate k false = h ∙ ap (λ (l : List Bool). blank (take n l)) e ∙ ap blank (take_all {A = Bool} n [] (omega arith)) in
    subst (λ (l : List Bool). AreTargetMarks l []) (sym same) (none_marked k)
