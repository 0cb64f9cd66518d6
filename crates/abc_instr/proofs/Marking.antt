-- Marks of places.
use Rattle.std.proofs.Common.{◌≡◌, ℕ, ◌-◌, ◌^◌, ◌<◌, ◌≤◌, List, ◌++◌, length, get_or, set, take, Some, None, refl, sym, ap, ◌∙◌, inl, inr, arith}
use Rattle.std.specs.Prelude.{IfSome, replicate}
use Rattle.std.specs.declared.option.Option.{Option}
use Rattle.std.proofs.lemmas.Bool.{cases_lt}
use Rattle.std.proofs.lemmas.Bool.Decides.{eqb_tells}
use Rattle.std.proofs.lemmas.List.{get_or_append_left, get_or-append_right, get_or-set_same, get_or-set_other, get_or-replicate, length-replicate, take_all}
use Rattle.std.proofs.Math.ListN.{get_or-eq_default}
use Rattle.abc_instr.specs.declared.marks.TheConstants.{BLANK}
use Rattle.abc_instr.specs.Marks.{mark_at, mark_of, with_mark, no_mark}

-- a place past the end says nothing, and so do places that are added without marks
added : (table : List ℕ) (n p : ℕ) → get_or (table ++ replicate n no_mark) p no_mark ≡ get_or table p no_mark
added table n p = elim (cases_lt p (length table)) [
  | inl within ↦ get_or_append_left table (replicate n no_mark) no_mark p within
  | inr past ↦ get_or-append_right table (replicate n no_mark) (length table) p no_mark refl (omega arith) ∙ none (p - length table) ∙ sym (get_or-eq_default table no_mark (omega arith))
] where
  none : (k : ℕ) → get_or (replicate n no_mark) k no_mark ≡ no_mark
  none k = elim (cases_lt k n) [
    | inl lt ↦ get_or-replicate n k no_mark no_mark lt
    | inr ge ↦ get_or-eq_default (replicate n no_mark) no_mark (omega (arith, length-replicate n no_mark))
  ]

pub grown : (table grew : List ℕ) (n p : ℕ) → length table ≤ n → grew ≡ take n table ++ replicate (n - length table) no_mark → mark_at grew p ≡ mark_at table p
grown table grew n p le e = rw (e, take_all n table le) (ap mark_of (added table (n - length table) p))

pub blank_more : (table grew blank : List ℕ) (p : ℕ) → blank ≡ BLANK → grew ≡ table ++ blank → mark_at grew p ≡ mark_at table p
blank_more table grew blank p is e = rw (e, is) (ap mark_of (added table 64 p))

pub one_more : (table : List ℕ) (place moved p : ℕ) → place < length table → moved < 2 ^ 23 → mark_at (set table place moved) p ≡ with_mark place moved (mark_at table) p
one_more table place moved p lt small = elim (eqb_tells p place) [
  | inl same ↦ let m : mark_of moved ≡ Some moved = is_mark moved small in rw (same.0, same.1) (ap mark_of (get_or-set_same table place moved no_mark lt) ∙ m)
  | inr other ↦ rw other.0 (ap mark_of (get_or-set_other table place p moved no_mark other.1))
] where
  is_mark : (m : ℕ) → m < 2 ^ 23 → mark_of m ≡ Some m
  is_mark m lt = elim (eqb_tells m no_mark) [
    | inl same ↦ absurd (omega (arith, same.1))
    | inr other ↦ rw other.0 refl
  ]

-- marks of code stay below the length of code
pub stays_small : (table : List ℕ) (place moved : ℕ) → ((p n : ℕ) → mark_at table p ≡ Some n → n < 2 ^ 23) → place < length table → moved < 2 ^ 23 → (p n : ℕ) → mark_at (set table place moved) p ≡ Some n → n < 2 ^ 23
stays_small table place moved all lt small p n e = elim (eqb_tells p place) [
  | inl same ↦ let h : with_mark place moved (mark_at table) p ≡ Some n = sym (one_more table place moved p lt small) ∙ e in let f = rw same.0 at h in let g : moved ≡ n = cc in omega (arith, g)
  | inr other ↦ let h : with_mark place moved (mark_at table) p ≡ Some n = sym (one_more table place moved p lt small) ∙ e in all p n (rw other.0 at h)
]

pub bounded : (table : List ℕ) (p : ℕ) (o : Option ℕ) → ((q n : ℕ) → mark_at table q ≡ Some n → n < 2 ^ 23) → o ≡ mark_at table p → IfSome o (λ n. n < 2 ^ 23)
bounded table p (Some n) all e = all p n (sym e)
bounded table p None all e = tt
