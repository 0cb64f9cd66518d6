-- Numbers that are found by search are those that the sums say.
use Rattle.std.proofs.Common.{◌≡◌, ℕ, zero, suc, ℤ, pos, negsuc, ◌+ℤ◌, ◌+◌, ◌-◌, ◌*◌, ◌<◌, ◌≤◌, inl, inr, List, [], ◌∷◌, length, get_or, nat_eq, Ok, Err, Some, None, refl, sym, ap, subst, ◌∙◌, arith}
use Rattle.std.specs.List.{position, All}
use Rattle.std.proofs.lemmas.List.Quantifiers.{position-Some}
use Rattle.std.proofs.lemmas.List.{ext_get_or}
use Rattle.std.proofs.lemmas.Bool.Decides.{nat_tests}
use Rattle.std.specs.declared.option.Option.{Option}
use Rattle.abc_file_types.specs.declared.reason.Reason.TheVariants as reasons
use Rattle.abc_file_types.specs.Part.{Refusal, refusal, ◌>>=◌}
use Rattle.abc_file_types.proofs.Exact.{bind_ok, bind_err}
use Rattle.abc_file_types.specs.Instructions.{RawInstr, Same, Branch, Switch}
use Rattle.abc_file_types.specs.declared.code.Instr.{Instr}
use Rattle.abc_file_types.specs.declared.code.Instr.TheVariants as instrs
use Rattle.abc_file_types.specs.Starts.{starts, start, AreStarts}
use Rattle.abc_file_types.specs.Targets.{at_start, target_of, found_target, cases_of, instr_of, instrs_of}
use Rattle.abc_file_types.specs.Code.{IsTarget, AreTargets, Means, MeansAll, LeadsNowhere, CasesMiss, Misses, MissesFirst}
use Rattle.abc_file_types.proofs.Resolving.{position_is, starts_rising, length-starts}

starts_at : {A : Type 0} (at : ℕ) (ps : List (A × ℕ)) (t : ℕ) → t ≤ length ps → get_or (starts at ps) t 0 ≡ at + start ps t
starts_at at [] zero le = omega arith
starts_at at [] (suc t) le = absurd (omega arith)
starts_at at (p ∷ ps) zero le = omega arith
starts_at at (p ∷ ps) (suc t) le = let h = starts_at (at + p.1) ps t (omega arith) in omega arith

pub starts_from : {A : Type 0} (ps : List (A × ℕ)) (t : ℕ) → t ≤ length ps → get_or (starts 0 ps) t 0 ≡ start ps t
starts_from ps t le = let h = starts_at 0 ps t le in omega arith

-- the starts that the sums say are those, one after the other
pub starts_are : {A : Type 0} (ps : List (A × ℕ)) → AreStarts ps (starts 0 ps)
starts_are ps = record { count = length-starts 0 ps; each = λ t le. starts_from ps t le }

pub starts_same : {A : Type 0} (ps : List (A × ℕ)) (os : List ℕ) → AreStarts ps os → os ≡ starts 0 ps
starts_same ps os s = ext_get_or 0 os (starts 0 ps) (s.count ∙ sym (length-starts 0 ps)) (λ i lt. s.each i (omega (arith, s.count)) ∙ sym (starts_from ps i (omega (arith, s.count))))

pos_is : (a b : ℕ) → pos a ≡ pos b → a ≡ b
pos_is a b e = cc

some_is : (a b : ℕ) → Some a ≡ Some b → a ≡ b
some_is a b e = cc

found_some : (place : ℕ) (o : Option ℕ) (t : ℕ) → found_target place o ≡ Ok t → o ≡ Some t
found_some place (Some s) t e = let same : s ≡ t = cc in ap (λ (n : ℕ). Some n) same
found_some place None t e = absurd cc

found_none : (place : ℕ) (o : Option ℕ) (d : Refusal) → found_target place o ≡ Err d → (o ≡ None) × (d ≡ refusal place reasons.Target)
found_none place (Some s) d e = absurd cc
found_none place None d e = (refl, cc)

nothing_found : (place : ℕ) (o : Option ℕ) → ((t : ℕ) → o ≡ Some t → ⊥) → found_target place o ≡ Err (refusal place reasons.Target)
nothing_found place (Some s) h = absurd (h s refl)
nothing_found place None h = refl

module _ (ps : List (RawInstr × ℕ)) (all : All (λ p. 0 < p.1) ps) where
  at_is : (z : ℤ) (t : ℕ) → at_start (starts 0 ps) z ≡ Some t → (t ≤ length ps) × (pos (start ps t) ≡ z)
  at_is (pos n) t e =
      let p = position-Some (λ s. nat_eq s n) (starts 0 ps) t 0 e in
      let le : t ≤ length ps = omega (arith, p.0, length-starts 0 ps) in
      let here : get_or (starts 0 ps) t 0 ≡ n = let test = p.1 in grind (arith, nat_tests) in
      (le, ap (λ (m : ℕ). pos m) (sym (starts_from ps t le) ∙ here))
  at_is (negsuc n) t e = absurd cc

  at_again : (z : ℤ) (t : ℕ) → t ≤ length ps → pos (start ps t) ≡ z → at_start (starts 0 ps) z ≡ Some t
  at_again z t le e =
      let p = position_is (starts 0 ps) t (starts_rising ps all) (omega (arith, length-starts 0 ps)) in
      let q : position (λ s. nat_eq s (start ps t)) (starts 0 ps) ≡ Some t = rw (← starts_from ps t le) p in
      subst (λ (y : ℤ). at_start (starts 0 ps) y ≡ Some t) e q

  pub target_is : (base : ℕ) (z : ℤ) (t : ℕ) → target_of (starts 0 ps) base z ≡ Some t → IsTarget ps base z t
  target_is base z t e = let p = at_is (pos base +ℤ z) t e in record { within = p.0; is = p.1 }

  pub target_again : (base : ℕ) (z : ℤ) (t : ℕ) → IsTarget ps base z t → target_of (starts 0 ps) base z ≡ Some t
  target_again base z t s = at_again (pos base +ℤ z) t s.within s.is

  -- ---- what was found is what is meant

  found_ok : (place base : ℕ) (z : ℤ) (t : ℕ) → found_target place (target_of (starts 0 ps) base z) ≡ Ok t → IsTarget ps base z t
  found_ok place base z t e = target_is base z t (found_some place (target_of (starts 0 ps) base z) t e)

  found_again : (place base : ℕ) (z : ℤ) (t : ℕ) → IsTarget ps base z t → found_target place (target_of (starts 0 ps) base z) ≡ Ok t
  found_again place base z t s = let e = target_again base z t s in rw e refl

  found_err : (place base : ℕ) (z : ℤ) (d : Refusal) → found_target place (target_of (starts 0 ps) base z) ≡ Err d → LeadsNowhere ps base z × (d ≡ refusal place reasons.Target)
  found_err place base z d e =
      let n = found_none place (target_of (starts 0 ps) base z) d e in
      (λ t s. let y = target_again base z t s in let x = n.0 in absurd cc, n.1)

  found_misses : (place base : ℕ) (z : ℤ) → LeadsNowhere ps base z → found_target place (target_of (starts 0 ps) base z) ≡ Err (refusal place reasons.Target)
  found_misses place base z nowhere = nothing_found place (target_of (starts 0 ps) base z) (λ t e. nowhere t (target_is base z t e))

  -- ---- the cases of a switch

  cases_ok : (base next : ℕ) (zs : List ℤ) (ts : List ℕ) → cases_of (starts 0 ps) base next zs ≡ Ok ts → AreTargets ps base zs ts
  cases_ok base next [] [] e = tt
  cases_ok base next [] (t ∷ ts) e = absurd cc
  cases_ok base next (z ∷ zs) [] e =
      let a = bind_ok (found_target (next - 3 * suc (length zs)) (target_of (starts 0 ps) base z)) (λ t. cases_of (starts 0 ps) base next zs >>= λ ts. Ok (t ∷ ts)) [] e in
      let b = bind_ok (cases_of (starts 0 ps) base next zs) (λ ts. Ok (a.0 ∷ ts)) [] a.2 in
      absurd (let f = b.2 in cc)
  cases_ok base next (z ∷ zs) (t ∷ ts) e =
      let a = bind_ok (found_target (next - 3 * suc (length zs)) (target_of (starts 0 ps) base z)) (λ t. cases_of (starts 0 ps) base next zs >>= λ ts. Ok (t ∷ ts)) (t ∷ ts) e in
      let b = bind_ok (cases_of (starts 0 ps) base next zs) (λ ts. Ok (a.0 ∷ ts)) (t ∷ ts) a.2 in
      let f = b.2 in
      let same : a.0 ≡ t = cc in
      let rest : b.0 ≡ ts = cc in
      (subst (λ (n : ℕ). IsTarget ps base z n) same (found_ok (next - 3 * suc (length zs)) base z a.0 a.1), cases_ok base next zs ts (b.1 ∙ ap (λ (l : List ℕ). Ok l) rest))

  cases_again : (base next : ℕ) (zs : List ℤ) (ts : List ℕ) → AreTargets ps base zs ts → cases_of (starts 0 ps) base next zs ≡ Ok ts
  cases_again base next [] [] s = refl
  cases_again base next [] (t ∷ ts) s = absurd s
  cases_again base next (z ∷ zs) [] s = absurd s
  cases_again base next (z ∷ zs) (t ∷ ts) s =
      let one = found_again (next - 3 * suc (length zs)) base z t s.0 in
      let more = cases_again base next zs ts s.1 in
      rw (one, more) refl

  cases_err : (base next : ℕ) (zs : List ℤ) (d : Refusal) → cases_of (starts 0 ps) base next zs ≡ Err d → CasesMiss ps base next zs d.place × (d.reason ≡ reasons.Target)
  cases_err base next [] d e = absurd cc
  cases_err base next (z ∷ zs) d e =
      elim (bind_err (found_target (next - 3 * suc (length zs)) (target_of (starts 0 ps) base z)) (λ t. cases_of (starts 0 ps) base next zs >>= λ ts. Ok (t ∷ ts)) d e) [
        | inl h ↦ let m = found_err (next - 3 * suc (length zs)) base z d h in (inl (m.0, ap (λ (r : Refusal). r.place) m.1), ap (λ (r : Refusal). r.reason) m.1)
        | inr a ↦ elim (bind_err (cases_of (starts 0 ps) base next zs) (λ ts. Ok (a.0 ∷ ts)) d a.2) [
          | inl h ↦ let m = cases_err base next zs d h in (inr (a.0, found_ok (next - 3 * suc (length zs)) base z a.0 a.1, m.0), m.1)
          | inr b ↦ absurd (let f = b.2 in cc)
        ]
      ]

  cases_miss : (base next : ℕ) (zs : List ℤ) (place : ℕ) → CasesMiss ps base next zs place → cases_of (starts 0 ps) base next zs ≡ Err (refusal place reasons.Target)
  cases_miss base next [] place s = absurd s
  cases_miss base next (z ∷ zs) place (inl s) = let one = found_misses (next - 3 * suc (length zs)) base z s.0 in rw (one, s.1) refl
  cases_miss base next (z ∷ zs) place (inr s) =
      let one = found_again (next - 3 * suc (length zs)) base z s.0 s.1 in
      let more = cases_miss base next zs place s.2 in
      rw (one, more) refl

  -- ---- one instruction

  instr_ok : (here next : ℕ) (raw : RawInstr) (i : Instr) → instr_of (starts 0 ps) here next raw ≡ Ok i → Means ps here next raw i
  instr_ok here next (Same j) i e = cc
  instr_ok here next (Branch op z) i e =
      let a = bind_ok (found_target (here + 1) (target_of (starts 0 ps) next z)) (λ t. Ok (instrs.Branch op t)) i e in
      let f = a.2 in
      (a.0, found_ok (here + 1) next z a.0 a.1, cc)
  instr_ok here next (Switch z zs) i e =
      let a = bind_ok (found_target (here + 1) (target_of (starts 0 ps) here z)) (λ t. cases_of (starts 0 ps) here next zs >>= λ ts. Ok (instrs.Switch t ts)) i e in
      let b = bind_ok (cases_of (starts 0 ps) here next zs) (λ ts. Ok (instrs.Switch a.0 ts)) i a.2 in
      let f = b.2 in
      (a.0, b.0, found_ok (here + 1) here z a.0 a.1, cases_ok here next zs b.0 b.1, cc)

  instr_again : (here next : ℕ) (raw : RawInstr) (i : Instr) → Means ps here next raw i → instr_of (starts 0 ps) here next raw ≡ Ok i
  instr_again here next (Same j) i s = rw s refl
  instr_again here next (Branch op z) i s = let one = found_again (here + 1) next z s.0 s.1 in rw (one, s.2) refl
  instr_again here next (Switch z zs) i s =
      let one = found_again (here + 1) here z s.0 s.2 in
      let more = cases_again here next zs s.1 s.3 in
      rw (one, more, s.4) refl

  instr_err : (here next : ℕ) (raw : RawInstr) (d : Refusal) → instr_of (starts 0 ps) here next raw ≡ Err d → Misses ps here next raw d.place × (d.reason ≡ reasons.Target)
  instr_err here next (Same j) d e = absurd cc
  instr_err here next (Branch op z) d e =
      elim (bind_err (found_target (here + 1) (target_of (starts 0 ps) next z)) (λ t. Ok (instrs.Branch op t)) d e) [
        | inl h ↦ let m = found_err (here + 1) next z d h in ((m.0, ap (λ (r : Refusal). r.place) m.1), ap (λ (r : Refusal). r.reason) m.1)
        | inr a ↦ absurd (let f = a.2 in cc)
      ]
  instr_err here next (Switch z zs) d e =
      elim (bind_err (found_target (here + 1) (target_of (starts 0 ps) here z)) (λ t. cases_of (starts 0 ps) here next zs >>= λ ts. Ok (instrs.Switch t ts)) d e) [
        | inl h ↦ let m = found_err (here + 1) here z d h in (inl (m.0, ap (λ (r : Refusal). r.place) m.1), ap (λ (r : Refusal). r.reason) m.1)
        | inr a ↦ elim (bind_err (cases_of (starts 0 ps) here next zs) (λ ts. Ok (instrs.Switch a.0 ts)) d a.2) [
          | inl h ↦ let m = cases_err here next zs d h in (inr (a.0, found_ok (here + 1) here z a.0 a.1, m.0), m.1)
          | inr b ↦ absurd (let f = b.2 in cc)
        ]
      ]

  instr_misses : (here next : ℕ) (raw : RawInstr) (place : ℕ) → Misses ps here next raw place → instr_of (starts 0 ps) here next raw ≡ Err (refusal place reasons.Target)
  instr_misses here next (Same j) place s = absurd s
  instr_misses here next (Branch op z) place s = let one = found_misses (here + 1) next z s.0 in rw (one, s.1) refl
  instr_misses here next (Switch z zs) place (inl s) = let one = found_misses (here + 1) here z s.0 in rw (one, s.1) refl
  instr_misses here next (Switch z zs) place (inr s) =
      let one = found_again (here + 1) here z s.0 s.1 in
      let more = cases_miss here next zs place s.2 in
      rw (one, more) refl

  -- ---- all of them

  pub means_all : (here : ℕ) (xs : List (RawInstr × ℕ)) (is : List Instr) → instrs_of (starts 0 ps) here xs ≡ Ok is → MeansAll ps here xs is
  means_all here [] [] e = tt
  means_all here [] (i ∷ is) e = absurd cc
  means_all here (x ∷ xs) [] e =
      let a = bind_ok (instr_of (starts 0 ps) here (here + x.1) x.0) (λ i. instrs_of (starts 0 ps) (here + x.1) xs >>= λ is. Ok (i ∷ is)) [] e in
      let b = bind_ok (instrs_of (starts 0 ps) (here + x.1) xs) (λ is. Ok (a.0 ∷ is)) [] a.2 in
      absurd (let f = b.2 in cc)
  means_all here (x ∷ xs) (i ∷ is) e =
      let a = bind_ok (instr_of (starts 0 ps) here (here + x.1) x.0) (λ i. instrs_of (starts 0 ps) (here + x.1) xs >>= λ is. Ok (i ∷ is)) (i ∷ is) e in
      let b = bind_ok (instrs_of (starts 0 ps) (here + x.1) xs) (λ is. Ok (a.0 ∷ is)) (i ∷ is) a.2 in
      let f = b.2 in
      let same : a.0 ≡ i = cc in
      let rest : b.0 ≡ is = cc in
      (subst (λ (j : Instr). Means ps here (here + x.1) x.0 j) same (instr_ok here (here + x.1) x.0 a.0 a.1), means_all (here + x.1) xs is (b.1 ∙ ap (λ (l : List Instr). Ok l) rest))

  pub means_again : (here : ℕ) (xs : List (RawInstr × ℕ)) (is : List Instr) → MeansAll ps here xs is → instrs_of (starts 0 ps) here xs ≡ Ok is
  means_again here [] [] s = refl
  means_again here [] (i ∷ is) s = absurd s
  means_again here (x ∷ xs) [] s = absurd s
  means_again here (x ∷ xs) (i ∷ is) s =
      let one = instr_again here (here + x.1) x.0 i s.0 in
      let more = means_again (here + x.1) xs is s.1 in
      rw (one, more) refl

  pub misses_all : (here : ℕ) (xs : List (RawInstr × ℕ)) (d : Refusal) → instrs_of (starts 0 ps) here xs ≡ Err d → MissesFirst ps here xs d.place × (d.reason ≡ reasons.Target)
  misses_all here [] d e = absurd cc
  misses_all here (x ∷ xs) d e =
      elim (bind_err (instr_of (starts 0 ps) here (here + x.1) x.0) (λ i. instrs_of (starts 0 ps) (here + x.1) xs >>= λ is. Ok (i ∷ is)) d e) [
        | inl h ↦ let m = instr_err here (here + x.1) x.0 d h in (inl m.0, m.1)
        | inr a ↦ elim (bind_err (instrs_of (starts 0 ps) (here + x.1) xs) (λ is. Ok (a.0 ∷ is)) d a.2) [
          | inl h ↦ let m = misses_all (here + x.1) xs d h in (inr (a.0, instr_ok here (here + x.1) x.0 a.0 a.1, m.0), m.1)
          | inr b ↦ absurd (let f = b.2 in cc)
        ]
      ]

  pub misses_again : (here : ℕ) (xs : List (RawInstr × ℕ)) (place : ℕ) → MissesFirst ps here xs place → instrs_of (starts 0 ps) here xs ≡ Err (refusal place reasons.Target)
  misses_again here [] place s = absurd s
  misses_again here (x ∷ xs) place (inl s) = let one = instr_misses here (here + x.1) x.0 place s in rw one refl
  misses_again here (x ∷ xs) place (inr s) =
      let one = instr_again here (here + x.1) x.0 s.0 s.1 in
      let more = misses_again (here + x.1) xs place s.2 in
      rw (one, more) refl
