-- What was read and got its targets can be put.
use Rattle.std.proofs.Common.{◌≡◌, ℕ, suc, ℤ, pos, negsuc, ◌+◌, ◌-◌, ◌*◌, ◌^◌, ◌<◌, ◌≤◌, List, [], ◌∷◌, ◌++◌, length, nat_eq, false, Ok, Some, None, refl, ap, subst, ◌∙◌, arith}
use Rattle.std.proofs.lemmas.List.{length-map}
use Rattle.std.proofs.lemmas.List.Quantifiers.{position-Some}
use Rattle.std.specs.declared.option.Option.{Option}
use Rattle.abc_file_types.specs.Part.{◌>>=◌}
use Rattle.abc_file_types.proofs.Exact.{bind_ok}
use Rattle.abc_file_types.specs.declared.code.Instr.{Instr}
use Rattle.abc_file_types.specs.declared.code.Instr.TheVariants as instrs
use Rattle.abc_file_types.specs.CodeBytes.{code_len, instr_len}
use Rattle.abc_file_types.specs.Ready.{AllCanSpell, AllUpTo, CanSpell, IsReady}
use Rattle.abc_file_types.specs.Targets.{at_start, cases_of, found_target, instr_of, instrs_of, target_of}
use Rattle.abc_instr.specs.declared.raw.RawInstr.{RawInstr as Raw}
use Rattle.abc_instr.specs.declared.raw.RawInstr.TheVariants as raws
use Rattle.abc_instr.specs.Offsets.{AreRaw, IsRaw, has_targets, raw_len, raw_of, raws_len}
use Rattle.abc_instr.specs.Scanning.{instrs_in, raws_in}

-- ---- targets

at_start_within : (ss : List ℕ) (z : ℤ) (t : ℕ) → at_start ss z ≡ Some t → t < length ss
at_start_within ss (pos n) t e = (position-Some (λ s. nat_eq s n) ss t 0 e).0
at_start_within ss (negsuc n) t e = absurd cc

found_is : (place : ℕ) (o : Option ℕ) (t : ℕ) → found_target place o ≡ Ok t → o ≡ Some t
found_is place (Some u) t e = cc
found_is place None t e = absurd cc

target_within : (ss : List ℕ) (place base : ℕ) (z : ℤ) (n t : ℕ) → length ss ≡ suc n → found_target place (target_of ss base z) ≡ Ok t → t ≤ n
target_within ss place base z n t count e = omega (arith, at_start_within ss _ t (found_is place (target_of ss base z) t e))

pub record Within (n : ℕ) (zs : List ℤ) (ts : List ℕ) : Type 0 where
  pub count : length ts ≡ length zs
  each : AllUpTo n ts

pub cases_within : (ss : List ℕ) (base next n : ℕ) (zs : List ℤ) (ts : List ℕ) → length ss ≡ suc n → cases_of ss base next zs ≡ Ok ts → Within n zs ts
cases_within ss base next n [] ts count e = let same : [] ≡ ts = cc in subst (Within n []) same (record { count = refl; each = tt })
cases_within ss base next n (z ∷ zs) ts count e =
    let place = next - 3 * suc (length zs) in
    let a = bind_ok (found_target place (target_of ss base z)) (λ t. cases_of ss base next zs >>= λ us. Ok (t ∷ us)) ts e in
    let b = bind_ok (cases_of ss base next zs) (λ us. Ok (a.0 ∷ us)) ts a.2 in
    let rest = cases_within ss base next n zs b.0 count b.1 in
    let same : a.0 ∷ b.0 ≡ ts = let h = b.2 in cc in
    subst (Within n (z ∷ zs)) same (record { count = ap suc rest.count; each = (target_within ss place base z n a.0 count a.1, rest.each) })

-- ---- instructions

-- It is as long as it was, and its targets are numbers of the n instructions or of the end.
pub record Set (n : ℕ) (i : Raw) (j : Instr) : Type 0 where
  pub can : CanSpell n j
  pub len : instr_len j ≡ raw_len i

-- one without targets, whatever their number is
same_can : (n : ℕ) (i : Instr) → has_targets i ≡ false → CanSpell 0 i → CanSpell n i
same_can n (instrs.Plain op) e can = can
same_can n (instrs.One op x) e can = can
same_can n (instrs.Two op x y) e can = can
same_can n (instrs.Branch op t) e can = absurd cc
same_can n (instrs.Switch t ts) e can = absurd cc
same_can n (instrs.Byte z) e can = can
same_can n (instrs.Short z) e can = can
same_can n (instrs.ScopeObject x) e can = can
same_can n (instrs.Debug kind name reg extra) e can = can

pub instr_set : (ss : List ℕ) (here next n : ℕ) (i : Raw) (j : Instr) → length ss ≡ suc n → instr_of ss here next (raw_of i) ≡ Ok j → IsRaw i → Set n i j
instr_set ss here next n (raws.Same i) j count e raw =
    let same : i ≡ j = cc in
    subst (Set n (raws.Same i)) same (record { can = same_can n i raw.1 raw.0; len = refl })
instr_set ss here next n (raws.Branch op z) j count e raw =
    let a = bind_ok (found_target (here + 1) (target_of ss next z)) (λ u. Ok (instrs.Branch op u)) j e in
    let same : instrs.Branch op a.0 ≡ j = let h = a.2 in cc in
    subst (Set n (raws.Branch op z)) same (record { can = (raw.0, target_within ss (here + 1) next z n a.0 count a.1); len = refl })
instr_set ss here next n (raws.Switch z zs) j count e raw =
    let a = bind_ok (found_target (here + 1) (target_of ss here z)) (λ u. cases_of ss here next zs >>= λ us. Ok (instrs.Switch u us)) j e in
    let b = bind_ok (cases_of ss here next zs) (λ us. Ok (instrs.Switch a.0 us)) j a.2 in
    let w = cases_within ss here next n zs b.0 count b.1 in
    let same : instrs.Switch a.0 b.0 ≡ j = let h = b.2 in cc in
    subst (Set n (raws.Switch z zs)) same (record {
      can = (target_within ss (here + 1) here z n a.0 count a.1, w.each, omega (arith, w.count, raw.0), omega (arith, w.count, raw.1));
      len = rw w.count refl;
    })

record AllSet (n : ℕ) (is : List Raw) (js : List Instr) : Type 0 where
  can : AllCanSpell n js
  len : code_len js ≡ raws_len is
  number : length js ≡ length is

instrs_set : (ss : List ℕ) (here n : ℕ) (xs : List (Raw × ℕ)) (js : List Instr) → length ss ≡ suc n → instrs_of ss here (raws_in xs) ≡ Ok js → AreRaw (instrs_in xs) → AllSet n (instrs_in xs) js
instrs_set ss here n [] js count e raw = let same : [] ≡ js = cc in subst (AllSet n []) same (record { can = tt; len = refl; number = refl })
instrs_set ss here n (x ∷ xs) js count e raw =
    let next = here + x.1 in
    let more = instrs_of ss next (raws_in xs) in
    let a = bind_ok (instr_of ss here next (raw_of x.0)) (λ y. more >>= λ ys. Ok (y ∷ ys)) js e in
    let b = bind_ok more (λ ys. Ok (a.0 ∷ ys)) js a.2 in
    let one = instr_set ss here next n x.0 a.0 count a.1 raw.0 in
    let rest = instrs_set ss next n xs b.0 count b.1 raw.1 in
    let same : a.0 ∷ b.0 ≡ js = let h = b.2 in cc in
    subst (AllSet n (x.0 ∷ instrs_in xs)) same (record { can = (one.can, rest.can); len = omega (arith, one.len, rest.len); number = ap suc rest.number })

-- ready to be put, and as many as before
pub record AreReady (xs : List (Raw × ℕ)) (js : List Instr) : Type 0 where
  pub ready : IsReady js
  pub number : length js ≡ length xs

pub resolved_ready : (ss : List ℕ) (xs : List (Raw × ℕ)) (js : List Instr) → length ss ≡ length xs + 1 → instrs_of ss 0 (raws_in xs) ≡ Ok js → AreRaw (instrs_in xs) → raws_len (instrs_in xs) < 2 ^ 23 → AreReady xs js
resolved_ready ss xs js count e raw short =
    let a = instrs_set ss 0 (length xs) xs js (omega arith) e raw in
    let n : length js ≡ length xs = a.number ∙ length-map xs (λ (x : Raw × ℕ). x.0) in
    record { ready = record { can = rw n a.can; short = omega (arith, a.len) }; number = n }

-- ---- one more, as a loop reads it

pub raw_push : (is : List Raw) (i : Raw) → AreRaw is → IsRaw i → AreRaw (is ++ i ∷ [])
raw_push [] i raw one = (one, tt)
raw_push (x ∷ is) i raw one = (raw.0, raw_push is i raw.1 one)

pub raws_len-push : (is : List Raw) (i : Raw) → raws_len (is ++ i ∷ []) ≡ raws_len is + raw_len i
raws_len-push [] i = omega arith
raws_len-push (x ∷ is) i = omega (arith, raws_len-push is i)
