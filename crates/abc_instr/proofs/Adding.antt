-- How a scan grows by an instruction, step by step.
use Rattle.std.proofs.Common.{◌≡◌, ℕ, suc, ℤ, ◌+◌, ◌-◌, ◌*◌, ◌<◌, List, [], ◌∷◌, ◌++◌, length, get_or, drop, Some, None, refl, sym, ap, ◌∙◌, length-append, length-drop, append_assoc, arith}
use Rattle.std.specs.List.{flat_map}
use Rattle.std.proofs.lemmas.List.{append-nil}
use Rattle.abc_base.specs.Numbers.{number_bytes}
use Rattle.abc_file_types.specs.Canonical.{s24_bytes}
use Rattle.abc_file_types.specs.CodeBytes.{number_len}
use Rattle.abc_file_types.proofs.Canon.{s24_length}
use Rattle.abc_file_types.proofs.Resolving.{drop_read}
use Rattle.abc_instr.specs.declared.holes.Hole.{Hole}
use Rattle.abc_instr.specs.declared.raw.RawInstr.{RawInstr as Raw}
use Rattle.abc_instr.specs.declared.raw.RawInstr.TheVariants as raws
use Rattle.abc_instr.specs.declared.scan.Scan.{Scan}
use Rattle.abc_instr.specs.Scanning.{AddsInstruction, case_holes, holes_in, jump_in, plain_bytes, raw_bytes}

-- ---- an instruction without targets

pub plain_is : (i : Raw) → jump_in i ≡ None → plain_bytes i ≡ raw_bytes i
plain_is (raws.Same i) e = refl
plain_is (raws.Branch op z) e = absurd cc
plain_is (raws.Switch z zs) e = absurd cc

pub no_holes : (i : Raw) (here next moved : ℕ) → jump_in i ≡ None → holes_in i here next moved ≡ []
no_holes (raws.Same i) here next moved e = refl
no_holes (raws.Branch op z) here next moved e = absurd cc
no_holes (raws.Switch z zs) here next moved e = absurd cc

-- ---- where it stands

pub adds_at : (i : Raw) (n n2 here here2 : ℕ) (old new : Scan) → n ≡ n2 → here ≡ here2 → AddsInstruction i n here old new → AddsInstruction i n2 here2 old new
adds_at i n n2 here here2 old new e f adds = record {
  code = adds.code;
  holes = adds.holes ∙ (λ t. old.holes.items ++ holes_in i (f t) (f t + e t) (length old.code.items));
  marks = adds.marks;
}

-- ---- a branch

-- An instruction with targets is told itself, and nothing is put.
record IsKept (i j : Raw) : Type 0 where
  same : j ≡ i
  none : plain_bytes i ≡ []

kept : (i j : Raw) → Some j ≡ jump_in i → IsKept i j
kept (raws.Same i) j e = absurd cc
kept (raws.Branch op z) j e = record { same = cc; none = refl }
kept (raws.Switch z zs) j e = record { same = cc; none = refl }

-- what was told is what was at the front, of which nothing was put yet
pub told_adds : (i j : Raw) (n n2 here here2 : ℕ) (old mid new : Scan) → Some j ≡ jump_in i → n ≡ n2 → here ≡ here2 → mid.code.items ≡ old.code.items ++ plain_bytes i → mid.holes.items ≡ old.holes.items → mid.marks ≡ old.marks
    → AddsInstruction j n here mid new → AddsInstruction i n2 here2 old new
told_adds i j n n2 here here2 old mid new told e f code holes marks adds =
    let is = kept i j told in
    let same : mid.code.items ≡ old.code.items = code ∙ ap (λ (l : List ℕ). old.code.items ++ l) is.none ∙ append-nil old.code.items in
    record {
      code = adds.code ∙ (λ t. same t ++ raw_bytes (is.same t));
      holes = adds.holes ∙ (λ t. holes t ++ holes_in (is.same t) (f t) (f t + e t) (length (same t)));
      marks = adds.marks ∙ marks;
    }

pub branch_put : (op : ℕ) (z : ℤ) (here next place moved : ℕ) (old mid new : Scan) → here < next → place ≡ here + 1 → moved ≡ length old.code.items + 4
    → mid.code.items ≡ old.code.items ++ op ∷ [] → mid.holes.items ≡ old.holes.items → mid.marks ≡ old.marks → new.code.items ≡ mid.code.items ++ s24_bytes z
    → new.holes.items ≡ mid.holes.items ++ record { place = place; at = length mid.code.items; base = next; moved = moved; offset = z } ∷ [] → new.marks ≡ mid.marks
    → AddsInstruction (raws.Branch op z) (next - here) here old new
branch_put op z here next place moved old mid new lt p m code holes marks code2 holes2 marks2 =
    let at : length mid.code.items ≡ length old.code.items + 1 = omega (arith, ap length code, length-append old.code.items (op ∷ [])) in
    let end : next ≡ here + (next - here) = omega arith in
    let hole : ℕ → ℕ → ℕ → ℕ → Hole = λ place at base moved. record { place = place; at = at; base = base; moved = moved; offset = z } in
    record {
      code = code2 ∙ ap (λ (l : List ℕ). l ++ s24_bytes z) code ∙ append_assoc old.code.items (op ∷ []) (s24_bytes z);
      holes = holes2 ∙ (λ t. holes t ++ hole (p t) (at t) (end t) (m t) ∷ []);
      marks = marks2 ∙ marks;
    }

-- ---- a switch

pub switch_put : (z : ℤ) (zs : List ℤ) (here next place moved : ℕ) (code1 code2 code3 : List ℕ) (holes2 : List Hole) (old new : Scan) → here < next → place ≡ here + 1 → moved ≡ length old.code.items
    → code1 ≡ old.code.items ++ 0x1b ∷ [] → code2 ≡ code1 ++ s24_bytes z → holes2 ≡ old.holes.items ++ record { place = place; at = length code1; base = here; moved = moved; offset = z } ∷ []
    → code3 ≡ code2 ++ number_bytes (length zs - 1) → new.code.items ≡ code3 ++ flat_map s24_bytes zs → new.holes.items ≡ holes2 ++ case_holes next (length code3) here moved zs → new.marks ≡ old.marks
    → AddsInstruction (raws.Switch z zs) (next - here) here old new
switch_put z zs here next place moved code1 code2 code3 holes2 old new lt p m first second default third fourth cases marks =
    let many = number_bytes (length zs - 1) in
    let rest = flat_map s24_bytes zs in
    let at1 : length code1 ≡ length old.code.items + 1 = omega (arith, ap length first, length-append old.code.items (0x1b ∷ [])) in
    let at2 : length code2 ≡ length code1 + 3 = omega (arith, ap length second, length-append code1 (s24_bytes z), s24_length z) in
    let at3 : length code3 ≡ length old.code.items + 4 + number_len (length zs - 1) = omega (arith, at1, at2, ap length third, length-append code2 many) in
    let end : next ≡ here + (next - here) = omega arith in
    let hole : ℕ → ℕ → ℕ → Hole = λ place at moved. record { place = place; at = at; base = here; moved = moved; offset = z } in
    let both : code2 ≡ (old.code.items ++ 0x1b ∷ []) ++ s24_bytes z = second ∙ ap (λ (l : List ℕ). l ++ s24_bytes z) first in
    record {
      code = fourth ∙ ap (λ (l : List ℕ). l ++ rest) (third ∙ ap (λ (l : List ℕ). l ++ many) both) ∙ append_assoc ((old.code.items ++ 0x1b ∷ []) ++ s24_bytes z) many rest
          ∙ append_assoc (old.code.items ++ 0x1b ∷ []) (s24_bytes z) (many ++ rest) ∙ append_assoc old.code.items (0x1b ∷ []) (s24_bytes z ++ (many ++ rest));
      holes = cases ∙ ap (λ (l : List Hole). l ++ case_holes next (length code3) here moved zs) default ∙ append_assoc old.holes.items (hole place (length code1) moved ∷ []) (case_holes next (length code3) here moved zs)
          ∙ (λ t. old.holes.items ++ hole (p t) (at1 t) (m t) ∷ case_holes (end t) (at3 t) here (m t) zs);
      marks = marks;
    }

-- its cases, one after the other
module _ (next base moved i : ℕ) (z : ℤ) (zs : List ℤ) (lt : i < length zs) (read : z ≡ get_or zs i z) (code code2 : List ℕ) (put : code2 ≡ code ++ s24_bytes z) where
  pub case_code : (all : List ℕ) → code ++ flat_map s24_bytes (drop i zs) ≡ all → code2 ++ flat_map s24_bytes (drop (i + 1) zs) ≡ all
  case_code all so_far =
      let rest = flat_map s24_bytes (drop (i + 1) zs) in
      ap (λ (l : List ℕ). l ++ rest) put ∙ append_assoc code (s24_bytes z) rest ∙ sym (ap (λ (l : List ℤ). code ++ flat_map s24_bytes l) (drop_read zs i z lt read)) ∙ so_far

  pub case_room : (all : ℕ) → length code + 3 * length (drop i zs) ≡ all → length code2 + 3 * length (drop (i + 1) zs) ≡ all
  case_room all so_far = omega (arith, so_far, lt, ap length put, length-append code (s24_bytes z), s24_length z, length-drop i zs, length-drop (i + 1) zs)

  pub case_hole : (place : ℕ) (holes holes2 all : List Hole) → place ≡ next - 3 * (length zs - i) → holes2 ≡ holes ++ record { place = place; at = length code; base = base; moved = moved; offset = z } ∷ []
      → holes ++ case_holes next (length code) base moved (drop i zs) ≡ all → holes2 ++ case_holes next (length code2) base moved (drop (i + 1) zs) ≡ all
  case_hole place holes holes2 all p noted so_far =
      let rest = drop (i + 1) zs in
      let left : length zs - i ≡ suc (length rest) = omega (arith, lt, length-drop (i + 1) zs) in
      let stands : place ≡ next - 3 * suc (length rest) = p ∙ ap (λ (k : ℕ). next - 3 * k) left in
      let after : length code2 ≡ length code + 3 = omega (arith, ap length put, length-append code (s24_bytes z), s24_length z) in
      let hole : ℕ → Hole = λ place. record { place = place; at = length code; base = base; moved = moved; offset = z } in
      ap (λ (l : List Hole). l ++ case_holes next (length code2) base moved rest) noted ∙ append_assoc holes (hole place ∷ []) (case_holes next (length code2) base moved rest)
      ∙ (λ t. holes ++ hole (stands t) ∷ case_holes next (after t) base moved rest)
      ∙ sym (ap (λ (l : List ℤ). holes ++ case_holes next (length code) base moved l) (drop_read zs i z lt read)) ∙ so_far
