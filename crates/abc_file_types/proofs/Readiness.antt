-- Facts of each element, as a list of tests tells them.
use Rattle.std.proofs.Common.{◌≡◌, ℕ, ◌+◌, ◌-◌, ◌^◌, ◌<◌, min, take, List, [], ◌∷◌, ◌++◌, length, get_or, sym, ap, subst, ◌∙◌, add-zero, arith}
use Rattle.std.specs.Prelude.{◌↔◌, ◌≤◌}
use Rattle.std.specs.List.{All}
use Rattle.std.proofs.lemmas.List.{take_all, take_more}
use Rattle.std.proofs.lemmas.List.Elements.{All-cons, All-head, All-nil, All-push, All-tail}
use Rattle.abc_file_types.specs.declared.code.Instr.{Instr}
use Rattle.abc_file_types.specs.CodeBytes.{code_len, instr_len}
use Rattle.abc_file_types.specs.Ready.{AllCanSpell, AllUpTo, CanSpell}
use Rattle.abc_file_types.proofs.Lengths.{len-append}

pub each_up_to : (n : ℕ) (ts : List ℕ) → All (λ t. t ≤ n) ts → AllUpTo n ts
each_up_to n [] all = tt
each_up_to n (t ∷ ts) all = (All-head (λ t. t ≤ n) t ts all, each_up_to n ts (All-tail (λ t. t ≤ n) t ts all))

pub up_to_each : (n : ℕ) (ts : List ℕ) → AllUpTo n ts → All (λ t. t ≤ n) ts
up_to_each n [] all = All-nil (λ t. t ≤ n)
up_to_each n (t ∷ ts) all = All-cons (λ t. t ≤ n) t ts all.0 (up_to_each n ts all.1)

pub up_to : (n : ℕ) (ts : List ℕ) → All (λ t. t ≤ n) ts ↔ AllUpTo n ts
up_to n ts = (each_up_to n ts, up_to_each n ts)

pub each_spelled : (n : ℕ) (is : List Instr) → All (CanSpell n) is → AllCanSpell n is
each_spelled n [] all = tt
each_spelled n (x ∷ is) all = (All-head (CanSpell n) x is all, each_spelled n is (All-tail (CanSpell n) x is all))

pub spelled_each : (n : ℕ) (is : List Instr) → AllCanSpell n is → All (CanSpell n) is
spelled_each n [] all = All-nil (CanSpell n)
spelled_each n (x ∷ is) all = All-cons (CanSpell n) x is all.0 (spelled_each n is all.1)

pub spelled : (n : ℕ) (is : List Instr) → All (CanSpell n) is ↔ AllCanSpell n is
spelled n is = (each_spelled n is, spelled_each n is)

-- ---- instructions that are spelled, one after the other, with how many bytes they have

pub record SpelledSoFar (n : ℕ) (is : List Instr) (sum : ℕ) : Type 0 where
  pub each : All (CanSpell n) is
  pub len : sum ≡ min (code_len is) (2 ^ 64 - 1)

pub none_spelled : (n : ℕ) (is : List Instr) → SpelledSoFar n (take 0 is) 0
none_spelled n is = record { each = All-nil (CanSpell n); len = omega arith }

pub one_more_spelled : (n : ℕ) (is : List Instr) (i len more : ℕ) (x : Instr) → i < length is → x ≡ get_or is i x → SpelledSoFar n (take i is) len → CanSpell n x → more ≡ min (instr_len x) (2 ^ 64 - 1) → SpelledSoFar n (take (i + 1) is) (min (len + more) (2 ^ 64 - 1))
one_more_spelled n is i len more x lt at so can is_more =
    let t : take (i + 1) is ≡ take i is ++ x ∷ [] = take_more is i x lt ∙ ap (λ (y : Instr). take i is ++ y ∷ []) (sym at) in
    let sum : code_len (take (i + 1) is) ≡ code_len (take i is) + instr_len x = ap code_len t ∙ len-append (take i is) (x ∷ []) ∙ ap (λ (k : ℕ). code_len (take i is) + k) (add-zero (instr_len x)) in
    record {
      each = subst (All (CanSpell n)) (sym t) (All-push (CanSpell n) (take i is) x so.each can);
      len = omega (arith, so.len, is_more, sum);
    }

pub all_spelled : (n : ℕ) (is : List Instr) (i len : ℕ) → length is ≤ i → SpelledSoFar n (take i is) len → All (CanSpell n) is × (len ≡ min (code_len is) (2 ^ 64 - 1))
all_spelled n is i len le so = let h = subst (λ (l : List Instr). SpelledSoFar n l len) (take_all i is le) so in (h.each, h.len)

-- an instruction that isn't spelled
pub one_unspelled : (n : ℕ) (is : List Instr) (i : ℕ) (x : Instr) → i < length is → x ≡ get_or is i x → (CanSpell n x → ⊥) → All (CanSpell n) is → ⊥
one_unspelled n is i x lt at not all = not (subst (CanSpell n) (sym at) (all i x lt))
