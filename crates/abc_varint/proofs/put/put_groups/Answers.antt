use Rattle.std.proofs.Common.{◌≡◌, ◌/◌, ◌+◌, ◌%◌, ◌≤◌, ◌<◌, List, [], ◌∷◌, ℕ, ◌++◌, refl, arith}
use Rattle.abc_base.specs.Numbers.{number_bytes}
use Rattle.abc_varint.proofs.Putting.{bytes_3, bytes_4, bytes_5, bytes_over}
use Rattle.abc_varint.proofs.put.put_groups.Goals as goal

put_3 : (old new : List ℕ) (v w x a b : ℕ) → new ≡ old ++ (a ∷ b ∷ x ∷ []) → a ≡ v % 128 + 128 → b ≡ w % 128 + 128 → 128 ≤ v → w ≡ v / 128 → 128 ≤ w → x ≡ w / 128 → x < 128 → new ≡ old ++ number_bytes v
put_3 old new v w x a b is one two h1 e1 h2 e2 lt = rw (bytes_3 v w x h1 e1 h2 e2 lt, ← one, ← two) is

put_4 : (old new : List ℕ) (v w x y a b c : ℕ) → new ≡ old ++ (a ∷ b ∷ c ∷ y ∷ []) → a ≡ v % 128 + 128 → b ≡ w % 128 + 128 → c ≡ x % 128 + 128 → 128 ≤ v → w ≡ v / 128 → 128 ≤ w → x ≡ w / 128 → 128 ≤ x → y ≡ x / 128 → y < 128
    → new ≡ old ++ number_bytes v
put_4 old new v w x y a b c is one two three h1 e1 h2 e2 h3 e3 lt = rw (bytes_4 v w x y h1 e1 h2 e2 h3 e3 lt, ← one, ← two, ← three) is

put_5 : (old new : List ℕ) (v w x y z a b c d : ℕ) → new ≡ old ++ (a ∷ b ∷ c ∷ d ∷ z ∷ []) → a ≡ v % 128 + 128 → b ≡ w % 128 + 128 → c ≡ x % 128 + 128 → d ≡ y % 128 + 128
    → 128 ≤ v → w ≡ v / 128 → 128 ≤ w → x ≡ w / 128 → 128 ≤ x → y ≡ x / 128 → 128 ≤ y → z ≡ y / 128 → z < 128 → new ≡ old ++ number_bytes v
put_5 old new v w x y z a b c d is one two three four h1 e1 h2 e2 h3 e3 h4 e4 lt = rw (bytes_5 v w x y z h1 e1 h2 e2 h3 e3 h4 e4 lt, ← one, ← two, ← three, ← four) is

put_over : (old new : List ℕ) (v w x y z a b c d e : ℕ) → new ≡ old ++ (a ∷ b ∷ c ∷ d ∷ e ∷ []) → a ≡ v % 128 + 128 → b ≡ w % 128 + 128 → c ≡ x % 128 + 128 → d ≡ y % 128 + 128 → e ≡ z % 128 + 128
    → 128 ≤ v → w ≡ v / 128 → 128 ≤ w → x ≡ w / 128 → 128 ≤ x → y ≡ x / 128 → 128 ≤ y → z ≡ y / 128 → 128 ≤ z → new ≡ old ++ number_bytes v
put_over old new v w x y z a b c d e is one two three four five h1 e1 h2 e2 h3 e3 h4 e4 le = rw (bytes_over v w x y z h1 e1 h2 e2 h3 e3 h4 e4 le, ← one, ← two, ← three, ← four, ← five) is

pub returns-then-v2-lt128 : goal.returns-then-v2-lt128
returns-then-v2-lt128 c =
    let v = c.args.v in
    put_3 _ _ v (v / 128) (v / 128 / 128) _ _ c.in_ok-extend_from_slice-2.ensures.items c.more-then-v2-lt128.ensures c.more-then-v2-lt128-2.ensures (omega arith) refl (omega arith) refl (omega arith)

pub returns-then-v3-lt128 : goal.returns-then-v3-lt128
returns-then-v3-lt128 c =
    let v = c.args.v in
    put_4 _ _ v (v / 128) (v / 128 / 128) (v / 128 / 128 / 128) _ _ _ c.in_ok-extend_from_slice-3.ensures.items
    c.more-then-v3-lt128.ensures c.more-then-v3-lt128-2.ensures c.more-then-v3-lt128-3.ensures (omega arith) refl (omega arith) refl (omega arith) refl (omega arith)

pub returns-then-v4-lt128 : goal.returns-then-v4-lt128
returns-then-v4-lt128 c =
    let v = c.args.v in
    put_5 _ _ v (v / 128) (v / 128 / 128) (v / 128 / 128 / 128) (v / 128 / 128 / 128 / 128) _ _ _ _ c.in_ok-extend_from_slice-4.ensures.items
    c.more-then-v4-lt128.ensures c.more-then-v4-lt128-2.ensures c.more-then-v4-lt128-3.ensures c.more-then-v4-lt128-4.ensures (omega arith) refl (omega arith) refl (omega arith) refl (omega arith) refl (omega arith)

pub returns : goal.returns
returns c =
    let v = c.args.v in
    put_over _ _ v (v / 128) (v / 128 / 128) (v / 128 / 128 / 128) (v / 128 / 128 / 128 / 128) _ _ _ _ _ c.in_ok-extend_from_slice-5.ensures.items
    c.more-2.ensures c.more-3.ensures c.more-4.ensures c.more-5.ensures c.more-6.ensures (omega arith) refl (omega arith) refl (omega arith) refl (omega arith) refl (omega arith)
