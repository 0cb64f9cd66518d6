-- The next byte of those that a window holds.
use Rattle.std.proofs.Common.{◌≡◌, ℕ, suc, ◌+◌, ◌-◌, ◌<◌, ◌≤◌, ◌^◌, ◌∷◌, ◌++◌, List, get_or, take, drop, drop-cons, length, length-drop, refl, subst, sym, ap, ◌∙◌, Ok, Err, None, [], arith, inl, inr, add-one}
use Rattle.std.specs.declared.option.Option.{Option}
use Rattle.std.specs.declared.result.Result.{Result}
use Rattle.std.proofs.lemmas.List.{drop-drop, drop-take}
use Rattle.std.proofs.lemmas.Bool.{le-ltb, lt-ltb}
use Rattle.abc_file_types.specs.declared.reason.Reason.TheVariants as reasons
use Rattle.abc_file_types.specs.Part.{At, refusal, limit}
use Rattle.abc_file_types.specs.Numbers.{byte_at, u8}
use Rattle.abc_varint.specs.declared.error.ReadError.{ReadError}
use Rattle.abc_varint.specs.View.{View, NextOf, NextHere, held_bytes, onward}
use Rattle.abc_varint.specs.Reads.{Input, IsInput, Reads, known_input, stand, told_bytes}
use Rattle.abc_varint.proofs.Inputs.{ahead, ends_known, known_is, rest}

-- a window whose block is read on by n bytes
pub held_onward : (bs all : List ℕ) (from to n place : ℕ) → drop place all ≡ take (to - from) (drop from bs) → n ≤ to - from → drop (place + n) all ≡ take (to - (from + n)) (drop (from + n) bs)
held_onward bs all from to n place is le =
    let m = to - (from + n) in
    let e : to - from ≡ n + m = omega arith in
    sym (drop-drop n place all) ∙ ap (λ (t : List ℕ). drop n t) is ∙ rw (e, drop-take n m (drop from bs), drop-drop n from bs) refl

-- how many are held
pub held_count : (all : List ℕ) (from to n place : ℕ) → place + (to - from) ≡ length all → n ≤ length (drop place all) → n ≤ to - from
held_count all from to n place is le = omega (arith, length-drop place all, le)

-- the bytes after the first of those that are held
pub held_cons : (bs : List ℕ) (from to d : ℕ) → from < to → to ≤ length bs → take (to - from) (drop from bs) ≡ get_or bs from d ∷ take (to - (from + 1)) (drop (from + 1) bs)
held_cons bs from to d lt le =
    let n : to - from ≡ suc (to - (from + 1)) = omega arith in
    let h : from < length bs = omega arith in
    rw (n, drop-cons bs from d, add-one) refl

taken : (end place x : ℕ) (more : List ℕ) → place < end → place < 2 ^ 24 → byte_at end place (x ∷ more) ≡ Ok (x, record { place = place + 1; bytes = more; end = end })
taken end place x more le lt = rw (lt-ltb place end le, lt-ltb place limit lt) refl

too_far : (end place x : ℕ) (more : List ℕ) → place < end → 2 ^ 24 ≤ place → byte_at end place (x ∷ more) ≡ Err (refusal place reasons.FileTooLong)
too_far end place x more lt le = rw (lt-ltb place end lt, le-ltb place limit le) refl

past : (end place : ℕ) (bytes : List ℕ) → end ≤ place → byte_at end place bytes ≡ Err (refusal place reasons.CodeEnds)
past end place bytes le = rw (le-ltb place end le) refl

nothing : (end place : ℕ) → place < end → byte_at end place [] ≡ Err (refusal place reasons.Short)
nothing end place lt = rw (lt-ltb place end lt) refl

-- one of the bytes that are held
one_held : (xs : List ℕ) (n x : ℕ) (more : List ℕ) → drop n xs ≡ x ∷ more → n < length xs
one_held xs n x more e =
    let h : length (drop n xs) ≡ suc (length more) = ap (λ (t : List ℕ). length t) e in
    omega (arith, length-drop n xs, h)

-- and the bytes after it
pub after_one : (xs : List ℕ) (n x : ℕ) (more : List ℕ) → drop n xs ≡ x ∷ more → drop (n + 1) xs ≡ more
after_one xs n x more e =
    let lt = one_held xs n x more e in
    let cons : x ∷ more ≡ get_or xs n x ∷ drop (suc n) xs = sym e ∙ drop-cons xs n x lt in
    let tail : more ≡ drop (suc n) xs = cc in
    rw add-one (sym tail)

module _ (v v1 v2 : View) (s s1 : Option (List ℕ)) (place : v1.place ≡ v.place) (end : v1.end ≡ v.end) (same : (input : Input) → IsInput v1 s1 input → IsInput v s input) where
  -- in what is known, the window stands where it stood
  stood : (input : Input) → stand v1 input ≡ stand v input
  stood input = rw (place, end) refl

  next_here : (bytes : List ℕ) (r : Result ℕ ReadError) → held_bytes v1 ≡ bytes → v.kept ≡ None → v1.kept ≡ None → (held_bytes v1 ≡ [] → told_bytes s1 ≡ []) → v1.place < v1.end → NextHere v1 bytes v2 r → Reads u8.reads v s v2 s1 r
  unfolding u8
  next_here [] r is fresh clear ends lt h = rw (h.0, h.1) (λ k.
      let input = known_input v1 s1 in (
        same input (known_is v1 s1),
        ap (λ (a : At). byte_at a.end a.place a.bytes) (sym (stood input)) ∙ ap (byte_at v1.end v1.place) (ends_known v1 s1 is (ends is)) ∙ nothing v1.end v1.place lt,
      ))
  next_here (x ∷ more) r is fresh clear ends lt (inl h) =
      rw (h.1, h.2) (
        fresh,
        clear,
        omega (arith, place),
        end,
        λ input is_input. (
          same input is_input,
          let here : drop v1.place input.bytes ≡ x ∷ (more ++ rest v1 input) = ahead v1 s1 input (omega (arith, one_held v1.taken v1.place x more is)) is_input ∙ ap (λ (t : List ℕ). t ++ rest v1 input) is in
              ap (λ (a : At). byte_at a.end a.place a.bytes) (sym (stood input)) ∙ ap (byte_at v1.end v1.place) here ∙ taken v1.end v1.place x (more ++ rest v1 input) lt h.0
              ∙ ap (λ (t : List ℕ). Ok (x, record { place = v1.place + 1; bytes = t; end = v1.end })) (sym (after_one input.bytes v1.place x (more ++ rest v1 input) here)),
        ),
      )
  next_here (x ∷ more) r is fresh clear ends lt (inr h) = rw (h.1, h.2) (λ k.
      let input = known_input v1 s1 in
      let here : drop v1.place input.bytes ≡ x ∷ (more ++ rest v1 input) = ahead v1 s1 input (omega (arith, one_held v1.taken v1.place x more is)) (known_is v1 s1) ∙ ap (λ (t : List ℕ). t ++ rest v1 input) is in (
        same input (known_is v1 s1),
        ap (λ (a : At). byte_at a.end a.place a.bytes) (sym (stood input)) ∙ ap (byte_at v1.end v1.place) here ∙ too_far v1.end v1.place x (more ++ rest v1 input) lt h.0,
      ))

  pub is_next : (r : Result ℕ ReadError) → v.kept ≡ None → v1.kept ≡ None → (v1.place < v1.end → held_bytes v1 ≡ [] → told_bytes s1 ≡ []) → NextOf v1 v2 r → Reads u8.reads v s v2 s1 r
  unfolding u8
  is_next r fresh clear ends (inl h) = rw (h.1, h.2) (λ k.
      let input = known_input v1 s1 in
      (same input (known_is v1 s1), ap (λ (a : At). byte_at a.end a.place a.bytes) (sym (stood input)) ∙ past v1.end v1.place (drop v1.place input.bytes) h.0))
  is_next r fresh clear ends (inr h) = next_here (held_bytes v1) r refl fresh clear (ends h.0) h.0 h.1

-- how many are held, as contracts see it
pub held_room : (v w : View) (from to n : ℕ) → v ≡ w → v.place + (to - from) ≡ length v.taken → n ≤ length (held_bytes w) → n ≤ to - from
held_room v w from to n is all le = held_count v.taken from to n v.place all (subst (λ (u : View). n ≤ length (held_bytes u)) (sym is) le)

pub same_place : (v w : View) → v ≡ w → v.place ≡ w.place
same_place v w is = ap (λ (u : View). u.place) is

-- the first of the bytes that are held is the next
pub next_ok : (bs : List ℕ) (from to x : ℕ) (v w : View) → v ≡ w → from ≤ to → (from ≡ to → ⊥) → to ≤ length bs → drop v.place v.taken ≡ take (to - from) (drop from bs) → v.place < v.end → v.place < 2 ^ 24 → x ≡ get_or bs from x
    → NextOf w (onward 1 v) (Ok x)
next_ok bs from to x v w is le ne fits all before near same =
    let lt : from < to = omega arith in
    let front : held_bytes v ≡ x ∷ take (to - (from + 1)) (drop (from + 1) bs) = all ∙ held_cons bs from to x lt fits ∙ ap (λ (n : ℕ). n ∷ take (to - (from + 1)) (drop (from + 1) bs)) (sym same) in
    subst (λ (u : View). NextOf u (onward 1 v) (Ok x)) is (inr (before, rw front (inl (near, refl, refl))))
