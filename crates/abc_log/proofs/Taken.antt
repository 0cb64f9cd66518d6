-- What is read of a part is taken from the front of what it has left.
use Rattle.std.proofs.Common.{◌≡◌, ℕ, ◌+◌, ◌-◌, ◌<◌, ◌≤◌, List, [], ◌++◌, length, take, sym, ap, subst, ◌∙◌, arith, zero-le, take_all, length-take-le}
use Rattle.std.specs.Prelude.{None, Some}
use Rattle.std.proofs.Math.Seq.{take-append-add}
use Rattle.std.proofs.lemmas.List.{take-append-le}
use Rattle.std.specs.Option.{option_map}
use Rattle.std.specs.declared.option.Option.{Option}
use Rattle.std.specs.Io.KnownBytes.{Consumes, IsAtEnd}

-- of `piece`, the front of what is to be filled, the first n bytes were read
pub taken : (a b : Option (List ℕ)) (piece rest : List ℕ) (room n : ℕ) → n ≤ length piece → n ≤ room → (0 < length (piece ++ rest) → 0 < length piece) → Consumes a b (take n piece) → (n ≡ 0 → 0 < length piece → IsAtEnd b)
    → Consumes (option_map (take room) a) (option_map (take (room - n)) b) (take n (piece ++ rest)) × (n ≡ 0 → 0 < length (piece ++ rest) → IsAtEnd (option_map (take (room - n)) b))
taken None None piece rest room n fits within some read end = (tt, λ zero more. tt)
taken None (Some ys) piece rest room n fits within some read end = (tt, λ zero more. ap (take (room - n)) (end zero (some more)) ∙ take_all (room - n) [] zero-le)
taken (Some xs) None piece rest room n fits within some read end = absurd read
taken (Some xs) (Some ys) piece rest room n fits within some read end =
    let front = take n piece in
    let split : room ≡ length front + (room - n) = omega (arith, length-take-le n piece fits) in (
      ap (take room) read ∙ ap (λ k. take k (front ++ ys)) split ∙ take-append-add front ys (room - n) ∙ ap (λ l. l ++ take (room - n) ys) (sym (take-append-le n piece rest fits)),
      λ zero more. ap (take (room - n)) (end zero (some more)) ∙ take_all (room - n) [] zero-le,
    )

-- the same of a part, by what is seen of it
pub part_taken : (a seen b : Option (List ℕ)) (piece rest : List ℕ) (room saw n : ℕ) → a ≡ seen → room ≡ saw → n ≤ length piece → n ≤ room → (0 < length (piece ++ rest) → 0 < length piece) → Consumes a b (take n piece) → (n ≡ 0 → 0 < length piece → IsAtEnd b)
    → Consumes (option_map (take saw) seen) (option_map (take (room - n)) b) (take n (piece ++ rest)) × (n ≡ 0 → 0 < length (piece ++ rest) → IsAtEnd (option_map (take (room - n)) b))
part_taken a seen b piece rest room saw n same left fits within some read end =
    let t = taken a b piece rest room n fits within some read end in
    (subst (λ (x : Option (List ℕ)). Consumes (option_map (take saw) x) (option_map (take (room - n)) b) (take n (piece ++ rest))) same (subst (λ (k : ℕ). Consumes (option_map (take k) a) (option_map (take (room - n)) b) (take n (piece ++ rest))) left t.0), t.1)
