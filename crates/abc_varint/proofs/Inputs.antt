-- What may be the input.
use Rattle.std.proofs.Common.{◌≡◌, ℕ, zero, suc, ◌+◌, ◌<◌, ◌≤◌, List, [], ◌∷◌, ◌++◌, length, take, drop, Bool, length-append, length-drop, None, Some, refl, subst, sym, ap, ◌∙◌, append_assoc, arith}
use Rattle.std.proofs.lemmas.List.{append-nil, drop-append-le, take-append-drop, take-append-le}
use Rattle.std.proofs.Math.Seq.{take-append_seam}
use Rattle.std.specs.declared.option.Option.{Option}
use Rattle.std.specs.Io.KnownBytes.{Consumes, Keeps as StaysKnown}
use Rattle.std.specs.Prelude.{IsTrue, ◌↔◌}
use Rattle.abc_varint.specs.declared.error.ReadError.{ReadError}
use Rattle.abc_varint.specs.declared.error.ReadError.TheVariants as errors
use Rattle.abc_varint.specs.View.{View, held_bytes, error_kept}
use Rattle.abc_varint.specs.Reads.{Continues, Input, IsInput, known_input, told_bytes}

-- the bytes that follow those that were taken
abbrev pub rest : View → Input → List ℕ
rest w input = drop (length w.taken) input.bytes

-- an input begins with the bytes that were taken
pub splits : (w : View) (s : Option (List ℕ)) (input : Input) → IsInput w s input → input.bytes ≡ w.taken ++ rest w input
splits w None input is = sym (take-append-drop (length w.taken) input.bytes) ∙ ap (λ (t : List ℕ). t ++ rest w input) is
splits w (Some left) input is =
    let e : take (length w.taken) input.bytes ≡ w.taken = ap (λ (t : List ℕ). take (length w.taken) t) is.1 ∙ take-append_seam w.taken left in
    sym (take-append-drop (length w.taken) input.bytes) ∙ ap (λ (t : List ℕ). t ++ rest w input) e

-- what is known may be the input
pub known_is : (w : View) (s : Option (List ℕ)) → IsInput w s (known_input w s)
known_is w None = take-append_seam w.taken []
known_is w (Some left) = (refl, refl)

-- ahead stand the bytes that are held, and then the others
pub ahead : (w : View) (s : Option (List ℕ)) (input : Input) → w.place ≤ length w.taken → IsInput w s input → drop w.place input.bytes ≡ held_bytes w ++ rest w input
ahead w s input le is = ap (λ (t : List ℕ). drop w.place t) (splits w s input is) ∙ drop-append-le w.place w.taken (rest w input) le

-- where something is held, the place is among the bytes that were taken
pub among : (w : View) (n : ℕ) → 0 < n → n ≤ length (held_bytes w) → w.place + n ≤ length w.taken
among w n lt le = omega (arith, length-drop w.place w.taken, lt, le)

-- where nothing is held, nothing stands ahead but what the source tells
pub ends_known : (w : View) (s : Option (List ℕ)) → held_bytes w ≡ [] → told_bytes s ≡ [] → drop w.place (known_input w s).bytes ≡ []
ends_known w s none untold = rw (untold, append-nil w.taken) none

-- more bytes were taken, which the source told if it tells its bytes
pub takes : (taken more : List ℕ) (input : Input) (s s2 : Option (List ℕ)) → Consumes s s2 more → Continues (taken ++ more) s2 input → Continues taken s input
takes taken more input None None c is =
    let e : input.bytes ≡ taken ++ more ++ drop (length (taken ++ more)) input.bytes = sym (take-append-drop (length (taken ++ more)) input.bytes) ∙ ap (λ (t : List ℕ). t ++ drop (length (taken ++ more)) input.bytes) is in
    ap (λ (t : List ℕ). take (length taken) t) (e ∙ append_assoc taken more _) ∙ take-append_seam taken _
takes taken more input None (Some left) c is = ap (λ (t : List ℕ). take (length taken) t) (is.1 ∙ append_assoc taken more left) ∙ take-append_seam taken (more ++ left)
takes taken more input (Some left) None c is = absurd c
takes taken more input (Some left) (Some left2) c is = (is.0, is.1 ∙ append_assoc taken more left2 ∙ ap (λ (t : List ℕ). taken ++ t) (sym c))

-- what is known after a read that gave nothing might have been the input before
pub kept_known : (w w2 : View) (s s2 : Option (List ℕ)) → w2.taken ≡ w.taken → StaysKnown s s2 → IsInput w s (known_input w2 s2)
kept_known w w2 None s2 same c = rw same (take-append_seam w.taken (told_bytes s2))
kept_known w w2 (Some left) None same c = absurd c
kept_known w w2 (Some left) (Some left2) same c = (refl, rw (same, c) refl)

take_of_take : (n m : ℕ) (xs : List ℕ) → n ≤ m → take n (take m xs) ≡ take n xs
take_of_take zero m xs le = refl
take_of_take (suc n) zero xs le = absurd (omega arith)
take_of_take (suc n) (suc m) [] le = refl
take_of_take (suc n) (suc m) (x ∷ xs) le = ap (λ (t : List ℕ). x ∷ t) (take_of_take n m xs (omega arith))

-- a block whose front was filled from a source, and noted
pub filled : (v w : View) (front block after noted : List ℕ) (input : Input) (n len : ℕ) (s s2 : Option (List ℕ)) → v ≡ w → noted ≡ v.taken ++ take n block → block ≡ take len (front ++ after) → n ≤ length front → n ≤ len
    → Consumes s s2 (take n front) → Continues noted s2 input → IsInput w s input
filled v w front block after noted input n len s s2 same is value few fits c now =
    let one : take n block ≡ take n front = ap (λ (t : List ℕ). take n t) value ∙ take_of_take n len (front ++ after) fits ∙ take-append-le n front after few in
    let noted_is : noted ≡ v.taken ++ take n front = is ∙ ap (λ (t : List ℕ). v.taken ++ t) one in
    subst (λ (u : View). IsInput u s input) same (takes v.taken (take n front) input s s2 c (subst (λ (t : List ℕ). Continues t s2 input) noted_is now))

none_left : (xs : List ℕ) → length xs ≡ 0 → xs ≡ []
none_left [] e = refl
none_left (x ∷ xs) e = absurd (omega (arith, e))

-- Nothing stands ahead exactly where nothing is held and the source tells of nothing more.
pub at_end : (w : View) (s : Option (List ℕ)) (b : Bool) → (IsTrue b ↔ (held_bytes w ≡ [])) → (held_bytes w ≡ [] → told_bytes s ≡ []) → IsTrue b ↔ (drop w.place (known_input w s).bytes ≡ [])
at_end w s b is ends = (
  λ t. let none = is.0 t in ends_known w s none (ends none),
  λ none.
      let count : length (drop w.place (known_input w s).bytes) ≡ 0 = rw none refl in
      is.1 (none_left (held_bytes w) (omega (arith, length-drop w.place (known_input w s).bytes, length-drop w.place w.taken, length-append w.taken (told_bytes s), count))),
)

pub not_at_end : (w : View) (s : Option (List ℕ)) → (held_bytes w ≡ [] → ⊥) → drop w.place (known_input w s).bytes ≡ [] → ⊥
not_at_end w s some none =
    let count : length (drop w.place (known_input w s).bytes) ≡ 0 = rw none refl in
    some (none_left (held_bytes w) (omega (arith, length-drop w.place (known_input w s).bytes, length-drop w.place w.taken, length-append w.taken (told_bytes s), count)))

-- want of memory is never kept
pub kept_is_no_memory : (e : ReadError) → error_kept e ≡ Some e → e ≡ errors.NoMemory → ⊥
kept_is_no_memory e is same = absurd (let h : error_kept e ≡ None = ap error_kept same in cc)
