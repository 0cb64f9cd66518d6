-- What is told of a start, and what the next bytes of a comparison make of it.
use Rattle.std.proofs.Common.{◌≡◌, ℕ, suc, ◌+◌, ◌-◌, ◌<◌, ◌≤◌, List, [], ◌∷◌, ◌++◌, length, take, drop, get_or, min, ◌^◌, Some, None, refl, sym, ap, subst, ◌∙◌, arith, inl, inr, add-zero, zero-add, append_assoc, length-append, drop-cons}
use Rattle.std.proofs.Math.Logic.{∥∥₁_map}
use Rattle.std.proofs.Math.Seq.{take-append_seam, drop-append_seam}
use Rattle.std.proofs.lemmas.Bool.{cases_lt, eq-eqb, eqb-true}
use Rattle.std.proofs.lemmas.List.{drop_all, length-take-le, take-append-drop, take_all, take_more}
use Rattle.std.proofs.KnownBytes.{Consumes-nil, Consumes-trans}
use Rattle.std.specs.Prelude.{Bool, true, false, ◌⊎◌, nat_eq, IfSome, if◌then◌else◌}
use Rattle.std.specs.Io.KnownBytes.{Consumes, IsAtEnd, prepend_known}
use Rattle.std.specs.declared.option.Option.{Option}
use Rattle.abc_base.specs.Faults.{Rose}
use Rattle.abc_log.specs.Compared.{PartsFrom}
use Rattle.abc_log.specs.Followed.{EndsApart, FollowsLog, FollowsOn, bytes_in, option_code, option_of_code, first_bytes, first_number, noted_name, start_note, noted_number, parts_from, start_and_since}
use Rattle.abc_log.specs.declared.compare.Verdict.{Verdict}
use Rattle.abc_log.specs.declared.compare.Verdict.TheVariants.{Differs, ReadFault, Same}

-- ---- what is told of a start

pub told-append : (start bytes more : List ℕ) → start_and_since start bytes ++ more ≡ start_and_since start (bytes ++ more)
told-append start bytes more = ap (λ (l : List ℕ). length start ∷ l) (append_assoc start bytes more)

pub told_start : (s t a b : List ℕ) → start_and_since s a ≡ start_and_since t b → s ≡ t
told_start s t a b e =
    let far : length s ≡ length t = cc in
    let whole : s ++ a ≡ t ++ b = cc in
    sym (take-append_seam s a) ∙ ap (take (length s)) whole ∙ ap (λ (n : ℕ). take n (t ++ b)) far ∙ take-append_seam t b

pub told_bytes : (s t a b : List ℕ) → start_and_since s a ≡ start_and_since t b → a ≡ b
told_bytes s t a b e =
    let far : length s ≡ length t = cc in
    let whole : s ++ a ≡ t ++ b = cc in
    sym (drop-append_seam s a) ∙ ap (drop (length s)) whole ∙ ap (λ (n : ℕ). drop n (t ++ b)) far ∙ drop-append_seam t b

pub decoded_coded : (o : Option (List ℕ)) → option_of_code (option_code o) ≡ o
decoded_coded None = refl
decoded_coded (Some bytes) = refl

pub name_noted : (name : List ℕ) (n : ℕ) (o : Option (List ℕ)) → noted_name (start_note name n o) ≡ name
name_noted name n o = take-append_seam name (n ∷ option_code o)

pub number_noted : (name : List ℕ) (n : ℕ) (o : Option (List ℕ)) → noted_number (start_note name n o) ≡ n
number_noted name n o = ap first_number (drop-append_seam name (n ∷ option_code o))

pub bytes_noted : (name : List ℕ) (n : ℕ) (o : Option (List ℕ)) → bytes_in (start_note name n o) ≡ o
bytes_noted name n o = ap first_bytes (drop-append_seam name (n ∷ option_code o)) ∙ decoded_coded o

-- ---- where bytes part

other_byte : (i b w : ℕ) (o : Option ℕ) → (b ≡ w → ⊥) → (if nat_eq b w then o else Some i) ≡ Some i
other_byte i b w o other = go (nat_eq b w) refl
  where
    go : (t : Bool) → nat_eq b w ≡ t → (if t then o else Some i) ≡ Some i
    go true e = absurd (other (eqb-true b w e))
    go false e = refl

pub parts_at : (i w : ℕ) (bytes ys ws : List ℕ) → ((more : List ℕ) → ys ≡ w ∷ more → ⊥) → parts_from i (bytes ++ ys) (bytes ++ (w ∷ ws)) ≡ Some (i + length bytes)
parts_at i w [] [] ws other = ap Some (sym (add-zero i))
parts_at i w [] (y ∷ ys) ws other = other_byte i y w (parts_from (suc i) ys ws) (λ same. other ys (ap (λ (b : ℕ). b ∷ ys) same)) ∙ ap Some (sym (add-zero i))
parts_at i w (b ∷ bytes) ys ws other =
    let go : (if nat_eq b b then parts_from (suc i) (bytes ++ ys) (bytes ++ (w ∷ ws)) else Some i) ≡ parts_from (suc i) (bytes ++ ys) (bytes ++ (w ∷ ws)) =
    ap (λ (t : Bool). if t then parts_from (suc i) (bytes ++ ys) (bytes ++ (w ∷ ws)) else Some i) (eq-eqb b b refl) in
    let far : suc i + length bytes ≡ i + suc (length bytes) = omega arith in
    go ∙ parts_at (suc i) w bytes ys ws other ∙ ap Some far

ends_apart : (start left : Option (List ℕ)) (bytes : List ℕ) (w : ℕ) → Consumes start left bytes → PartsFrom w left → IfSome start (EndsApart (bytes ++ w ∷ []))
ends_apart None left bytes w taken other = tt
ends_apart (Some xs) None bytes w taken other = absurd taken
ends_apart (Some xs) (Some ys) bytes w taken other =
    let far : length (bytes ++ w ∷ []) ≡ length bytes + 1 = length-append bytes (w ∷ []) in
    let last : length bytes ≡ length (bytes ++ w ∷ []) - 1 = omega arith in
    ap (λ (l : List ℕ). parts_from 0 l (bytes ++ w ∷ [])) taken ∙ parts_at 0 w bytes ys [] (λ more e. other more (ap Some e)) ∙ ap Some (zero-add (length bytes) ∙ last)

-- ---- the next bytes

-- of bytes that were taken, the front is taken first
front_taken : (left now : Option (List ℕ)) (given : List ℕ) (n : ℕ) → Consumes left now given → Consumes left (prepend_known (drop n given) now) (take n given)
front_taken None now given n taken = tt
front_taken (Some xs) None given n taken = absurd taken
front_taken (Some xs) (Some ys) given n taken = taken ∙ ap (λ (l : List ℕ). l ++ ys) (sym (take-append-drop n given)) ∙ append_assoc (take n given) (drop n given) ys

-- where they part from others before their end, or there are none since the source ended, it goes on with another byte or none
goes_apart : (now : Option (List ℕ)) (given : List ℕ) (n w : ℕ) → (n < length given → get_or given n 0 ≡ w → ⊥) → (length given ≤ n → (given ≡ []) × IsAtEnd now) → PartsFrom w (prepend_known (drop n given) now)
goes_apart None given n w other ended = λ bytes e. cc
goes_apart (Some ys) given n w other ended = λ bytes e. go bytes (cases_lt n (length given)) (some_same e)
  where
    some_same : {xs zs : List ℕ} → Some xs ≡ Some zs → xs ≡ zs
    some_same e = cc

    go : (bytes : List ℕ) → (n < length given) ⊎ (length given ≤ n) → drop n given ++ ys ≡ w ∷ bytes → ⊥
    go bytes (inl lt) e =
        let first : get_or given n 0 ∷ (drop (suc n) given ++ ys) ≡ w ∷ bytes = ap (λ (l : List ℕ). l ++ ys) (sym (drop-cons given n 0 lt)) ∙ e in
        other lt cc
    go bytes (inr le) e =
        let none : [] ≡ w ∷ bytes = sym (ap (λ (l : List ℕ). l ++ ys) (drop_all n given le) ∙ (ended le).1) ∙ e in
        cc

module _ (left now : Option (List ℕ)) (faults later agreed agreed_now same : ℕ) (given wanted : List ℕ) where
  -- all of them are the source's
  pub agrees_on : faults ≤ later → Consumes left now given → length given ≡ same → take same given ≡ take same wanted → agreed_now ≡ min (agreed + same) (2 ^ 64 - 1) → FollowsOn left faults agreed (take same wanted) now later agreed_now Same
  agrees_on low taken long front more = λ start before written f.
      let all : given ≡ take same wanted = sym (take_all same given (omega (arith, long))) ∙ front in
      let far : length (written ++ take same wanted) ≡ length written + same = length-append written (take same wanted) ∙ ap (λ (n : ℕ). length written + n) (sym (ap length all) ∙ long) in
      record { later = omega (arith, low, f.later); is = (Consumes-trans start left now written (take same wanted) f.is.0 (subst (Consumes left now) all taken), omega (arith, far, more, f.is.1)) }

  -- so many are, and the next is not
  pub differs_on : faults ≤ later → Consumes left now given → same ≤ length given → same < length wanted → take same given ≡ take same wanted → (same < length given → get_or given same 0 ≡ get_or wanted same 0 → ⊥)
      → (length given ≤ same → (given ≡ []) × IsAtEnd now) → agreed_now ≡ min (agreed + same) (2 ^ 64 - 1) → FollowsOn left faults agreed (take (same + 1) wanted) now later agreed_now (Differs agreed_now)
  differs_on low taken within some front other ended more = λ start before written f.
      let w : ℕ = get_or wanted same 0 in
      let parts : (written ++ take same given) ++ w ∷ [] ≡ written ++ take (same + 1) wanted =
      append_assoc written (take same given) (w ∷ []) ∙ ap (λ (l : List ℕ). written ++ (l ++ w ∷ [])) front ∙ ap (λ (l : List ℕ). written ++ l) (sym (take_more wanted same 0 some)) in
      let far : length (written ++ take same given) ≡ length written + same = length-append written (take same given) ∙ ap (λ (n : ℕ). length written + n) (length-take-le same given within) in
      let one : length ((written ++ take same given) ++ w ∷ []) ≡ length (written ++ take same given) + 1 = length-append (written ++ take same given) (w ∷ []) in
      let rest : Option (List ℕ) = prepend_known (drop same given) now in
      let apart = ends_apart start rest (written ++ take same given) w (Consumes-trans start left rest written (take same given) f.is.0 (front_taken left now given same taken)) (goes_apart now given same w other ended) in
      subst (λ (l : List ℕ). FollowsLog start before l now later agreed_now (Differs agreed_now)) parts
      (record { later = omega (arith, low, f.later); is = (omega (arith, one), omega (arith, one, far, more, f.is.1), apart) })

-- the source failed
pub fails_on : (left now : Option (List ℕ)) (faults later agreed agreed_now : ℕ) (bytes : List ℕ) → faults ≤ later → Rose faults later → FollowsOn left faults agreed bytes now later agreed_now ReadFault
fails_on left now faults later agreed agreed_now bytes low rose = λ start before written f. record { later = omega (arith, low, f.later); is = omega (arith, rose, f.later) }

-- what goes on is put behind what is told of the start
pub follows_on : (start bytes new_start new_bytes more : List ℕ) (left now : Option (List ℕ)) (faults later agreed agreed_now : ℕ) (old new : Verdict) → new_start ≡ start → new_bytes ≡ bytes ++ more → old ≡ Same
    → ∥ FollowsLog (bytes_in start) (noted_number start) bytes left faults agreed old ∥₁ → FollowsOn left faults agreed more now later agreed_now new → ∥ FollowsLog (bytes_in new_start) (noted_number new_start) new_bytes now later agreed_now new ∥₁
follows_on start bytes new_start new_bytes more left now faults later agreed agreed_now old new at longer same follows on =
    ∥∥₁_map follows (λ f.
    let before : FollowsLog (bytes_in start) (noted_number start) bytes left faults agreed Same = subst (λ (v : Verdict). FollowsLog (bytes_in start) (noted_number start) bytes left faults agreed v) same f in
    subst (λ (s : List ℕ). FollowsLog (bytes_in s) (noted_number s) new_bytes now later agreed_now new) (sym at)
    (subst (λ (b : List ℕ). FollowsLog (bytes_in start) (noted_number start) b now later agreed_now new) (sym longer) (on (bytes_in start) (noted_number start) bytes before)))

-- nothing is written yet
pub begun : (start name : List ℕ) (n : ℕ) (o : Option (List ℕ)) → start ≡ start_note name n o → ∥ FollowsLog (bytes_in start) (noted_number start) [] o n 0 Same ∥₁
begun start name n o e =
    let bytes : bytes_in start ≡ o = ap bytes_in e ∙ bytes_noted name n o in
    let number : noted_number start ≡ n = ap noted_number e ∙ number_noted name n o in
    let none : FollowsLog o n [] o n 0 Same = record { later = omega arith; is = (Consumes-nil o, omega arith) } in
    ∣ subst (λ (x : Option (List ℕ)). FollowsLog x (noted_number start) [] o n 0 Same) (sym bytes) (subst (λ (k : ℕ). FollowsLog o k [] o n 0 Same) (sym number) none) ∣₁
