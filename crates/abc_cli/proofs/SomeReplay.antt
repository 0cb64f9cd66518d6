-- An input of `replay` is a log, or it is none for some reason: it can't be that neither holds.
use Rattle.std.proofs.Common.{◌≡◌, ◌⊎◌, inl, inr, ℕ, zero, suc, ◌+◌, ◌*◌, ◌-◌, ◌<◌, ◌≤◌, ◌^◌, List, [], ◌∷◌, ◌++◌, Some, None, Bool, true, false, ◌&&◌, if◌then◌else◌, nat_eq, length, min, take, drop, refl, sym, ap, subst, ◌∙◌, append_assoc, length-append, add-one, arith, eqb-true}
use Rattle.std.specs.Prelude.{nat_le}
use Rattle.std.specs.declared.option.Option.{Option}
use Rattle.std.proofs.lemmas.Bool.{and_parts, le-ltb, leb-true, lt-ltb, or_cases}
use Rattle.std.proofs.lemmas.List.{length-drop, length-take, take-append-drop}
use Rattle.abc_base.specs.Escapes.{hex_digit}
use Rattle.abc_base.specs.Hosts.{AreFormulas}
use Rattle.abc_base.specs.declared.formula.Formula.{Formula}
use Rattle.abc_base.specs.declared.status.Status.TheVariants as status
use Rattle.abc_file_types.specs.Files.{IsBadFile, IsFile, IsFileRead}
use Rattle.abc_file_types.specs.Part.{Refusal}
use Rattle.abc_file_types.specs.declared.tables.Abc.{Abc}
use Rattle.abc_heap_store.specs.declared.records.Limits.{Limits}
use Rattle.abc_link_names.specs.Linked.{LinkedFile}
use Rattle.abc_log.specs.Followed.{parts_from}
use Rattle.abc_log.specs.Heads.{AllStand, GoesWrong, IsWrong, is_lower_hex, may_stand}
use Rattle.abc_log.specs.Lines.{AreLimits, head_line, hex_digits, limits_line, limits_text}
use Rattle.abc_log.proofs.Standing.{digit_fits, digits_more, high_digit, low_digit}
use Rattle.abc_meaning.specs.Inputs.{IsLogOf}
use Rattle.abc_meaning.specs.Logs.{log, steps}
use Rattle.abc_meaning.specs.Setting.{Setting}
use Rattle.abc_replay.specs.Replays.{HasLogParts, IsLogRefused, SpellsVerified, error_of, place_behind}
use Rattle.abc_replay.specs.declared.error.ReplayError.{ReplayError}
use Rattle.abc_replay.specs.declared.error.ReplayError.TheVariants as errors
use Rattle.abc_replay.specs.declared.error.ReplayReason.TheVariants as reasons
use Rattle.abc_verify.specs.FileRefusing.{bad, unverified}
use Rattle.abc_verify.specs.Verified.{IsVerifiedOf}
use Rattle.abc_verify.specs.declared.verified_error.VerifiedError.TheVariants as files
use Rattle.abc_cli_answers.specs.Answers.{Answer, bytes_answer, line_answer}
use Rattle.abc_cli.specs.Logs.{Replay, replayed_line, unreplayed_text}
use Rattle.abc_cli.proofs.OneFile.{file_of}
use Rattle.abc_cli.proofs.SomeRun.{setting_verified}
use Rattle.abc_cli.proofs.SomeVerified.{read_or_bad, some_verified}

-- ---- the line before the file

-- so many bytes are right from this place of the line on, or one before is wrong or missing
record HasFront (count place : ℕ) (input : List ℕ) : Type 0 where
  right : List ℕ
  rest : List ℕ
  parts : input ≡ right ++ rest
  stand : AllStand place right
  ends : (length right ≡ count) ⊎ ((length right < count) × IsWrong (place + length right) rest)

front_of : (count place : ℕ) (input : List ℕ) → HasFront count place input
front_of zero place input = record { right = []; rest = input; parts = refl; stand = tt; ends = inl refl }
front_of (suc count) place [] = record { right = []; rest = []; parts = refl; stand = tt; ends = inr (omega arith, tt) }
front_of (suc count) place (b ∷ bs) = go (front_of count (suc place) bs) (may_stand place b) refl
  where
    further : (right rest : List ℕ) → (length right ≡ count) ⊎ ((length right < count) × IsWrong (suc place + length right) rest) → (length (b ∷ right) ≡ suc count) ⊎ ((length (b ∷ right) < suc count) × IsWrong (place + length (b ∷ right)) rest)
    further right rest (inl e) = inl (omega (arith, e))
    further right rest (inr w) =
        let shifted : suc place + length right ≡ place + length (b ∷ right) = omega arith in
        inr ((let low = w.0 in omega (arith, low)), subst (λ (n : ℕ). IsWrong n rest) shifted w.1)

    go : HasFront count (suc place) bs → (t : Bool) → may_stand place b ≡ t → HasFront (suc count) place (b ∷ bs)
    go f true is = record { right = b ∷ f.right; rest = f.rest; parts = ap (λ (xs : List ℕ). b ∷ xs) f.parts; stand = (is, f.stand); ends = further f.right f.rest f.ends }
    go f false is = let here : place ≡ place + 0 = omega arith in record { right = []; rest = b ∷ bs; parts = refl; stand = tt; ends = inr (omega arith, subst (λ (n : ℕ). IsWrong n (b ∷ bs)) here is) }

-- a digit has a value
digit_of : (x : ℕ) → is_lower_hex x ≡ true → (d : ℕ) × (d < 16) × (x ≡ hex_digit d)
digit_of x is = elim (or_cases (nat_le 48 x && nat_le x 57) (nat_le 97 x && nat_le x 102) is) [
  | inl e ↦ (
      let p = and_parts (nat_le 48 x) (nat_le x 57) e in
      let low : 48 ≤ x = leb-true 48 x p.0 in
      let high : x ≤ 57 = leb-true x 57 p.1 in
      (x - 48, omega (arith, low, high), low_digit x low high)
      )
  | inr e ↦ (
      let p = and_parts (nat_le 97 x) (nat_le x 102) e in
      let low : 97 ≤ x = leb-true 97 x p.0 in
      let high : x ≤ 102 = leb-true x 102 p.1 in
      (x - 97 + 10, omega (arith, low, high), high_digit x low high)
      )
]

-- The line of a length, of which so many digits are read.
head_of : (more k n : ℕ) (xs : List ℕ) → length xs ≡ suc more → k + more ≡ 8 → AllStand k xs → n < 16 ^ k → (all : ℕ) × (all < 2 ^ 32) × (hex_digits k n ++ xs ≡ head_line all)
unfolding head_line
head_of more k n [] long far stand small = absurd (omega (arith, long))
head_of zero k n (x ∷ []) long far stand small =
    let eight : k ≡ 8 = omega (arith, far) in
    let feed : nat_eq x 10 ≡ true = sym (ap (λ (t : Bool). if t then is_lower_hex x else nat_eq x 10) (le-ltb k 8 (omega (arith, eight)))) ∙ stand.0 in
    let all : n < 16 ^ 8 = subst (λ (j : ℕ). n < 16 ^ j) eight small in
    (n, omega (arith, all), λ i. hex_digits (eight i) n ++ eqb-true x 10 feed i ∷ [])
head_of zero k n (x ∷ y ∷ xs) long far stand small = absurd (omega (arith, long))
head_of (suc more) k n (x ∷ xs) long far stand small =
    let early : k < 8 = omega (arith, far) in
    let digit = digit_of x (sym (ap (λ (t : Bool). if t then is_lower_hex x else nat_eq x 10) (lt-ltb k 8 early)) ∙ stand.0) in
    let d = digit.0 in
    let next = n * 16 + d in
    let fits = digit_fits k n d early small digit.1 in
    let below : next < 16 ^ suc k = subst (λ (j : ℕ). next < 16 ^ j) (add-one k) fits.1 in
    let rest = head_of more (suc k) next xs (omega (arith, long)) (omega (arith, far)) stand.1 below in
    let here : hex_digits k n ++ x ∷ [] ≡ hex_digits (suc k) next = ap (λ (b : ℕ). hex_digits k n ++ b ∷ []) digit.2 ∙ sym (digits_more k n d digit.1) in
    (rest.0, rest.1, sym (append_assoc (hex_digits k n) (x ∷ []) xs) ∙ ap (λ (ys : List ℕ). ys ++ xs) here ∙ rest.2)

no_digits : hex_digits 0 0 ≡ []
unfolding hex_digits
no_digits = refl

-- an input begins with such a line, or goes wrong in it
wrong_or_parts : (input : List ℕ) → ((place : ℕ) × GoesWrong 0 place input) ⊎ ((bytes : List ℕ) × ((rest : List ℕ) × HasLogParts input bytes rest))
wrong_or_parts input = go (front_of 9 0 input)
  where
    go : HasFront 9 0 input → ((place : ℕ) × GoesWrong 0 place input) ⊎ ((bytes : List ℕ) × ((rest : List ℕ) × HasLogParts input bytes rest))
    go f = elim f.ends [
      | inl e ↦ (
          let head = head_of 8 0 0 f.right e refl f.stand (omega arith) in
          let line : f.right ≡ head_line head.0 = sym (ap (λ (xs : List ℕ). xs ++ f.right) no_digits) ∙ head.2 in
          inr (take head.0 f.rest, (drop head.0 f.rest, record { stated = head.0; following = f.rest; low = head.1; is = f.parts ∙ ap (λ (xs : List ℕ). xs ++ f.rest) line; file_is = refl; rest_is = refl }))
          )
      | inr w ↦ (
          let far : length f.right ≡ 0 + length f.right = omega arith in
          inl (length f.right, record { right = f.right; rest = f.rest; parts = f.parts; far = far; within = w.0; stand = f.stand; wrong = subst (λ (n : ℕ). IsWrong n f.rest) (sym far) w.1 })
          )
    ]

-- ---- what follows the file

-- what doesn't part is the same
same_unparted : (i : ℕ) (xs ys : List ℕ) → parts_from i xs ys ≡ None → xs ≡ ys
same_unparted i [] [] e = refl
same_unparted i [] (y ∷ ys) e = cc
same_unparted i (x ∷ xs) [] e = cc
same_unparted i (x ∷ xs) (y ∷ ys) e = go (same_unparted (suc i) xs ys) (nat_eq x y) refl e
  where
    go : (parts_from (suc i) xs ys ≡ None → xs ≡ ys) → (t : Bool) → nat_eq x y ≡ t → (if t then parts_from (suc i) xs ys else Some i) ≡ None → x ∷ xs ≡ y ∷ ys
    go rest true is f = λ k. eqb-true x y is k ∷ rest f k
    go rest false is f = cc

abbrev setting_of : LinkedFile → List Formula → Setting
setting_of l formulas = record { linked = l; formulas = formulas }

is_log : (formulas : List Formula) (input bytes rest found : List ℕ) (l : LinkedFile) (fuel : ℕ) (m : Limits) → HasLogParts input bytes rest → SpellsVerified formulas bytes l → AreLimits fuel m → rest ≡ limits_line fuel m ++ found → found ≡ log (setting_of l formulas) m fuel
    → IsLogOf formulas l fuel m input
is_log formulas input bytes rest found l fuel m parts spells within there same =
    let line : List ℕ = limits_line fuel m in
    let lines : List ℕ = log (setting_of l formulas) m fuel in
    let some = length-append (limits_text fuel m) (10 ∷ []) in
    let more = length-append line found in
    let left : length rest ≡ length parts.following - parts.stated = ap length parts.rest_is ∙ length-drop parts.stated parts.following in
    let front : length bytes ≡ min parts.stated (length parts.following) = ap length parts.file_is ∙ length-take parts.stated parts.following in
    let size : length rest ≡ length (line ++ found) = ap length there in
    let long : length bytes ≡ parts.stated = omega (arith, some, more, left, front, size) in
    let behind : parts.following ≡ bytes ++ rest = sym (take-append-drop parts.stated parts.following) ∙ (λ i. sym parts.file_is i ++ sym parts.rest_is i) in
    let head : List ℕ = head_line (length bytes) in
    record {
      file = bytes;
      spells = spells.spells;
      short = let low = parts.low in omega (arith, long, low);
      verified = spells.verified;
      numbered = spells.numbered;
      limits = within;
      is =
          parts.is ∙ ap (λ (n : ℕ). head_line n ++ parts.following) (sym long) ∙ ap (λ (xs : List ℕ). head ++ xs) behind
          ∙ ap (λ (xs : List ℕ). head ++ (bytes ++ xs)) (there ∙ ap (λ (xs : List ℕ). line ++ xs) same)
          ∙ sym (append_assoc (head ++ bytes) line lines ∙ append_assoc head bytes (line ++ lines));
    }

-- ---- the input

module _ (formulas : List Formula) (host : AreFormulas formulas) (input : List ℕ) (none : (a : Answer) → Replay formulas input a → ⊥) where
  never_refused : (e : ReplayError) → IsLogRefused formulas input e → ⊥
  never_refused e r = none (line_answer status.Refused (unreplayed_text e)) (Replay.refused e r refl)

  module _ (bytes rest : List ℕ) (parts : HasLogParts input bytes rest) where
    -- behind a verified file
    log_follows : (l : LinkedFile) → SpellsVerified formulas bytes l → ⊥
    log_follows l spells = never_refused (errors.Refused (place_behind bytes 0) reasons.LogLimits) (IsLogRefused.limits bytes rest l parts spells (λ fuel m found within there. follows fuel m found within there (parts_from 0 found (log (setting_of l formulas) m fuel)) refl))
      where
        follows : (fuel : ℕ) (m : Limits) (found : List ℕ) → AreLimits fuel m → rest ≡ limits_line fuel m ++ found → (parted : Option ℕ) → parts_from 0 found (log (setting_of l formulas) m fuel) ≡ parted → ⊥
        follows fuel m found within there None e =
            let n = steps (setting_of l formulas) m fuel in
            let is = is_log formulas input bytes rest found l fuel m parts spells within there (same_unparted 0 found (log (setting_of l formulas) m fuel) e) in
            none (bytes_answer (replayed_line n)) (Replay.replayed n (record { linked = l; fuel = fuel; limits = m; is = is; counted = refl }) refl)
        follows fuel m found within there (Some n) e =
            never_refused (errors.Refused (place_behind bytes (length (limits_line fuel m) + n)) reasons.LogDiffers) (IsLogRefused.differs bytes rest found l fuel m n parts spells within there e)

    file_follows : ⊥
    file_follows = go (read_or_bad bytes)
      where
        verified : (v : Abc) (starts : List (List ℕ)) → IsFileRead (v, starts) bytes → (l : LinkedFile) → IsVerifiedOf v l → ⊥
        verified v starts read l is = log_follows l (record {
          spells = subst (λ (w : Abc). IsFile w bytes) (sym is.file) (file_of v starts bytes read);
          verified = setting_verified v l formulas is host;
          numbered = is.numbered;
        })

        go : ((v : Abc × List (List ℕ)) × IsFileRead v bytes) ⊎ ((r : Refusal) × IsBadFile bytes r) → ⊥
        go (inl x) =
            some_verified x.0.0 x.0.1 (bytes, file_of x.0.0 x.0.1 bytes x.1) (verified x.0.0 x.0.1 x.1)
            (λ e is. never_refused (error_of e) (IsLogRefused.file bytes rest e parts (unverified x.0.0 x.0.1 e x.1 is)))
        go (inr x) = never_refused (error_of (files.Refused x.0.place x.0.reason)) (IsLogRefused.file bytes rest (files.Refused x.0.place x.0.reason) parts (bad x.0.place x.0.reason x.1))

  replayed_never : ⊥
  replayed_never = elim (wrong_or_parts input) [
    | inl w ↦ never_refused (errors.Refused w.0 reasons.LogHead) (IsLogRefused.head w.0 w.1)
    | inr p ↦ file_follows p.0 p.1.0 p.1.1
  ]

pub some_replay : (formulas : List Formula) → AreFormulas formulas → (input : List ℕ) → ((a : Answer) → Replay formulas input a → ⊥) → ⊥
some_replay formulas host input none = replayed_never formulas host input none
