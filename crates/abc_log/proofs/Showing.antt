-- What is shown, byte by byte and to its end.
use Rattle.std.proofs.Common.{◌≡◌, ℕ, ◌≤◌, Bool, true, false, List, [], ◌∷◌, ◌++◌, refl, sym, ap, subst, ◌∙◌, arith, append_assoc}
use Rattle.std.proofs.Math.Logic.{∥∥₁_map}
use Rattle.std.proofs.lemmas.Grind.{flat_map-append}
use Rattle.std.proofs.lemmas.List.{append-nil}
use Rattle.std.specs.Prelude.{codes, is_some, IsSome, None, Some}
use Rattle.std.specs.List.{flat_map}
use Rattle.std.specs.Io.KnownBytes.{append_known}
use Rattle.std.specs.declared.option.Option.{Option}
use Rattle.abc_base.specs.Faults.{Rose}
use Rattle.abc_base.specs.Sinks.{GrowsByFront}
use Rattle.abc_base.proofs.Writing.{front_second, known_told, known_twice}
use Rattle.abc_log.specs.Followed.{bytes_in, start_note, noted_number}
use Rattle.abc_log.proofs.Following.{bytes_noted, number_noted}
use Rattle.abc_log.specs.Lines.{log_hex, out_line}
use Rattle.abc_log.specs.Outs.{HasMore, AreBytesShown, ShowsByte, end_of_line, has_some, open_line, shown_byte}
use Rattle.abc_log.specs.OutlineViews.{ShownView}

-- ---- the line

pub one_more_byte : (bytes : List ℕ) (b : ℕ) → open_line (bytes ++ b ∷ []) ≡ open_line bytes ++ shown_byte (has_some bytes) b
one_more_byte [] b = refl
one_more_byte (x ∷ bytes) b = ap (λ (l : List ℕ). codes "out " ++ l) (flat_map-append log_hex (x ∷ bytes) (b ∷ [])) ∙ sym (append_assoc (codes "out ") (flat_map log_hex (x ∷ bytes)) (log_hex b))

has_some_more : (bytes : List ℕ) (b : ℕ) → has_some (bytes ++ b ∷ []) ≡ true
has_some_more [] b = refl
has_some_more (x ∷ bytes) b = refl

pub ended : (bytes : List ℕ) → open_line bytes ++ end_of_line (has_some bytes) ≡ out_line bytes
ended [] = refl
ended (b ∷ bytes) = append_assoc (codes "out ") (flat_map log_hex (b ∷ bytes)) (10 ∷ [])

-- ---- two pieces are one

pub rose_on : (a b c : ℕ) → a ≤ b → Rose b c → Rose a c
rose_on a b c low rose = omega arith

-- what the first piece left can be told where the start was
pub still_told : (before mid : Option (List ℕ)) (xs : List ℕ) → mid ≡ append_known before xs → IsSome before → IsSome mid
still_told before mid xs e some = ap is_some e ∙ known_told before xs ∙ some

two_pieces : (before mid now : Option (List ℕ)) (n k faults : ℕ) (xs ys : List ℕ) (failed : Bool) → n ≤ k → HasMore before n xs mid k false → HasMore mid k ys now faults failed → HasMore before n (xs ++ ys) now faults failed
two_pieces before mid now n k faults xs ys false low one two = λ some.
    let e = one some in
    two (still_told before mid xs e some) ∙ ap (λ (o : Option (List ℕ)). append_known o ys) e ∙ known_twice before xs ys
two_pieces before mid now n k faults xs ys true low one two = (
  λ some.
      let e = one some in
      front_second before now xs ys (subst (λ (o : Option (List ℕ)). GrowsByFront o now ys) e (two.0 (still_told before mid xs e some))),
  rose_on n k faults low two.1,
)

-- ---- a byte more

module _ {L : Type 0} (written : L → Option (List ℕ)) (faults : L → ℕ) (before : Option (List ℕ)) (n : ℕ) (bytes : List ℕ) (b : ℕ) (old new : ShownView L) where
  pub shown_next : old.failed ≡ false → AreBytesShown before n bytes (written old.log) (faults old.log) old.some old.failed → ShowsByte written faults b old new → AreBytesShown before n (bytes ++ b ∷ []) (written new.log) (faults new.log) new.some new.failed
  shown_next well s t =
      let first : HasMore before n (open_line bytes) (written old.log) (faults old.log) false = subst (λ (f : Bool). HasMore before n (open_line bytes) (written old.log) (faults old.log) f) well s.is in
      let second : HasMore (written old.log) (faults old.log) (shown_byte (has_some bytes) b) (written new.log) (faults new.log) new.failed = subst (λ (some : Bool). HasMore (written old.log) (faults old.log) (shown_byte some b) (written new.log) (faults new.log) new.failed) s.some_is t.is in
      record {
        later = omega (arith, s.later, t.later);
        some_is = t.some ∙ sym (has_some_more bytes b);
        is = subst (λ (l : List ℕ). HasMore before n l (written new.log) (faults new.log) new.failed) (sym (one_more_byte bytes b)) (two_pieces before (written old.log) (written new.log) n (faults old.log) (faults new.log) (open_line bytes) (shown_byte (has_some bytes) b) new.failed s.later first second);
      }

-- the same of what a history tells
pub line_next : {L : Type 0} (written : L → Option (List ℕ)) (faults : L → ℕ) (start bytes new_start new_bytes : List ℕ) (b v : ℕ) (old new : ShownView L)
    → new_start ≡ start → new_bytes ≡ bytes ++ b ∷ [] → v ≡ b → old.failed ≡ false
    → ∥ AreBytesShown (bytes_in start) (noted_number start) bytes (written old.log) (faults old.log) old.some old.failed ∥₁ → ShowsByte written faults v old new
    → ∥ AreBytesShown (bytes_in new_start) (noted_number new_start) new_bytes (written new.log) (faults new.log) new.some new.failed ∥₁
line_next {L = L} written faults start bytes new_start new_bytes b v old new at more same well shown shows =
    ∥∥₁_map shown (λ s.
    let showing : ShowsByte written faults b old new = subst (λ (x : ℕ). ShowsByte written faults x old new) same shows in
    let after : AreBytesShown (bytes_in start) (noted_number start) (bytes ++ b ∷ []) (written new.log) (faults new.log) new.some new.failed = shown_next written faults (bytes_in start) (noted_number start) bytes b old new well s showing in
    subst (λ (t : List ℕ). AreBytesShown (bytes_in t) (noted_number t) new_bytes (written new.log) (faults new.log) new.some new.failed) (sym at)
    (subst (λ (l : List ℕ). AreBytesShown (bytes_in start) (noted_number start) l (written new.log) (faults new.log) new.some new.failed) (sym more) after))

nothing_more : (o : Option (List ℕ)) → append_known o [] ≡ o
nothing_more None = refl
nothing_more (Some xs) = ap Some (append-nil xs)

-- nothing is shown yet
pub line_begun : (start name : List ℕ) (n : ℕ) (o : Option (List ℕ)) → start ≡ start_note name n o → ∥ AreBytesShown (bytes_in start) (noted_number start) [] o n false false ∥₁
line_begun start name n o e =
    let bytes : bytes_in start ≡ o = ap bytes_in e ∙ bytes_noted name n o in
    let number : noted_number start ≡ n = ap noted_number e ∙ number_noted name n o in
    let none : AreBytesShown o n [] o n false false = record { later = omega arith; some_is = refl; is = λ some. sym (nothing_more o) } in
    ∣ subst (λ (x : Option (List ℕ)). AreBytesShown x (noted_number start) [] o n false false) (sym bytes) (subst (λ (k : ℕ). AreBytesShown o k [] o n false false) (sym number) none) ∣₁
