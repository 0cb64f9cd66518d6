-- What is kept of the ends of lines that strings are.
use Rattle.std.proofs.Common.{◌≡◌, ℕ, zero, suc, ◌-◌, ◌<◌, Bool, true, false, List, [], ◌∷◌, cond, get_or, length, map, nat_eq, eqb-true, slice_get, refl, sym, ap, ◌∙◌, arith}
use Rattle.abc_text_lines.specs.Listing.{quoted_comment, string_at}
use Rattle.abc_text_lines.specs.Texts.{or_else}
use Rattle.abc_file_types.specs.declared.tables.Abc.{Abc}
use Rattle.abc_text_writer.specs.Kept.{AreComments}

pub none_kept : (v : Abc) (rows : List (List ℕ)) → rows ≡ [] → AreComments v rows
none_kept v rows e = record { each = λ n lt. absurd (let q = ap length e in omega (arith, q, lt)) }

at_string : (strings : List (List ℕ)) (i : ℕ) → i < length (map quoted_comment strings) → get_or (map quoted_comment strings) i [] ≡ quoted_comment (or_else (slice_get strings i) [])
at_string [] i lt = absurd (omega arith)
at_string (s ∷ ss) zero lt = refl
at_string (s ∷ ss) (suc i) lt = at_string ss i (omega arith)

at_index : (v : Abc) (n : ℕ) → n < length (map quoted_comment ([] ∷ v.strings)) → get_or (map quoted_comment ([] ∷ v.strings)) n [] ≡ quoted_comment (string_at v n)
at_index v zero lt = refl
at_index v (suc i) lt = at_string v.strings i (omega arith) ∙ ap quoted_comment (sym (go (nat_eq (suc i) 0) refl))
  where
    go : (b : Bool) → nat_eq (suc i) 0 ≡ b → cond b [] (or_else (slice_get v.strings (suc i - 1)) []) ≡ or_else (slice_get v.strings i) []
    go true e = let q = eqb-true (suc i) 0 e in absurd (omega arith)
    go false e = let q : suc i - 1 ≡ i = omega arith in ap (λ m. or_else (slice_get v.strings m) []) q

pub all_kept : (v : Abc) (rows strings : List (List ℕ)) → rows ≡ map quoted_comment ([] ∷ strings) → strings ≡ v.strings → AreComments v rows
all_kept v rows strings e same = record {
  each = λ n lt.
      let is : rows ≡ map quoted_comment ([] ∷ v.strings) = e ∙ ap (λ (l : List (List ℕ)). map quoted_comment ([] ∷ l)) same in
      let within : n < length (map quoted_comment ([] ∷ v.strings)) = let q = ap length is in omega (arith, q, lt) in
      ap (λ (l : List (List ℕ)). get_or l n []) is ∙ at_index v n within;
}
