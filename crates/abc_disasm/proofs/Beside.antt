-- Which bodies a file has matters neither for the lines before those of bodies nor for those of a body.
use Rattle.std.proofs.Common.{◌≡◌, ℕ, List, [], ◌∷◌, ◌++◌, map, refl, ap, ◌∙◌}
use Rattle.std.specs.List.{flat_map}
use Rattle.abc_text_lines.specs.declared.word.Word.{Word}
use Rattle.abc_text_lines.specs.Tokens.{Bare}
use Rattle.abc_text_lines.specs.Writing.{written_line}
use Rattle.abc_file_types.specs.declared.code.Body.{Body}
use Rattle.abc_file_types.specs.declared.tables.Abc.{Abc}
use Rattle.abc_text_lines.specs.Lines.{Item, Shown, Line, Labels}
use Rattle.abc_text_lines.specs.Listing.{body_text, comment_of, lines_of_body, listing, quiet_lines, listing_bytes, shown_bytes, targets_of_line, token_of, word_name}

module _ (v : Abc) (bs : List Body) where
  abbrev full : Abc
  full = record v { bodies = bs }

  comment_beside : (w : Word) (items : List Item) → comment_of full w items ≡ comment_of v w items
  comment_beside w items = refl

  shown_beside : (named : List ℕ) (s : Shown) → shown_bytes full named s ≡ shown_bytes v named s
  shown_beside named (Line w items) = ap (λ (c : List ℕ). written_line (Bare (word_name w) ∷ map token_of items) ++ (c ++ 0x0a ∷ [])) (comment_beside w items)
  shown_beside named (Labels n) = refl

  rendered_beside : (named : List ℕ) (lines : List Shown) → listing_bytes full named lines ≡ listing_bytes v named lines
  rendered_beside named [] = refl
  rendered_beside named (s ∷ lines) =
      ap (λ (l : List ℕ). l ++ listing_bytes full named lines) (shown_beside named s)
      ∙ ap (λ (l : List ℕ). shown_bytes v named s ++ l) (rendered_beside named lines)

  bodies_beside : (xs : List Body) → flat_map (body_text full) xs ≡ flat_map (body_text v) xs
  bodies_beside [] = refl
  bodies_beside (b ∷ xs) =
      ap (λ (l : List ℕ). l ++ flat_map (body_text full) xs) (rendered_beside (flat_map targets_of_line (lines_of_body v b)) (lines_of_body v b))
      ∙ ap (λ (l : List ℕ). body_text v b ++ l) (bodies_beside xs)

  pub listing_beside : listing full ≡ listing_bytes v [] (quiet_lines v) ++ flat_map (body_text v) bs
  unfolding listing
  listing_beside =
      ap (λ (l : List ℕ). l ++ flat_map (body_text full) bs) (rendered_beside [] (quiet_lines v))
      ∙ ap (λ (l : List ℕ). listing_bytes v [] (quiet_lines v) ++ l) (bodies_beside bs)
