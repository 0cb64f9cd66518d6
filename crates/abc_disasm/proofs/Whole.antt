-- A file is listed as it is read: the lines before its bodies, and then those of each body.
use Rattle.std.proofs.Common.{◌≡◌, ℕ, List, ◌++◌, map, Ok, refl, sym, ap, ◌∙◌, append_assoc}
use Rattle.std.specs.List.{flat_map}
use Rattle.std.proofs.lemmas.List.Folds.{flat_map-map}
use Rattle.abc_file_types.specs.Part.{At, ◌>>=◌}
use Rattle.abc_file_types.specs.declared.code.Body.{Body}
use Rattle.abc_file_types.specs.declared.tables.Abc.{Abc}
use Rattle.abc_file_types.specs.declared.tables.Sizes.{Sizes}
use Rattle.abc_file_types.specs.Bodies.{bodies, body_list}
use Rattle.abc_file_types.specs.Classes.{definitions, sizes_of}
use Rattle.abc_file_types.specs.Files.{file_read, version}
use Rattle.abc_file_types.specs.Pools.{pools}
use Rattle.abc_file_types.specs.Sizes.{capped_sizes}
use Rattle.abc_varint.specs.declared.error.ReadError.{ReadError}
use Rattle.abc_varint.specs.declared.error.ReadError.TheVariants as errors
use Rattle.abc_varint.specs.Reads.{FailsReading}
use Rattle.abc_bodies.proofs.Alike.{body_list-capped}
use Rattle.abc_bodies.proofs.Passing.{beside, filled}
use Rattle.abc_text_lines.specs.Listing.{body_text, listing}
use Rattle.abc_disasm.specs.Texts.{front_text}
use Rattle.abc_disasm.proofs.Beside.{listing_beside}
use Rattle.abc_disasm.proofs.Rendering.{quiet_are}
use Rattle.abc_disasm.specs.Entries.{entry_text}

-- ---- reading

-- a file is filled with its bodies over sizes that an index cannot tell apart from its own
pub filled_over : (v : Abc) (sizes : Sizes) (from : At) → sizes ≡ capped_sizes (sizes_of v) → (bodies v).reads from ≡ ((body_list sizes).reads from >>= λ x. Ok (beside v x.0, x.1))
filled_over v sizes from same = filled v (sizes_of v) from refl ∙ rw (same, (body_list-capped (sizes_of v)).same from) refl

-- bodies that fail, after the parts before them were read
pub bodies_fail : (e : ReadError) (from b c d : At) (n : ℕ × ℕ) (v full : Abc) (sizes : Sizes) → version.reads from ≡ Ok (n, b) → pools.reads b ≡ Ok (v, c) → (definitions v).reads c ≡ Ok (full, d) → sizes ≡ capped_sizes (sizes_of full)
    → FailsReading e ((body_list sizes).reads d) → FailsReading e (file_read.reads from)
unfolding file_read
bodies_fail (errors.Refused place reason) from b c d n v full sizes r1 r2 r3 same f = rw (r1, r2, r3, filled_over full sizes d same, f) refl
bodies_fail errors.ReadFault from b c d n v full sizes r1 r2 r3 same f = tt
bodies_fail errors.NoMemory from b c d n v full sizes r1 r2 r3 same f = tt

-- ---- what was put

parts_of : (v : Abc) (xs : List (Body × List ℕ)) → listing (beside v xs).0 ≡ front_text v ++ flat_map (entry_text v) xs
parts_of v xs =
    let bs = map (λ (x : Body × List ℕ). x.0) xs in
    listing_beside v bs
    ∙ ap (λ (l : List ℕ). l ++ flat_map (body_text v) bs) (quiet_are v)
    ∙ ap (λ (l : List ℕ). front_text v ++ l) (flat_map-map (body_text v) (λ (x : Body × List ℕ). x.0) xs)

-- the lines before the bodies and then those of each body are those of the file
pub joined : (v : Abc) (xs : List (Body × List ℕ)) (old front all : List ℕ) → front ≡ old ++ front_text v → all ≡ front ++ flat_map (entry_text v) xs → all ≡ old ++ listing (beside v xs).0
joined v xs old front all first last =
    last
    ∙ ap (λ (l : List ℕ). l ++ flat_map (entry_text v) xs) first
    ∙ append_assoc old (front_text v) (flat_map (entry_text v) xs)
    ∙ ap (λ (l : List ℕ). old ++ l) (sym (parts_of v xs))
