-- The listing of a file that some bytes spell is a text of it.
use Rattle.std.proofs.Common.{◌≡◌, ℕ, zero, suc, ℤ, pos, negsuc, ◌*◌, ◌%◌, ◌/◌, ◌^◌, ◌<◌, ◌≤◌, true, ◌&&◌, nat_eq, nat_le, int_le, List, [], ◌∷◌, ◌++◌, length, map, Some, None, refl, sym, ap, subst, ◌∙◌, arith}
use Rattle.std.specs.List.{AllByRecursion, flat_map}
use Rattle.std.specs.Option.{option_to_list}
use Rattle.std.specs.declared.option.Option.{Option}
use Rattle.std.proofs.lemmas.Bool.Decides.{nat_tests}
use Rattle.std.proofs.lemmas.Grind.{flat_map-append}
use Rattle.std.proofs.lemmas.List.Elements.{recursion_from_All}
use Rattle.abc_text_lines.specs.declared.word.Word.{Word}
use Rattle.abc_text_lines.specs.declared.word.Word.TheVariants as words
use Rattle.abc_text_lines.proofs.Bools.{and_true}
use Rattle.abc_file_types.specs.declared.classes.Instance.{Instance}
use Rattle.abc_file_types.specs.declared.code.Body.{Body}
use Rattle.abc_file_types.specs.declared.methods.Metadata.{Metadata}
use Rattle.abc_file_types.specs.declared.tables.Abc.{Abc}
use Rattle.abc_file_types.specs.declared.tables.Eight.{Eight}
use Rattle.abc_file_types.specs.declared.tables.Sizes.{Sizes}
use Rattle.abc_file_types.specs.Classes.{sizes_of}
use Rattle.abc_file_types.specs.Files.{Fits}
use Rattle.abc_tables.specs.Fitting.{FitBodies, FitDefinitions, FitsMetadata}
use Rattle.abc_tables.proofs.BodiesFit.{bodies_fit}
use Rattle.abc_tables.proofs.CanonicalLength.{file-len}
use Rattle.abc_tables.proofs.DefinitionsFit.{definitions_fit}
use Rattle.abc_tables.proofs.FileFits.{file_fits, tables_fit}
use Rattle.abc_tables.proofs.MethodsFit.{metadata_fits}
use Rattle.abc_text_lines.specs.Law.{Match}
use Rattle.abc_text_lines.specs.Lines.{Shown}
use Rattle.abc_text_lines.specs.Operands.{Operands, any_signed, eight}
use Rattle.abc_text_lines.specs.Rows.{Faults}
use Rattle.abc_text_lines.specs.Wordlines.{flat_lines, shows_operands}
use Rattle.abc_text_lines.specs.Answers.{IsAssemblyOf, IsMetadataWhole, first_in, instance_parts, instance_of_parts, flat_pairs, lines_of_file, metadata_lines, metadata_of_parts, outline, pairs, file_rows}
use Rattle.abc_text_lines.specs.File as file
use Rattle.abc_text_lines.specs.Lineforms.{double_line, int_line, name_line, namespace_line, set_line, string_line, uint_line}
use Rattle.abc_text_lines.specs.Listing.{body_text, lines_of_body, listing, quiet_lines, targets_of_line}
use Rattle.abc_text_lines.specs.Texts.{Raw, lines_in, raws_from, rows_of_lines, rows_of}
use Rattle.abc_disasm.proofs.Bodylines.{all_differ, bodies_stand, bodies_written, kept_body, match_bodies, none_taken}
use Rattle.abc_disasm.specs.Bytes.{HasByteValues}
use Rattle.abc_disasm.proofs.Bodyparts.{lines_are}
use Rattle.abc_disasm.proofs.Fitting.{table_fits}
use Rattle.abc_disasm.proofs.ReadForms.{double_shown, int_shown, name-shown, namespace-shown, set-shown, string_shown, uint-shown}
use Rattle.abc_disasm.proofs.Items.{CanBeShown}
use Rattle.abc_disasm.proofs.Matching.{kept_still, match_still}
use Rattle.abc_disasm.proofs.Readback.{AllStand, exact, lines_read, raws, rendered_kept, stand_more, two_stand}
use Rattle.abc_disasm.proofs.Runs.{size_of}
use Rattle.abc_disasm.proofs.Standing.{AllSit, AreShown, flat-sits, is_quiet, sit_stand, sit_still, two_sit}
use Rattle.abc_disasm.proofs.Tables.{classes-sit, instances-sit, metadata-sit, methods-sit, scripts-sit}

-- no number of an instruction
abbrev Nowhere : ℕ → Type 0
Nowhere n = ⊥

-- ---- lines of the pools

flat_sit_each : {A : Type 0} (faults : Faults) (w : Word) (p : Operands A) (n : ℕ) → is_quiet w ≡ true → (xs : List A) → AllByRecursion (λ x. AllByRecursion (CanBeShown Nowhere) (p.items x)) xs → AllSit Nowhere ((flat_lines faults w p n).shows xs)
flat_sit_each faults w p n quiet [] all = tt
flat_sit_each faults w p n quiet (x ∷ xs) all = ((quiet, all.0), flat_sit_each faults w p n quiet xs all.1)

int_size : (z : ℤ) → (int_le (negsuc 2147483647) z && int_le z (pos 2147483647)) ≡ true → size_of z < 2 ^ 64
int_size (pos n) e = let t : nat_le n 2147483647 ≡ true = e in let le : n ≤ 2147483647 = grind (arith, nat_tests) in let lt : n < 2 ^ 64 = omega arith in lt
int_size (negsuc n) e = let t : nat_le n 2147483647 ≡ true = (and_true (nat_le n 2147483647) true e).0 in let le : n ≤ 2147483647 = grind (arith, nat_tests) in let lt : suc n < 2 ^ 64 = omega arith in lt

int-shown : AreShown Nowhere int_line
unfolding int_line any_signed
int-shown z fits = int_shown Nowhere z (int_size z fits.0.0.1)

doubles_shown : (ds : List Eight) → AllByRecursion double_line.fits ds → AllByRecursion (λ d. AllByRecursion (λ b. b < 256) d.0) ds → AllByRecursion (λ d. AllByRecursion (CanBeShown Nowhere) (double_line.items d)) ds
unfolding double_line eight
doubles_shown [] fits bytes = tt
doubles_shown (d ∷ ds) fits bytes =
    let len : nat_eq (length d.0) 8 ≡ true = fits.0.0.0 in
    let some : 0 < length d.0 = grind (arith, nat_tests) in
    (double_shown Nowhere d some bytes.0, doubles_shown ds fits.1 bytes.1)

flat_each : {A : Type 0} (faults : Faults) (w : Word) (p : Operands A) (n : ℕ) (xs : List A) → (flat_lines faults w p n).fits xs → AllByRecursion p.fits xs
flat_each faults w p n [] fits = tt
flat_each faults w p n (x ∷ xs) fits = (fits.0.0, flat_each faults w p n xs fits.2)

strings_shown : (xs : List (List ℕ)) → AllByRecursion (λ s. AllByRecursion (λ b. b < 256) s) xs → AllByRecursion (λ s. AllByRecursion (CanBeShown Nowhere) (string_line.items s)) xs
strings_shown [] bytes = tt
strings_shown (x ∷ xs) bytes = (string_shown Nowhere x bytes.0, strings_shown xs bytes.1)

module _ (v : Abc) where
  abbrev s : Sizes
  s = sizes_of v

  abbrev i : ℕ
  i = length v.instances

  abbrev fs : Faults
  fs = file.faults s i

  pools_sit : (file.pools s i 0).fits (outline v).0 → HasByteValues v → AllSit Nowhere ((file.pools s i 0).shows (outline v).0)
  unfolding file.pools
  pools_sit fits bytes =
      let a = (flat_lines fs words.Int int_line 0).shows v.ints in
      let b = (flat_lines fs words.UInt uint_line 0).shows v.uints in
      let c = (flat_lines fs words.Double double_line 0).shows v.doubles in
      let d = (flat_lines fs words.Text string_line 0).shows v.strings in
      let e = (flat_lines fs words.Namespace (namespace_line s) 0).shows v.namespaces in
      let f = (flat_lines fs words.Set (set_line s) 0).shows v.sets in
      let g = (flat_lines fs words.Name (name_line s) 0).shows v.names in
      two_sit Nowhere a (b ++ (c ++ (d ++ (e ++ (f ++ g))))) (flat-sits Nowhere fs words.Int int_line 0 refl int-shown v.ints fits.0)
      (two_sit Nowhere b (c ++ (d ++ (e ++ (f ++ g)))) (flat-sits Nowhere fs words.UInt uint_line 0 refl (uint-shown Nowhere) v.uints fits.1.0)
      (two_sit Nowhere c (d ++ (e ++ (f ++ g))) (flat_sit_each fs words.Double double_line 0 refl v.doubles (doubles_shown v.doubles (flat_each fs words.Double double_line 0 v.doubles fits.1.1.0) bytes.doubles))
      (two_sit Nowhere d (e ++ (f ++ g)) (flat_sit_each fs words.Text string_line 0 refl v.strings (strings_shown v.strings bytes.strings))
      (two_sit Nowhere e (f ++ g) (flat-sits Nowhere fs words.Namespace (namespace_line s) 0 refl (namespace-shown Nowhere s) v.namespaces fits.1.1.1.1.0)
      (two_sit Nowhere f g (flat-sits Nowhere fs words.Set (set_line s) 0 refl (set-shown Nowhere s) v.sets fits.1.1.1.1.1.0)
      (flat-sits Nowhere fs words.Name (name_line s) 0 refl (name-shown Nowhere s) v.names fits.1.1.1.1.1.1))))))

  quiet_sit : (file_rows v).fits (outline v) → HasByteValues v → AllSit Nowhere (quiet_lines v)
  unfolding file.file
  quiet_sit fits bytes =
      let p = (file.pools s i 0).shows (outline v).0 in
      let m = (file.methods s i 0).shows v.methods in
      let d = (file.metadata s i 0).shows (map metadata_lines v.metadata) in
      let x = (file.instance_lines s i 0).shows (map instance_parts v.instances) in
      let c = (file.classes s i 0).shows v.classes in
      let z = (file.scripts s i 0).shows v.scripts in (
        (refl, (omega arith, (omega arith, tt))),
        two_sit Nowhere p (m ++ (d ++ (x ++ (c ++ z)))) (pools_sit fits.0 bytes)
            (two_sit Nowhere m (d ++ (x ++ (c ++ z))) (methods-sit Nowhere s i 0 v.methods fits.1.0)
            (two_sit Nowhere d (x ++ (c ++ z)) (metadata-sit Nowhere s i 0 (map metadata_lines v.metadata) fits.1.1.0)
            (two_sit Nowhere x (c ++ z) (instances-sit Nowhere s i 0 (map instance_parts v.instances) fits.1.1.1.0)
            (two_sit Nowhere c z (classes-sit Nowhere s i 0 v.classes fits.1.1.1.1.0) (scripts-sit Nowhere s i 0 v.scripts fits.1.1.1.1.1.0))))),
      )

  -- ---- the listing

  bodies_text : (bs : List Body) → flat_map (body_text v) bs ≡ flat_map (exact v) (flat_map (kept_body v) bs)
  bodies_text [] = refl
  bodies_text (b ∷ bs) =
      ap (λ (l : List ℕ). body_text v b ++ l) (bodies_text bs)
      ∙ ap (λ (l : List ℕ). l ++ flat_map (exact v) (flat_map (kept_body v) bs)) (rendered_kept v (flat_map targets_of_line (lines_of_body v b)) (lines_of_body v b))
      ∙ sym (flat_map-append (exact v) (kept_body v b) (flat_map (kept_body v) bs))

  listing_is : AllSit Nowhere (quiet_lines v) → listing v ≡ flat_map (exact v) (quiet_lines v ++ flat_map (kept_body v) v.bodies)
  unfolding listing
  listing_is sit =
      ap (λ (l : List ℕ). l ++ flat_map (body_text v) v.bodies) (rendered_kept v [] (quiet_lines v) ∙ ap (flat_map (exact v)) (kept_still [] (quiet_lines v) (sit_still Nowhere (quiet_lines v) sit)))
      ∙ ap (λ (l : List ℕ). flat_map (exact v) (quiet_lines v) ++ l) (bodies_text v.bodies)
      ∙ sym (flat_map-append (exact v) (quiet_lines v) (flat_map (kept_body v) v.bodies))

  rows_by : (text : List ℕ) (lines : List Shown) → raws_from 1 (lines_in text) ≡ raws 1 lines → rows_of text ≡ rows_of_lines [] [] [] (raws 1 lines)
  unfolding rows_of
  rows_by text lines e = ap (λ (rs : List Raw). rows_of_lines [] [] [] rs) e

  shown_back : (file_rows v).fits (outline v) → FitBodies v → HasByteValues v → Match shows_operands (rows_of (listing v)) (lines_of_file v)
  shown_back fits bodies bytes =
      let b = (bodies_fit v).0 bodies in
      let sit = quiet_sit fits bytes in
      let quiet = quiet_lines v in
      let stand = bodies_stand v v.bodies (recursion_from_All _ v.bodies b.1) bytes.bodies in
      let lines = quiet ++ flat_map (kept_body v) v.bodies in
      let written : AllStand (λ n. Unit {0}) lines =
      two_stand (λ n. Unit {0}) quiet (flat_map (kept_body v) v.bodies) (stand_more Nowhere (λ n. Unit {0}) (λ n h. tt) quiet (sit_stand Nowhere quiet sit)) (bodies_written v v.bodies stand) in
      let read : raws_from 1 (lines_in (listing v)) ≡ raws 1 lines = ap (λ (l : List ℕ). raws_from 1 (lines_in l)) (listing_is sit) ∙ lines_read v (λ n. Unit {0}) lines written 1 in
      let there = match_still Nowhere [] [] [] (λ n h. absurd h) quiet (sit_stand Nowhere quiet sit) (sit_still Nowhere quiet sit) (flat_map (kept_body v) v.bodies) (flat_map (lines_of_body v) v.bodies)
      (λ k. match_bodies v v.bodies stand (all_differ v.bodies b.2) [] (none_taken v v.bodies) k [] []) 1 in
      subst (λ (l : List Shown). Match shows_operands (rows_of (listing v)) l) (sym (lines_are v))
      (subst (λ (rs : List _). Match shows_operands rs (quiet ++ flat_map (lines_of_body v) v.bodies)) (sym (rows_by (listing v) lines read)) there)

-- ---- the file of an outline

pairs_joined : (n : ℕ) (xs : List ℕ) → length xs ≡ 2 * n → flat_pairs (pairs xs) ≡ xs
pairs_joined n [] e = refl
pairs_joined n (a ∷ []) e = absurd (omega arith)
pairs_joined zero (a ∷ b ∷ xs) e = absurd (omega arith)
pairs_joined (suc n) (a ∷ b ∷ xs) e = ap (λ (l : List ℕ). a ∷ b ∷ l) (pairs_joined n xs (omega arith))

metadata_again : (m : Metadata) → length m.items % 2 ≡ 0 → metadata_of_parts (metadata_lines m) ≡ m
metadata_again m e = ap (λ (items : List ℕ). let made : Metadata = record { name = m.name; items = items } in made) (pairs_joined (length m.items / 2) m.items (omega arith))

all_metadata : (v : Sizes) (ms : List Metadata) → AllByRecursion (FitsMetadata v) ms → map metadata_of_parts (map metadata_lines ms) ≡ ms
all_metadata v [] all = refl
all_metadata v (m ∷ ms) all = let a = metadata_again m ((metadata_fits v m).0 all.0).1 in let b = all_metadata v ms all.1 in rw (a, b) refl

option_again : (o : Option ℕ) → first_in (option_to_list o) ≡ o
option_again None = refl
option_again (Some n) = refl

all_instances : (is : List Instance) → map instance_of_parts (map instance_parts is) ≡ is
all_instances [] = refl
all_instances (x ∷ is) = let a = option_again x.protected_ns in let b = all_instances is in rw (a, b) refl

whole : (v : Abc) → FitDefinitions v → IsMetadataWhole v
whole v fits =
    let d = (definitions_fit v).0 fits in
    let a = all_metadata (sizes_of v) v.metadata (recursion_from_All (FitsMetadata (sizes_of v)) v.metadata d.metadata) in
    let b = all_instances v.instances in
    rw (a, b) refl

-- ---- the law

pub listing_is_text : (v : Abc) → Fits v → HasByteValues v → IsAssemblyOf (listing v) v
listing_is_text v fits bytes =
    let f = (file_fits v).0 fits in
    let t = (tables_fit v).0 f.1 in
    let file_rows = table_fits v t.0 t.1 t.2 bytes in
    record {
      listed = record { shown = shown_back v file_rows t.2 bytes; fits = file_rows; whole = whole v t.1 };
      short = omega (arith, file-len v, f.0);
    }
