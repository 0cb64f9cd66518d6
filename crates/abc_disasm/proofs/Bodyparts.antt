-- The lines of a file are those before its bodies, and then body by body a line, its code, its exceptions and its traits.
use Rattle.std.proofs.Common.{◌≡◌, ℕ, List, [], ◌∷◌, ◌++◌, length, map, refl, sym, ap, ◌∙◌, append_assoc, append-nil}
use Rattle.std.specs.List.{flat_map}
use Rattle.abc_text_lines.specs.declared.word.Word.TheVariants as words
use Rattle.abc_file_types.specs.declared.code.Body.{Body}
use Rattle.abc_file_types.specs.declared.tables.Abc.{Abc}
use Rattle.abc_file_types.specs.declared.tables.Sizes.{Sizes}
use Rattle.abc_file_types.specs.Classes.{sizes_of}
use Rattle.abc_text_lines.specs.Lines.{Number, Shown, Line, Labels}
use Rattle.abc_text_lines.specs.Rows.{Faults, code_after}
use Rattle.abc_text_lines.specs.Wordlines.{flat_lines}
use Rattle.abc_text_lines.specs.Answers.{instance_parts, lines_of_file, metadata_lines, outline}
use Rattle.abc_text_lines.specs.File as file
use Rattle.abc_text_lines.specs.Lineforms.{body_line, catch_line}
use Rattle.abc_text_lines.specs.Listing.{lines_of_body, quiet_lines}
use Rattle.abc_disasm.proofs.Fitting.{body_head}

module _ (v : Abc) where
  abbrev s : Sizes
  s = sizes_of v

  abbrev i : ℕ
  i = length v.instances

  abbrev fs : Faults
  fs = file.faults s i

  abbrev pub code_of : Body → List Shown
  code_of b = Labels 0 ∷ code_after (file.instructions s i) 0 b.code

  abbrev pub catches_of : Body → List Shown
  catches_of b = (flat_lines fs words.Catch (catch_line s) 0).shows b.handlers

  -- what stands behind the code
  abbrev pub rest_of : Body → List Shown
  rest_of b = catches_of b ++ (file.traits s i fs 0).shows b.traits

  abbrev pub first_of : Body → Shown
  first_of b = Line words.Body ((body_line s).items (body_head s i b))

  abbrev pub plain_body : Body → List Shown
  plain_body b = first_of b ∷ (code_of b ++ rest_of b)

  pub body_lines_are : (b : Body) → lines_of_body v b ≡ plain_body b
  unfolding file.body_lines file.body_below
  body_lines_are b = ap (λ (l : List Shown). first_of b ∷ l) (append-nil (code_of b ++ rest_of b))

  bodies_listed : (bs : List Body) → (file.body_lines s i 0).shows bs ≡ flat_map (lines_of_body v) bs
  unfolding file.body_lines
  bodies_listed [] = refl
  bodies_listed (b ∷ bs) =
      let first = Line words.Body _ in
      let below = (file.body_below s i fs 0).shows (b.code, (b.handlers, b.traits)) in
      let rest = (file.body_lines s i 0).shows bs in
      ap (λ (l : List Shown). first ∷ l) (ap (λ (l : List Shown). l ++ rest) (sym (append-nil below)))
      ∙ ap (λ (l : List Shown). lines_of_body v b ++ l) (bodies_listed bs)

  pub lines_are : lines_of_file v ≡ quiet_lines v ++ flat_map (lines_of_body v) v.bodies
  unfolding file.file
  lines_are =
      let p = (file.pools s i 0).shows (outline v).0 in
      let m = (file.methods s i 0).shows v.methods in
      let d = (file.metadata s i 0).shows (map metadata_lines v.metadata) in
      let x = (file.instance_lines s i 0).shows (map instance_parts v.instances) in
      let c = (file.classes s i 0).shows v.classes in
      let z = (file.scripts s i 0).shows v.scripts in
      let b = flat_map (lines_of_body v) v.bodies in
      ap (λ (l : List Shown). Line words.Abc (Number 16 ∷ Number 46 ∷ []) ∷ (p ++ (m ++ (d ++ (x ++ (c ++ (z ++ l))))))) (bodies_listed v.bodies)
      ∙ ap (λ (l : List Shown). Line words.Abc (Number 16 ∷ Number 46 ∷ []) ∷ l)
      (ap (λ (l : List Shown). p ++ (m ++ (d ++ (x ++ l)))) (sym (append_assoc c z b))
      ∙ ap (λ (l : List Shown). p ++ (m ++ (d ++ l))) (sym (append_assoc x (c ++ z) b))
      ∙ ap (λ (l : List Shown). p ++ (m ++ l)) (sym (append_assoc d (x ++ (c ++ z)) b))
      ∙ ap (λ (l : List Shown). p ++ l) (sym (append_assoc m (d ++ (x ++ (c ++ z))) b))
      ∙ sym (append_assoc p (m ++ (d ++ (x ++ (c ++ z)))) b))

  plain_bodies : (bs : List Body) → flat_map (lines_of_body v) bs ≡ flat_map plain_body bs
  plain_bodies [] = refl
  plain_bodies (b ∷ bs) = ap (λ (l : List Shown). l ++ flat_map (lines_of_body v) bs) (body_lines_are b) ∙ ap (λ (l : List Shown). plain_body b ++ l) (plain_bodies bs)

  pub plain_lines : lines_of_file v ≡ quiet_lines v ++ flat_map plain_body v.bodies
  plain_lines = lines_are ∙ ap (λ (l : List Shown). quiet_lines v ++ l) (plain_bodies v.bodies)
