-- The bodies of a text's file are such as some bytes spell.
use Rattle.std.proofs.Common.{◌≡◌, ℕ, ℤ, pos, negsuc, ◌+◌, ◌^◌, ◌<◌, inl, inr, true, false, nat_lt, nat_le, int_le, List, [], ◌∷◌, ◌++◌, length, Some, None, refl, ap, subst, ◌∙◌, arith}
use Rattle.std.specs.List.{All, AllByRecursion, flat_map}
use Rattle.std.specs.declared.option.Option.{Option}
use Rattle.std.proofs.lemmas.Bool.Decides.{nat_tests}
use Rattle.std.proofs.lemmas.Int.{ints}
use Rattle.std.proofs.lemmas.List.Elements.{All-from_recursion}
use Rattle.abc_text_lines.specs.declared.word.Word.{Word}
use Rattle.abc_text_lines.specs.declared.word.Word.TheVariants as words
use Rattle.abc_text_lines.proofs.Bools.{and_true}
use Rattle.abc_file_types.specs.declared.code.Body.{Body}
use Rattle.abc_file_types.specs.declared.code.Handler.{Handler}
use Rattle.abc_file_types.specs.declared.code.Instr.{Instr}
use Rattle.abc_file_types.specs.declared.code.Instr.TheVariants as instrs
use Rattle.abc_file_types.specs.declared.opcodes.Form.{Form}
use Rattle.abc_file_types.specs.declared.opcodes.Form.TheVariants as forms
use Rattle.abc_file_types.specs.declared.tables.Abc.{Abc}
use Rattle.abc_file_types.specs.declared.tables.Sizes.{Sizes}
use Rattle.abc_file_types.specs.declared.traits.TraitInfo.{TraitInfo}
use Rattle.abc_file_types.specs.Bodies.{IsReadyBody, IsHandlerWithin}
use Rattle.abc_file_types.specs.Classes.{sizes_of}
use Rattle.abc_file_types.specs.CodeBytes.{code_len, instr_len}
use Rattle.abc_file_types.specs.Opcodes.{form_at, info_at}
use Rattle.abc_file_types.specs.Ready.{AllCanSpell, AllUpTo, CanSpell}
use Rattle.abc_text_lines.specs.Law.{Match}
use Rattle.abc_text_lines.specs.Lines.{Row, Shown, Line, Labels}
use Rattle.abc_text_lines.specs.Operands.{Operands, any_number, any_signed, several_items, target}
use Rattle.abc_text_lines.specs.Rows.{AllFit, Faults, code_after}
use Rattle.abc_text_lines.specs.Wordlines.{flat_lines, shows_operands}
use Rattle.abc_text_lines.specs.Answers.{IsAssemblyOf, outline, file_rows}
use Rattle.abc_text_lines.specs.File as file
use Rattle.abc_text_lines.specs.Lineforms.{body_line, operands_by_form, catch_line, instruction_operands, opcode_of, trait_metadata_line}
use Rattle.abc_text_lines.specs.Listing.{quiet_lines}
use Rattle.abc_text_lines.specs.Texts.{Skips, Step, by_step, lines_in, raws_from, rows_of, label_step}
use Rattle.abc_disasm.proofs.Bodyparts.{catches_of, code_of, plain_body, plain_lines, rest_of}
use Rattle.abc_disasm.proofs.Fitting.{body_head}
use Rattle.abc_disasm.proofs.Places.{Behind, EndsBody, IsInner, LineUpTo, TargetUpTo, behind_lines, body_below, count_of}

-- ---- the forms of instructions

plain_form : (op : ℕ) (o : Option Form) → (operands_by_form op o).fits (instrs.Plain op) → o ≡ Some forms.Plain
plain_form op None h = absurd h
plain_form op (Some forms.Plain) h = refl
plain_form op (Some forms.One) h = let e = h.1 in absurd cc
plain_form op (Some forms.Two) h = let e = h.1 in absurd cc
plain_form op (Some forms.Branch) h = let e = h.1 in absurd cc
plain_form op (Some forms.Switch) h = let e = h.1 in absurd cc
plain_form op (Some forms.Byte) h = let e = h.1 in absurd cc
plain_form op (Some forms.Short) h = let e = h.1 in absurd cc
plain_form op (Some forms.ScopeObject) h = let e = h.1 in absurd cc
plain_form op (Some forms.Debug) h = let e = h.1 in absurd cc

one_form : (op n : ℕ) (o : Option Form) → (operands_by_form op o).fits (instrs.One op n) → o ≡ Some forms.One
one_form op n None h = absurd h
one_form op n (Some forms.One) h = refl
one_form op n (Some forms.Plain) h = let e = h.1 in absurd cc
one_form op n (Some forms.Two) h = let e = h.1 in absurd cc
one_form op n (Some forms.Branch) h = let e = h.1 in absurd cc
one_form op n (Some forms.Switch) h = let e = h.1 in absurd cc
one_form op n (Some forms.Byte) h = let e = h.1 in absurd cc
one_form op n (Some forms.Short) h = let e = h.1 in absurd cc
one_form op n (Some forms.ScopeObject) h = let e = h.1 in absurd cc
one_form op n (Some forms.Debug) h = let e = h.1 in absurd cc

two_form : (op n m : ℕ) (o : Option Form) → (operands_by_form op o).fits (instrs.Two op n m) → o ≡ Some forms.Two
two_form op n m None h = absurd h
two_form op n m (Some forms.Two) h = refl
two_form op n m (Some forms.Plain) h = let e = h.1 in absurd cc
two_form op n m (Some forms.One) h = let e = h.1 in absurd cc
two_form op n m (Some forms.Branch) h = let e = h.1 in absurd cc
two_form op n m (Some forms.Switch) h = let e = h.1 in absurd cc
two_form op n m (Some forms.Byte) h = let e = h.1 in absurd cc
two_form op n m (Some forms.Short) h = let e = h.1 in absurd cc
two_form op n m (Some forms.ScopeObject) h = let e = h.1 in absurd cc
two_form op n m (Some forms.Debug) h = let e = h.1 in absurd cc

branch_form : (op t : ℕ) (o : Option Form) → (operands_by_form op o).fits (instrs.Branch op t) → o ≡ Some forms.Branch
branch_form op t None h = absurd h
branch_form op t (Some forms.Branch) h = refl
branch_form op t (Some forms.Plain) h = let e = h.1 in absurd cc
branch_form op t (Some forms.One) h = let e = h.1 in absurd cc
branch_form op t (Some forms.Two) h = let e = h.1 in absurd cc
branch_form op t (Some forms.Switch) h = let e = h.1 in absurd cc
branch_form op t (Some forms.Byte) h = let e = h.1 in absurd cc
branch_form op t (Some forms.Short) h = let e = h.1 in absurd cc
branch_form op t (Some forms.ScopeObject) h = let e = h.1 in absurd cc
branch_form op t (Some forms.Debug) h = let e = h.1 in absurd cc

-- ---- instructions

below30 : (x : ℕ) → nat_lt x (2 ^ 30) ≡ true → x < 2 ^ 30
below30 x e = grind (arith, nat_tests)

module _ (k : ℕ) where
  abbrev InstrFits : Instr → Type 0
  InstrFits i = (instruction_operands (opcode_of i)).fits i

  abbrev InstrUpTo : Instr → Type 0
  InstrUpTo i = AllByRecursion (TargetUpTo k) ((instruction_operands (opcode_of i)).items i)

  plain_can : (op : ℕ) → InstrFits (instrs.Plain op) → CanSpell k (instrs.Plain op)
  unfolding instruction_operands
  plain_can op fits = plain_form op (form_at op) fits

  one_can : (op n : ℕ) → InstrFits (instrs.One op n) → CanSpell k (instrs.One op n)
  unfolding instruction_operands
  one_can op n fits =
      let e = one_form op n (form_at op) fits in
      let there = subst (λ (o : Option Form). (operands_by_form op o).fits (instrs.One op n)) e fits in
      (e, below30 n there.0.0.1)

  two_can : (op n m : ℕ) → InstrFits (instrs.Two op n m) → CanSpell k (instrs.Two op n m)
  unfolding instruction_operands
  two_can op n m fits =
      let e = two_form op n m (form_at op) fits in
      let there = subst (λ (o : Option Form). (operands_by_form op o).fits (instrs.Two op n m)) e fits in
      (e, below30 n there.0.0.1, below30 m there.0.1.0.1)

  branch_can : (op t : ℕ) → InstrFits (instrs.Branch op t) → InstrUpTo (instrs.Branch op t) → CanSpell k (instrs.Branch op t)
  unfolding instruction_operands target
  branch_can op t fits up =
      let e = branch_form op t (form_at op) fits in
      let there = subst (λ (o : Option Form). AllByRecursion (TargetUpTo k) ((operands_by_form op o).items (instrs.Branch op t))) e up in
      (e, there.0)

  each_up : (ts : List ℕ) → AllByRecursion (TargetUpTo k) (several_items target ts) → AllUpTo k ts
  unfolding target
  each_up [] up = tt
  each_up (t ∷ ts) up = (up.0, each_up ts up.1)

  cases_of : Instr → List ℕ
  cases_of (instrs.Switch t ts) = ts
  cases_of _ = []

  switch_can : (t : ℕ) (ts : List ℕ) → InstrFits (instrs.Switch t ts) → InstrUpTo (instrs.Switch t ts) → instr_len (instrs.Switch t ts) < 2 ^ 23 → CanSpell k (instrs.Switch t ts)
  unfolding instruction_operands form_at info_at target cases_of
  switch_can t [] fits up short = absurd (let e : 0 ∷ [] ≡ [] = ap cases_of fits.1 in cc)
  switch_can t (c ∷ cs) fits up short = (up.0, (up.1.0, each_up cs up.1.1), omega arith, omega arith)

  byte_can : (z : ℤ) → InstrFits (instrs.Byte z) → CanSpell k (instrs.Byte z)
  unfolding instruction_operands form_at info_at any_signed
  byte_can z fits = let both = and_true (int_le (negsuc 127) z) (int_le z (pos 127)) fits.0.0.1 in let a = both.0 in let b = both.1 in (omega (arith, ints), omega (arith, ints))

  short_can : (z : ℤ) → InstrFits (instrs.Short z) → CanSpell k (instrs.Short z)
  unfolding instruction_operands form_at info_at any_signed
  short_can z fits = let both = and_true (int_le (negsuc 32767) z) (int_le z (pos 32767)) fits.0.0.1 in let a = both.0 in let b = both.1 in (omega (arith, ints), omega (arith, ints))

  debug_can : (kind name reg extra : ℕ) → InstrFits (instrs.Debug kind name reg extra) → CanSpell k (instrs.Debug kind name reg extra)
  unfolding instruction_operands form_at info_at
  debug_can kind name reg extra fits = (below30 name fits.0.1.0.1, below30 extra fits.0.1.1.1.0.1)

  instr_can : (i : Instr) → InstrFits i → InstrUpTo i → instr_len i < 2 ^ 23 → CanSpell k i
  instr_can (instrs.Plain op) fits up short = plain_can op fits
  instr_can (instrs.One op n) fits up short = one_can op n fits
  instr_can (instrs.Two op n m) fits up short = two_can op n m fits
  instr_can (instrs.Branch op t) fits up short = branch_can op t fits up
  instr_can (instrs.Switch t ts) fits up short = switch_can t ts fits up short
  instr_can (instrs.Byte z) fits up short = byte_can z fits
  instr_can (instrs.Short z) fits up short = short_can z fits
  instr_can (instrs.ScopeObject n) fits up short = tt
  instr_can (instrs.Debug kind name reg extra) fits up short = debug_can kind name reg extra fits

-- ---- lines that only skip

abbrev IsSkipping : Shown → Type 0
IsSkipping (Line w items) = label_step w ≡ Skips
IsSkipping (Labels n) = ⊥

skipping_inner : (lines : List Shown) → AllByRecursion IsSkipping lines → AllByRecursion IsInner lines
skipping_inner [] all = tt
skipping_inner (Line w items ∷ lines) all = (inl all.0, skipping_inner lines all.1)
skipping_inner (Labels n ∷ lines) all = absurd all.0

skipping_none : (lines : List Shown) → AllByRecursion IsSkipping lines → count_of lines ≡ 0
skipping_none [] all = refl
skipping_none (Line w items ∷ lines) all = let a = skipping_none lines all.1 in ap (λ (t : Step). by_step t 0 0 1 0 + count_of lines) all.0 ∙ omega (arith, a)
skipping_none (Labels n ∷ lines) all = absurd all.0

two_all : (P : Shown → Type 0) (a b : List Shown) → AllByRecursion P a → AllByRecursion P b → AllByRecursion P (a ++ b)
two_all P [] b p q = q
two_all P (x ∷ a) b p q = (p.0, two_all P a b p.1 q)

front_all : (P : Shown → Type 0) (a b : List Shown) → AllByRecursion P (a ++ b) → AllByRecursion P a × AllByRecursion P b
front_all P [] b all = (tt, all)
front_all P (x ∷ a) b all = let more = front_all P a b all.1 in ((all.0, more.0), more.1)

two_count : (a b : List Shown) → count_of (a ++ b) ≡ count_of a + count_of b
two_count [] b = omega arith
two_count (Line w items ∷ a) b = let more = two_count a b in omega (arith, more)
two_count (Labels n ∷ a) b = two_count a b

flat_skips : {A : Type 0} (faults : Faults) (w : Word) (p : Operands A) (n : ℕ) → label_step w ≡ Skips → (xs : List A) → AllByRecursion IsSkipping ((flat_lines faults w p n).shows xs)
flat_skips faults w p n e [] = tt
flat_skips faults w p n e (x ∷ xs) = (e, flat_skips faults w p n e xs)

module _ (v : Abc) where
  abbrev s : Sizes
  s = sizes_of v

  abbrev i : ℕ
  i = length v.instances

  abbrev fs : Faults
  fs = file.faults s i

  traits_skip : (ts : List TraitInfo) → AllByRecursion IsSkipping ((file.traits s i fs 0).shows ts)
  unfolding file.traits
  traits_skip [] = tt
  traits_skip (t ∷ ts) =
      (refl, two_all IsSkipping ((flat_lines fs words.TraitMetadata (trait_metadata_line s) 0).shows t.metadata) ((file.traits s i fs 0).shows ts) (flat_skips fs words.TraitMetadata (trait_metadata_line s) 0 refl t.metadata) (traits_skip ts))

  rest_skips : (b : Body) → AllByRecursion IsSkipping (rest_of v b)
  rest_skips b = two_all IsSkipping (catches_of v b) ((file.traits s i fs 0).shows b.traits) (flat_skips fs words.Catch (catch_line s) 0 refl b.handlers) (traits_skip b.traits)

  code_inner : (j : ℕ) (is : List Instr) → AllByRecursion IsInner (Labels j ∷ code_after (file.instructions s i) j is)
  code_inner j [] = (tt, tt)
  code_inner j (x ∷ is) = (tt, (inr refl, code_inner (j + 1) is))

  code_count : (j : ℕ) (is : List Instr) → count_of (Labels j ∷ code_after (file.instructions s i) j is) ≡ length is
  code_count j [] = refl
  code_count j (x ∷ is) = let more = code_count (j + 1) is in omega (arith, more)

  inner : (b : Body) → AllByRecursion IsInner (code_of v b ++ rest_of v b)
  inner b = two_all IsInner (code_of v b) (rest_of v b) (code_inner 0 b.code) (skipping_inner (rest_of v b) (rest_skips b))

  count_is : (b : Body) → count_of (code_of v b ++ rest_of v b) ≡ length b.code
  count_is b = let a = two_count (code_of v b) (rest_of v b) in let c = code_count 0 b.code in let d = skipping_none (rest_of v b) (rest_skips b) in omega (arith, a, c, d)

  -- ---- one body

  code_can : (k j : ℕ) (is : List Instr) → AllFit (file.instructions s i) is → AllByRecursion (LineUpTo k) (Labels j ∷ code_after (file.instructions s i) j is) → code_len is < 2 ^ 23 → AllCanSpell k is
  code_can k j [] fits up short = tt
  code_can k j (x ∷ is) fits up short = (instr_can k x fits.0 up.1.0 (omega arith), code_can k (j + 1) is fits.1 up.1.1 (omega arith))

  within : (k : ℕ) (h : Handler) → AllByRecursion (TargetUpTo k) ((catch_line s).items h) → IsHandlerWithin k h
  unfolding catch_line target any_number
  within k h up = record { from = up.0; to = up.1.0; target = up.1.1.0 }

  all_within : (k : ℕ) (hs : List Handler) → AllByRecursion (LineUpTo k) ((flat_lines fs words.Catch (catch_line s) 0).shows hs) → AllByRecursion (IsHandlerWithin k) hs
  all_within k [] up = tt
  all_within k (h ∷ hs) up = (within k h up.0, all_within k hs up.1)

  body_ready : (b : Body) → nat_le (2 ^ 23) (code_len b.code) ≡ false → AllFit (file.instructions s i) b.code → AllByRecursion (LineUpTo (length b.code)) (code_of v b ++ rest_of v b) → IsReadyBody b
  body_ready b agrees fits up =
      let k = length b.code in
      let parts = front_all (LineUpTo k) (code_of v b) (rest_of v b) up in
      let more = front_all (LineUpTo k) (catches_of v b) ((file.traits s i fs 0).shows b.traits) parts.1 in
      let short : code_len b.code < 2 ^ 23 = grind (arith, nat_tests) in
      record {
        code = record { can = code_can k 0 b.code fits parts.0 short; short = short };
        places = All-from_recursion (IsHandlerWithin k) b.handlers (all_within k b.handlers more.0);
      }

  -- ---- all bodies

  ends : (bs : List Body) → EndsBody (flat_map (plain_body v) bs)
  ends [] = tt
  ends (b ∷ bs) = refl

  bodies_ready : (bs : List Body) → (file.body_lines s i 0).fits bs → (rows : List Row) → Behind rows → Match shows_operands rows (flat_map (plain_body v) bs) → AllByRecursion IsReadyBody bs
  unfolding file.body_lines file.body_below
  bodies_ready [] fits rows behind match = tt
  bodies_ready (b ∷ bs) fits rows behind match =
      let more = flat_map (plain_body v) bs in
      let lines = code_of v b ++ rest_of v b in
      let up = body_below words.Body refl ((body_line s).items (body_head s i b)) lines more (inner b) (ends bs) rows behind match in
      let next = behind_lines (plain_body v b) more rows behind match in
      (body_ready b fits.0.1 fits.1.0 (subst (λ (k : ℕ). AllByRecursion (LineUpTo k) lines) (count_is b) up), bodies_ready bs fits.2 next.0 next.1 next.2)

  table_bodies : (file_rows v).fits (outline v) → (file.body_lines s i 0).fits v.bodies
  unfolding file.file
  table_bodies fits = fits.1.1.1.1.1.1

  text_behind : (text : List ℕ) → Behind (rows_of text)
  unfolding rows_of
  text_behind text = record { labels = []; set_ = []; taken = []; raws = raws_from 1 (lines_in text); is = refl }

  pub text_ready : (text : List ℕ) → IsAssemblyOf text v → All IsReadyBody v.bodies
  text_ready text is =
      let rows = rows_of text in
      let match = subst (λ (l : List Shown). Match shows_operands rows l) (plain_lines v) is.listed.shown in
      let next = behind_lines (quiet_lines v) (flat_map (plain_body v) v.bodies) rows (text_behind text) match in
      All-from_recursion IsReadyBody v.bodies (bodies_ready v.bodies (table_bodies is.listed.fits) next.0 next.1 next.2)
