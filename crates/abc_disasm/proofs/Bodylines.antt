-- The lines of bodies are read back as those of the bodies.
use Rattle.std.proofs.Common.{◌≡◌, ℕ, zero, suc, ◌+◌, ◌<◌, ◌≤◌, ◌^◌, true, false, List, [], ◌∷◌, ◌++◌, decimal, length, map, refl, sym, ap, subst, ◌∙◌, append_assoc, arith}
use Rattle.std.specs.List.{AllByRecursion, AllPairs, flat_map}
use Rattle.std.proofs.lemmas.List.Elements.{recursion_from_All}
use Rattle.abc_text_lines.specs.declared.word.Word.TheVariants as words
use Rattle.abc_file_types.specs.declared.code.Body.{Body}
use Rattle.abc_file_types.specs.declared.code.Handler.{Handler}
use Rattle.abc_file_types.specs.declared.code.Instr.{Instr}
use Rattle.abc_file_types.specs.declared.code.Instr.TheVariants as instrs
use Rattle.abc_file_types.specs.declared.tables.Abc.{Abc}
use Rattle.abc_file_types.specs.declared.tables.Sizes.{Sizes}
use Rattle.abc_file_types.specs.Bodies.{IsReadyBody, IsHandlerWithin}
use Rattle.abc_file_types.specs.Classes.{sizes_of}
use Rattle.abc_file_types.specs.CodeBytes.{code_len, instr_len}
use Rattle.abc_file_types.specs.Ready.{AllCanSpell}
use Rattle.abc_tables.specs.Distinct.{Differ}
use Rattle.abc_tables.specs.Fitting.{FitsBody, HasNames}
use Rattle.abc_tables.proofs.BodiesFit.{body_fits}
use Rattle.abc_tables.proofs.Combined.{position_fits}
use Rattle.abc_text_lines.specs.Law.{IsLine, Match}
use Rattle.abc_text_lines.specs.Lines.{Label, Shown, Labels}
use Rattle.abc_text_lines.specs.Operands.{any_number}
use Rattle.abc_text_lines.specs.Rows.{Faults, code_after}
use Rattle.abc_text_lines.specs.Wordlines.{among, flat_lines, shows_operands}
use Rattle.abc_text_lines.specs.File as file
use Rattle.abc_text_lines.specs.Lineforms.{body_line, catch_line}
use Rattle.abc_text_lines.specs.Listing.{lines_of_body, targets_of_line, token_of}
use Rattle.abc_text_lines.specs.Texts.{is_text_among, is_taken, labels_set, method_named, row_of_raw, rows_of_lines}
use Rattle.abc_disasm.specs.Bytes.{HasByteFields}
use Rattle.abc_disasm.proofs.Bodyparts.{body_lines_are, catches_of, code_of, first_of, rest_of}
use Rattle.abc_disasm.proofs.Fields.{catch_in}
use Rattle.abc_disasm.proofs.Fitting.{body_head, body_line_in, both_all, traits_in}
use Rattle.abc_disasm.proofs.ReadForms.{UpTo, body-shown, catch_shown, instr_head, instr_shown}
use Rattle.abc_disasm.proofs.ReadHeads.{line_head}
use Rattle.abc_disasm.proofs.Items.{items_tokens}
use Rattle.abc_disasm.proofs.Matching.{AreSet, IsStill, decimals_differ, found, kept_still, match_code, match_still, named_stand}
use Rattle.abc_disasm.proofs.Readback.{AllStand, front_stand, kept, kept-append, kept_stand, raw_line, raws, stand_more, two_stand}
use Rattle.abc_disasm.proofs.Standing.{AllSit, sit_stand, sit_still, two_sit}
use Rattle.abc_disasm.proofs.Tables.{traits-sit}

-- ---- different methods

-- each body has another method than those behind it
abbrev pub AllDiffer : List Body → Type 0
AllDiffer [] = Unit {0}
AllDiffer (b ∷ bs) = AllByRecursion (Differ b) bs × AllDiffer bs

pub all_differ : (bs : List Body) → AllPairs Differ bs → AllDiffer bs
all_differ [] pairs = tt
all_differ (b ∷ bs) pairs = (recursion_from_All (Differ b) bs (λ k d lt. pairs zero (suc k) d (omega arith) (omega arith)), all_differ bs (λ i j d lt lt2. pairs (suc i) (suc j) d (omega arith) (omega arith)))

-- ---- how many instructions

one_long : (i : Instr) → 1 ≤ instr_len i
one_long (instrs.Plain op) = omega arith
one_long (instrs.One op x) = omega arith
one_long (instrs.Two op x y) = omega arith
one_long (instrs.Branch op t) = omega arith
one_long (instrs.Switch t ts) = omega arith
one_long (instrs.Byte z) = omega arith
one_long (instrs.Short z) = omega arith
one_long (instrs.ScopeObject x) = omega arith
one_long (instrs.Debug kind name reg extra) = omega arith

as_long : (is : List Instr) → length is ≤ code_len is
as_long [] = omega arith
as_long (i ∷ is) = omega (arith, one_long i, as_long is)

few_instructions : (b : Body) → IsReadyBody b → length b.code < 2 ^ 64
few_instructions b ready = omega (arith, as_long b.code, ready.code.short)

-- ---- a body's lines

module _ (v : Abc) where
  abbrev s : Sizes
  s = sizes_of v

  abbrev i : ℕ
  i = length v.instances

  abbrev fs : Faults
  fs = file.faults s i

  -- What is needed of the lines of a body.
  pub record BodyStands (b : Body) : Type 0 where
    short : length b.code < 2 ^ 64
    method : b.method < 2 ^ 64
    stand : AllStand (UpTo (length b.code)) (first_of v b ∷ (code_of v b ++ rest_of v b))
    still : AllByRecursion IsStill (rest_of v b)

  code_stands : (k j n : ℕ) (small : k < 2 ^ 64) → j + n ≤ k → (is : List Instr) → length is ≡ n → AllCanSpell k is → AllByRecursion HasByteFields is → AllStand (UpTo k) (Labels j ∷ code_after (file.instructions s i) j is)
  code_stands k j n small le [] e can bytes = (omega arith, tt)
  code_stands k j n small le (x ∷ is) e can bytes = (omega arith, ((instr_head k x can.0, instr_shown k small x can.0 bytes.0), code_stands k (j + 1) (length is) small (omega arith) is refl can.1 bytes.1))

  catches_sit : (k : ℕ) → k < 2 ^ 64 → (hs : List Handler) → AllByRecursion (λ h. IsHandlerWithin k h × HasNames s h) hs → AllSit (UpTo k) ((flat_lines fs words.Catch (catch_line s) 0).shows hs)
  catches_sit k small [] all = tt
  catches_sit k small (h ∷ hs) all =
      let w = all.0.0 in
      let a = w.from in
      let b = w.to in
      let c = w.target in
      ((refl, catch_shown (UpTo k) s h (omega arith, a) (omega arith, b) (omega arith, c) (catch_in s h all.0.1)), catches_sit k small hs all.1)

  body_stands : (b : Body) → FitsBody s b → AllByRecursion HasByteFields b.code → BodyStands b
  body_stands b fits bytes =
      let h = (body_fits s b).0 fits in
      let k = length b.code in
      let small = few_instructions b h.2 in
      let m = ((position_fits s.methods b.method).0 h.0).1 in
      let both = both_all (IsHandlerWithin k) (HasNames s) b.handlers (recursion_from_All (IsHandlerWithin k) b.handlers h.2.places) (recursion_from_All (HasNames s) b.handlers h.4) in
      let sits = two_sit (UpTo k) (catches_of v b) ((file.traits s i fs 0).shows b.traits) (catches_sit k small b.handlers both) (traits-sit (UpTo k) s i fs 0 b.traits (traits_in s i fs 0 b.traits h.5)) in
      record {
        short = small;
        method = omega arith;
        stand = (
          (line_head words.Body refl, body-shown (UpTo k) s (body_head s i b) (body_line_in s i b fits)),
          two_stand (UpTo k) (code_of v b) (rest_of v b) (code_stands k 0 k small (omega arith) b.code refl h.2.code.can bytes) (sit_stand (UpTo k) (rest_of v b) sits),
        );
        still = sit_still (UpTo k) (rest_of v b) sits;
      }

  pub bodies_stand : (bs : List Body) → AllByRecursion (FitsBody s) bs → AllByRecursion (λ b. AllByRecursion HasByteFields b.code) bs → AllByRecursion BodyStands bs
  bodies_stand [] fits bytes = tt
  bodies_stand (b ∷ bs) fits bytes = (body_stands b fits.0 bytes.0, bodies_stand bs fits.1 bytes.1)

  -- ---- one body

  -- the numbers that a body names, and its lines without the labels that are not named
  abbrev pub named_of : Body → List ℕ
  named_of b = flat_map targets_of_line (lines_of_body v b)

  abbrev pub kept_body : Body → List Shown
  kept_body b = kept (named_of b) (lines_of_body v b)

  any_stands : (b : Body) → BodyStands b → AllStand (λ n. Unit {0}) (kept_body b)
  any_stands b is =
      subst (λ (l : List Shown). AllStand (λ n. Unit {0}) (kept (named_of b) l)) (sym (body_lines_are v b))
      (kept_stand (λ n. Unit {0}) (named_of b) (first_of v b ∷ (code_of v b ++ rest_of v b)) (stand_more (UpTo (length b.code)) (λ n. Unit {0}) (λ n h. tt) (first_of v b ∷ (code_of v b ++ rest_of v b)) is.stand))

  pub bodies_written : (bs : List Body) → AllByRecursion BodyStands bs → AllStand (λ n. Unit {0}) (flat_map kept_body bs)
  bodies_written [] all = tt
  bodies_written (b ∷ bs) all = two_stand (λ n. Unit {0}) (kept_body b) (flat_map kept_body bs) (any_stands b all.0) (bodies_written bs all.1)

  method_token : (b : Body) → method_named (map token_of ((body_line s).items (body_head s i b))) ≡ decimal b.method ∷ []
  unfolding body_line any_number
  method_token b = refl

  -- where a number of the body's instructions is among the numbers that it names
  abbrev Named : List ℕ → Body → ℕ → Type 0
  Named named b n = (n ≤ length b.code) × (among n named ≡ true)

  match_first : (named : List ℕ) (b : Body) (is : BodyStands b) → AllStand (Named named b) (first_of v b ∷ (code_of v b ++ rest_of v b)) → (taken : List (List ℕ)) → is_text_among (decimal b.method) taken ≡ false → (more rest : List Shown)
      → ((k : ℕ) (labels : List Label) (set : List (List ℕ)) → Match shows_operands (rows_of_lines labels set (decimal b.method ∷ taken) (raws k more)) rest)
      → (k : ℕ) (labels : List Label) (set : List (List ℕ)) → Match shows_operands (rows_of_lines labels set taken (raws k (first_of v b ∷ (kept named (code_of v b) ++ (rest_of v b ++ more))))) (first_of v b ∷ (code_of v b ++ (rest_of v b ++ rest)))
  match_first named b is stand taken free more rest h k labels set =
      let items = (body_line s).items (body_head s i b) in
      let raw = raw_line k words.Body items in
      let others = raws (k + 1) (kept named (code_of v b) ++ (rest_of v b ++ more)) in
      let here = labels_set 0 others in
      let taken2 = method_named raw.operands ++ taken in
      let lines = front_stand (Named named b) (code_of v b) (rest_of v b) stand.1 in
      let are : AreSet (Named named b) here = λ n h. found (file.instructions s i) (λ x. refl) named b.code 0 (k + 1) n (rest_of v b ++ more) (omega arith) (omega (arith, h.0)) (omega (arith, h.0, is.short)) h.1 in
      let line : IsLine shows_operands (row_of_raw raw here (is_taken (method_named raw.operands) taken)) words.Body items =
      record { word = refl; whole = refl; operands = items_tokens (Named named b) here are items stand.0.1; once = ap (λ (ms : List (List ℕ)). is_taken ms taken) (method_token b) ∙ free } in
      let on : (k : ℕ) (set : List (List ℕ)) → Match shows_operands (rows_of_lines here set taken2 (raws k more)) rest =
      λ k set. subst (λ (ms : List (List ℕ)). Match shows_operands (rows_of_lines here set (ms ++ taken) (raws k more)) rest) (sym (method_token b)) (h k here set) in (
        row_of_raw raw here (is_taken (method_named raw.operands) taken),
        rows_of_lines here [] taken2 others,
        refl,
        line,
        match_code (file.instructions s i) (λ x. refl) named (Named named b) here taken2 are b.code 0 (omega (arith, is.short)) lines.0 (rest_of v b ++ more) (rest_of v b ++ rest)
            (λ k set. match_still (Named named b) here set taken2 are (rest_of v b) lines.1 is.still more rest (λ k. on k set) k) (k + 1) [] (λ n le lt. refl),
      )

  kept_parts : (named : List ℕ) (b : Body) (more : List Shown) → AllByRecursion IsStill (rest_of v b) → kept named (first_of v b ∷ (code_of v b ++ rest_of v b)) ++ more ≡ first_of v b ∷ (kept named (code_of v b) ++ (rest_of v b ++ more))
  kept_parts named b more still =
      ap (λ (l : List Shown). first_of v b ∷ l)
      (ap (λ (l : List Shown). l ++ more) (kept-append named (code_of v b) (rest_of v b) ∙ ap (λ (l : List Shown). kept named (code_of v b) ++ l) (kept_still named (rest_of v b) still)) ∙ append_assoc (kept named (code_of v b)) (rest_of v b) more)

  match_body : (b : Body) → BodyStands b → (taken : List (List ℕ)) → is_text_among (decimal b.method) taken ≡ false → (more rest : List Shown)
      → ((k : ℕ) (labels : List Label) (set : List (List ℕ)) → Match shows_operands (rows_of_lines labels set (decimal b.method ∷ taken) (raws k more)) rest)
      → (k : ℕ) (labels : List Label) (set : List (List ℕ)) → Match shows_operands (rows_of_lines labels set taken (raws k (kept_body b ++ more))) (lines_of_body v b ++ rest)
  match_body b is taken free more rest h k labels set =
      let plain = first_of v b ∷ (code_of v b ++ rest_of v b) in
      let named = named_of b in
      let stand : AllStand (Named named b) plain = subst (λ (l : List Shown). AllStand (λ n. (n ≤ length b.code) × (among n (flat_map targets_of_line l) ≡ true)) plain) (sym (body_lines_are v b)) (named_stand (UpTo (length b.code)) plain is.stand) in
      let there = match_first named b is stand taken free more rest h k labels set in
      let front : kept_body b ++ more ≡ first_of v b ∷ (kept named (code_of v b) ++ (rest_of v b ++ more)) = ap (λ (l : List Shown). kept named l ++ more) (body_lines_are v b) ∙ kept_parts named b more is.still in
      let back : lines_of_body v b ++ rest ≡ first_of v b ∷ (code_of v b ++ (rest_of v b ++ rest)) = ap (λ (l : List Shown). l ++ rest) (body_lines_are v b) ∙ ap (λ (l : List Shown). first_of v b ∷ l) (append_assoc (code_of v b) (rest_of v b) rest) in
      subst (λ (l : List Shown). Match shows_operands (rows_of_lines labels set taken (raws k (kept_body b ++ more))) l) (sym back)
      (subst (λ (l : List Shown). Match shows_operands (rows_of_lines labels set taken (raws k l)) (first_of v b ∷ (code_of v b ++ (rest_of v b ++ rest)))) (sym front) there)

  -- ---- all bodies

  -- no method of these bodies is taken
  abbrev AreFree : List (List ℕ) → List Body → Type 0
  AreFree taken bs = AllByRecursion (λ b. is_text_among (decimal b.method) taken ≡ false) bs

  free_more : (m : ℕ) (taken : List (List ℕ)) (b : Body) → m < 2 ^ 64 → b.method < 2 ^ 64 → ¬ (m ≡ b.method) → is_text_among (decimal b.method) taken ≡ false → is_text_among (decimal b.method) (decimal m ∷ taken) ≡ false
  free_more m taken b small lt differ free = let no_ = decimals_differ m b.method small lt differ in rw no_ free

  free_next : (b : Body) (taken : List (List ℕ)) (bs : List Body) → b.method < 2 ^ 64 → AllByRecursion BodyStands bs → AllByRecursion (Differ b) bs → AreFree taken bs → AreFree (decimal b.method ∷ taken) bs
  free_next b taken [] small all differ free = tt
  free_next b taken (c ∷ bs) small all differ free = (free_more b.method taken c small all.0.method differ.0 free.0, free_next b taken bs small all.1 differ.1 free.1)

  pub match_bodies : (bs : List Body) → AllByRecursion BodyStands bs → AllDiffer bs → (taken : List (List ℕ)) → AreFree taken bs
      → (k : ℕ) (labels : List Label) (set : List (List ℕ)) → Match shows_operands (rows_of_lines labels set taken (raws k (flat_map kept_body bs))) (flat_map (lines_of_body v) bs)
  match_bodies [] all differ taken free k labels set = refl
  match_bodies (b ∷ bs) all differ taken free k labels set =
      match_body b all.0 taken free.0 (flat_map kept_body bs) (flat_map (lines_of_body v) bs)
      (λ k labels set. match_bodies bs all.1 differ.1 (decimal b.method ∷ taken) (free_next b taken bs all.0.method all.1 differ.0 free.1) k labels set) k labels set

  pub none_taken : (bs : List Body) → AreFree [] bs
  none_taken [] = tt
  none_taken (b ∷ bs) = (refl, none_taken bs)
