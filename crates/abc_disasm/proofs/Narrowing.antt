-- A file without parameterised names and `applytype` has the text that it had before there were any.
use Rattle.std.proofs.Common.{◌≡◌, ℕ, ◌+◌, inl, inr, true, false, nat_eq, not, List, [], ◌∷◌, ◌++◌, codes, map, Some, refl, sym, ap, ◌∙◌}
use Rattle.std.specs.List.{All, AllByRecursion, filter, flat_map}
use Rattle.std.specs.declared.option.Option.{Option}
use Rattle.std.proofs.lemmas.List.Elements.{recursion_from_All}
use Rattle.abc_disasm.specs.Texts as texts
use Rattle.abc_disasm.specs.Texts.{body_targets, code_text, definitions_text, instr_text, name_text, pools_text, version_text, whole_body, whole_text}
use Rattle.abc_disasm.proofs.Rendering.{listing_is}
use Rattle.abc_disasm.proofs.Shown.{name_line_is}
use Rattle.abc_file.specs.Narrow.{HasNoApplytype, IsNarrow, has_params, is_applytype}
use Rattle.abc_text_lines.specs.Kinds.{multiname_kind_operand, multiname_word}
use Rattle.abc_text_lines.specs.Lineforms.{instruction_operands, kind_in, multiname_operands, name_line, opcode_of}
use Rattle.abc_text_lines.specs.Listing.{comment_of, listing, name_comment, string_of_name, token_of}
use Rattle.abc_text_lines.specs.Texts.{or_else}
use Rattle.abc_file_types.specs.declared.code.Body.{Body}
use Rattle.abc_file_types.specs.declared.code.Instr.{Instr}
use Rattle.abc_file_types.specs.declared.code.Instr.TheVariants as instrs
use Rattle.abc_file_types.specs.declared.names.Multiname.{Multiname}
use Rattle.abc_file_types.specs.declared.names.Multiname.TheVariants as names
use Rattle.abc_file_types.specs.declared.opcodes.Form.{Form}
use Rattle.abc_file_types.specs.declared.opcodes.Form.TheVariants as forms
use Rattle.abc_file_types.specs.declared.tables.Abc.{Abc}
use Rattle.abc_file_types.specs.Bodies.{IsReadyBody}
use Rattle.abc_file_types.specs.Classes.{sizes_of}
use Rattle.abc_file_types.specs.Opcodes as opcodes
use Rattle.abc_file_types.specs.Opcodes.{form_at, info_at, name_at, names_of_opcodes}
use Rattle.abc_file_types.specs.Ready.{AllCanSpell, CanSpell}
use Rattle.abc_text_lines.specs.declared.word.Word.TheVariants as words
use Rattle.abc_text_lines.specs.Tokens.{Bare}
use Rattle.abc_text_lines.specs.Writing.{written_line}
use Rattle.abc_text_lines.proofs.Bools.{split_bool}
use Rattle.abc_text_lines.proofs.Scans.{eq_is}
use Rattle.abc_disasm.specs.Narrow.{kind_word, narrow_body, narrow_code, narrow_instr, narrow_listing, narrow_name, narrow_words}

-- ---- names

word_is : (m : Multiname) → has_params m ≡ false → kind_word narrow_words (kind_in m) ≡ multiname_word (kind_in m)
word_is (names.QName true ns name) e = refl
word_is (names.QName false ns name) e = refl
word_is (names.Rt true name) e = refl
word_is (names.Rt false name) e = refl
word_is (names.RtL true) e = refl
word_is (names.RtL false) e = refl
word_is (names.Multi true name set) e = refl
word_is (names.Multi false name set) e = refl
word_is (names.MultiL true set) e = refl
word_is (names.MultiL false set) e = refl
word_is (names.TypeName base params) e = absurd cc

-- ---- instructions

is_applytype_form : (form : Form) → form_at 0x53 ≡ Some form → form ≡ forms.One
unfolding form_at info_at
is_applytype_form form e = cc

other_form : (op : ℕ) (form : Form) → ¬ (form ≡ forms.One) → form_at op ≡ Some form → nat_eq op 0x53 ≡ false
other_form op form other e =
    elim (split_bool (nat_eq op 0x53)) [
      | inl same ↦ absurd (other (is_applytype_form form (ap form_at (sym (eq_is op 0x53 same)) ∙ e)))
      | inr differ ↦ differ
    ]

other_opcode : (k : ℕ) (i : Instr) → CanSpell k i → is_applytype i ≡ false → nat_eq (opcode_of i) 0x53 ≡ false
other_opcode k (instrs.Plain op) can e = other_form op forms.Plain (λ h. cc) can
other_opcode k (instrs.One op n) can e = e
other_opcode k (instrs.Two op n m) can e = other_form op forms.Two (λ h. cc) can.0
other_opcode k (instrs.Branch op t) can e = other_form op forms.Branch (λ h. cc) can.0
other_opcode k (instrs.Switch t ts) can e = refl
other_opcode k (instrs.Byte z) can e = refl
other_opcode k (instrs.Short z) can e = refl
other_opcode k (instrs.ScopeObject n) can e = refl
other_opcode k (instrs.Debug kind name reg extra) can e = refl

-- a row that is left out is another opcode's
left_out : (op : ℕ) (rows : List (ℕ × List ℕ)) → nat_eq op 0x53 ≡ false → opcodes.name_in (filter (λ row. not (nat_eq row.0 0x53)) rows) op ≡ opcodes.name_in rows op
left_out op [] e = refl
left_out op (row ∷ rows) e =
    let more = left_out op rows e in
    elim (split_bool (nat_eq row.0 0x53)) [
      | inl out ↦ let differ : nat_eq op row.0 ≡ false = ap (nat_eq op) (eq_is row.0 0x53 out) ∙ e in rw (out, differ) more
      | inr in_ ↦ elim (split_bool (nat_eq op row.0)) [ inl same ↦ rw (in_, same) refl | inr differ ↦ rw (in_, differ) more ]
    ]

module _ (v : Abc) where
  name_same : (m : Multiname) → has_params m ≡ false → narrow_name v m ≡ name_text v m
  unfolding name_line multiname_kind_operand
  name_same m e =
      let fields = (multiname_operands (sizes_of v) (kind_in m)).items m in
      ap (λ (w : List ℕ). written_line (Bare (codes "name") ∷ Bare w ∷ map token_of fields) ++ (name_comment v (string_of_name (Some m)) ++ 0x0a ∷ [])) (word_is m e)
      ∙ ap (λ (n : ℕ). written_line (Bare (codes "name") ∷ Bare (multiname_word (kind_in m)) ∷ map token_of fields) ++ (name_comment v n ++ 0x0a ∷ [])) (sym (name_line_is (sizes_of v) m))

  names_same : (ms : List Multiname) → AllByRecursion (λ m. has_params m ≡ false) ms → flat_map (narrow_name v) ms ≡ flat_map (name_text v) ms
  names_same [] all = refl
  names_same (m ∷ ms) all = ap (λ (l : List ℕ). l ++ flat_map (narrow_name v) ms) (name_same m all.0) ∙ ap (λ (l : List ℕ). name_text v m ++ l) (names_same ms all.1)

  instr_same : (k : ℕ) (i : Instr) → CanSpell k i → is_applytype i ≡ false → narrow_instr v i ≡ instr_text v i
  unfolding name_at
  instr_same k i can e =
      let items = (instruction_operands (opcode_of i)).items i in
      ap (λ (o : Option (List ℕ)). written_line (Bare (or_else o []) ∷ map token_of items) ++ (comment_of v (words.Instruction (opcode_of i)) items ++ 0x0a ∷ [])) (left_out (opcode_of i) names_of_opcodes (other_opcode k i can e))

  code_same : (k : ℕ) (named : List ℕ) (n : ℕ) (is : List Instr) → AllCanSpell k is → AllByRecursion (λ i. is_applytype i ≡ false) is → narrow_code v named n is ≡ code_text v named n is
  code_same k named n [] can all = refl
  code_same k named n (i ∷ is) can all =
      ap (λ (l : List ℕ). texts.label_if named n ++ (l ++ narrow_code v named (n + 1) is)) (instr_same k i can.0 all.0)
      ∙ ap (λ (l : List ℕ). texts.label_if named n ++ (instr_text v i ++ l)) (code_same k named (n + 1) is can.1 all.1)

  bodies_same : (bs : List Body) → AllByRecursion IsReadyBody bs → AllByRecursion HasNoApplytype bs → flat_map (narrow_body v) bs ≡ flat_map (whole_body v) bs
  bodies_same [] ready all = refl
  bodies_same (b ∷ bs) ready all =
      let behind = flat_map (texts.handler_text v) b.handlers ++ flat_map (texts.trait_text v) b.traits in
      let code = code_same _ (body_targets b) 0 b.code ready.0.code.can (recursion_from_All (λ i. is_applytype i ≡ false) b.code all.0) in
      ap (λ (l : List ℕ). (texts.body_head_text v b ++ (l ++ behind)) ++ flat_map (narrow_body v) bs) code ∙ ap (λ (l : List ℕ). whole_body v b ++ l) (bodies_same bs ready.1 all.1)

  pub narrow_same : All IsReadyBody v.bodies → IsNarrow v → narrow_listing v ≡ listing v
  unfolding narrow_listing
  narrow_same ready is =
      let n = names_same v.names (recursion_from_All (λ m. has_params m ≡ false) v.names is.names) in
      let b = bodies_same v.bodies (recursion_from_All IsReadyBody v.bodies ready) (recursion_from_All HasNoApplytype v.bodies is.code) in
      let rest = definitions_text v ++ flat_map (narrow_body v) v.bodies in
      ap (λ (l : List ℕ). version_text ++ ((flat_map (texts.int_text v) v.ints ++ (flat_map (texts.uint_text v) v.uints ++ (flat_map (texts.double_text v) v.doubles ++ (flat_map (texts.string_text v) v.strings ++ (flat_map (texts.namespace_text v) v.namespaces ++ (flat_map (texts.set_text v) v.sets ++ l)))))) ++ rest)) n
      ∙ ap (λ (l : List ℕ). version_text ++ (pools_text v ++ (definitions_text v ++ l))) b
      ∙ sym (listing_is v ready)
