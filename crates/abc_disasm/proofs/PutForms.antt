-- The line of each form of instruction.
use Rattle.std.proofs.Common.{◌≡◌, ℕ, ℤ, inl, inr, nat_eq, List, [], ◌∷◌, ◌++◌, codes, decimal, length, Some, None, refl, sym, ap, ◌∙◌, append_assoc, append-nil, ◌<◌, arith}
use Rattle.std.specs.Fmt.{signed_decimal}
use Rattle.std.specs.Option.{IsSome}
use Rattle.std.specs.declared.option.Option.{Option}
use Rattle.abc_text_lines.specs.declared.word.Word.TheVariants as words
use Rattle.abc_text_lines.proofs.Bools.{split_bool}
use Rattle.abc_text_lines.proofs.Scans.{eq_is}
use Rattle.abc_file_types.specs.declared.code.Instr.TheVariants as instrs
use Rattle.abc_file_types.specs.declared.opcodes.Form.{Form}
use Rattle.abc_file_types.specs.declared.opcodes.Form.TheVariants as forms
use Rattle.abc_file_types.specs.declared.opcodes.OpInfo.{OpInfo}
use Rattle.abc_file_types.specs.declared.opcodes.Pool.{Pool}
use Rattle.abc_file_types.specs.declared.tables.Abc.{Abc}
use Rattle.abc_file_types.specs.Opcodes.{form_at, form_in, form_of, info_at, name_at, name_in, names_of_opcodes, pool_of}
use Rattle.abc_text_lines.specs.Lines.{Item, Number, Signed, Target}
use Rattle.abc_text_lines.specs.Operands.{any_number, any_signed, several_items, target}
use Rattle.abc_text_lines.specs.Lineforms.{instruction_operands}
use Rattle.abc_text_lines.specs.Listing.{line_bytes, operand_comment, pool_shown, word_name}
use Rattle.abc_disasm.specs.Texts.{instr_text, labels, operand_bytes}

abbrev name_of : ℕ → List ℕ
name_of op = word_name (words.Instruction op)

abbrev end_ : List ℕ
end_ = 0x0a ∷ []

-- ---- pools

some_info : (a b : OpInfo) → (let some : OpInfo → Option OpInfo = λ x. Some x in some a ≡ some b) → a ≡ b
some_info a b e = cc

pool_is_at : (op : ℕ) (info : OpInfo) (name : Option (List ℕ)) → name_in names_of_opcodes op ≡ name → info_at op ≡ Some info → info.pool ≡ pool_of op
unfolding info_at
pool_is_at op info (Some name) h e = let s = some_info (record { form = form_of op; pool = pool_of op }) info (rw h at e) in sym (ap (λ (i : OpInfo). i.pool) s)
pool_is_at op info None h e = absurd (let none_ : None ≡ Some info = rw h at e in cc)

-- the pool that the table has for an opcode
pub pool_is : (op : ℕ) (info : OpInfo) → info_at op ≡ Some info → info.pool ≡ pool_of op
pool_is op info e = pool_is_at op info (name_in names_of_opcodes op) refl e

pub no_instruction : (op : ℕ) → info_at op ≡ None → IsSome (form_at op) → ⊥
unfolding form_at
no_instruction op none some = let no_ : IsSome (form_in None) = rw none at some in cc

debug_form : (form : Form) → form_at 0xef ≡ Some form → form ≡ forms.Debug
unfolding form_at info_at
debug_form form e = cc

-- an instruction of another form than debug's shows the pool that it names
shown_pool : (op : ℕ) (form : Form) → ¬ (form ≡ forms.Debug) → form_at op ≡ Some form → pool_shown op ≡ pool_of op
shown_pool op form other e =
    elim (split_bool (nat_eq op 0xef)) [
      | inl same ↦ absurd (other (debug_form form (ap form_at (sym (eq_is op 0xef same)) ∙ e)))
      | inr differ ↦ rw differ refl
    ]

-- ---- lines

-- a line whose operands are known, with its parts in a row
row : (v : Abc) (op : ℕ) (items : List Item) (comment : List ℕ) → (name_of op ++ operand_bytes items) ++ (comment ++ end_) ≡ name_of op ++ (operand_bytes items ++ (comment ++ end_))
row v op items comment = append_assoc (name_of op) (operand_bytes items) (comment ++ end_)

pub plain_items : (op : ℕ) → form_at op ≡ Some forms.Plain → (instruction_operands op).items (instrs.Plain op) ≡ []
unfolding instruction_operands
plain_items op e = rw e refl

pub plain_text : (v : Abc) (op : ℕ) → form_at op ≡ Some forms.Plain → instr_text v (instrs.Plain op) ≡ name_of op ++ end_
plain_text v op e = ap (λ (items : List Item). line_bytes v (words.Instruction op) items) (plain_items op e) ∙ row v op [] []

pub one_items : (op n : ℕ) → form_at op ≡ Some forms.One → (instruction_operands op).items (instrs.One op n) ≡ Number n ∷ []
unfolding instruction_operands any_number
one_items op n e = rw e refl

pub one_text : (v : Abc) (op n : ℕ) → form_at op ≡ Some forms.One → instr_text v (instrs.One op n) ≡ name_of op ++ (0x20 ∷ (decimal n ++ (operand_comment v (pool_of op) n ++ end_)))
one_text v op n e =
    ap (λ (items : List Item). line_bytes v (words.Instruction op) items) (one_items op n e)
    ∙ row v op (Number n ∷ []) (operand_comment v (pool_shown op) n)
    ∙ ap (λ (l : List ℕ). name_of op ++ (0x20 ∷ (l ++ (operand_comment v (pool_shown op) n ++ end_)))) (append-nil (decimal n))
    ∙ ap (λ (p : Pool). name_of op ++ (0x20 ∷ (decimal n ++ (operand_comment v p n ++ end_)))) (shown_pool op forms.One (λ h. cc) e)

pub two_items : (op n m : ℕ) → form_at op ≡ Some forms.Two → (instruction_operands op).items (instrs.Two op n m) ≡ Number n ∷ Number m ∷ []
unfolding instruction_operands any_number
two_items op n m e = rw e refl

pub two_text : (v : Abc) (op n m : ℕ) → form_at op ≡ Some forms.Two → instr_text v (instrs.Two op n m) ≡ name_of op ++ (0x20 ∷ (decimal n ++ (0x20 ∷ (decimal m ++ (operand_comment v (pool_of op) n ++ end_)))))
two_text v op n m e =
    let comment = operand_comment v (pool_shown op) n ++ end_ in
    ap (λ (items : List Item). line_bytes v (words.Instruction op) items) (two_items op n m e)
    ∙ row v op (Number n ∷ Number m ∷ []) (operand_comment v (pool_shown op) n)
    ∙ ap (λ (l : List ℕ). name_of op ++ (0x20 ∷ l)) (append_assoc (decimal n) (0x20 ∷ (decimal m ++ [])) comment)
    ∙ ap (λ (l : List ℕ). name_of op ++ (0x20 ∷ (decimal n ++ (0x20 ∷ (l ++ comment))))) (append-nil (decimal m))
    ∙ ap (λ (p : Pool). name_of op ++ (0x20 ∷ (decimal n ++ (0x20 ∷ (decimal m ++ (operand_comment v p n ++ end_)))))) (shown_pool op forms.Two (λ h. cc) e)

pub branch_items : (op t : ℕ) → form_at op ≡ Some forms.Branch → (instruction_operands op).items (instrs.Branch op t) ≡ Target t ∷ []
unfolding instruction_operands target
branch_items op t e = rw e refl

pub branch_text : (v : Abc) (op t : ℕ) → form_at op ≡ Some forms.Branch → instr_text v (instrs.Branch op t) ≡ name_of op ++ (0x20 ∷ 0x4c ∷ (decimal t ++ end_))
branch_text v op t e =
    ap (λ (items : List Item). line_bytes v (words.Instruction op) items) (branch_items op t e)
    ∙ row v op (Target t ∷ []) []
    ∙ ap (λ (l : List ℕ). name_of op ++ (0x20 ∷ 0x4c ∷ (l ++ end_))) (append-nil (decimal t))

shown_labels : (ts : List ℕ) → operand_bytes (several_items target ts) ≡ labels ts
unfolding target
shown_labels [] = refl
shown_labels (t ∷ ts) = ap (λ (l : List ℕ). 0x20 ∷ 0x4c ∷ (decimal t ++ l)) (shown_labels ts)

pub switch_items : (d t : ℕ) (ts : List ℕ) → (instruction_operands 0x1b).items (instrs.Switch d (t ∷ ts)) ≡ Target d ∷ several_items target (t ∷ ts)
unfolding instruction_operands form_at info_at target
switch_items d t ts = refl

switch_name : name_of 0x1b ≡ codes "lookupswitch"
unfolding name_at
switch_name = refl

pub switch_text : (v : Abc) (d : ℕ) (ts : List ℕ) → 0 < length ts → instr_text v (instrs.Switch d ts) ≡ codes "lookupswitch" ++ ((0x20 ∷ 0x4c ∷ decimal d) ++ (labels ts ++ end_))
switch_text v d [] some = absurd (omega arith)
switch_text v d (t ∷ ts) some =
    ap (λ (items : List Item). line_bytes v (words.Instruction 0x1b) items) (switch_items d t ts)
    ∙ row v 0x1b (Target d ∷ several_items target (t ∷ ts)) []
    ∙ ap (λ (l : List ℕ). l ++ (operand_bytes (Target d ∷ several_items target (t ∷ ts)) ++ end_)) switch_name
    ∙ ap (λ (l : List ℕ). codes "lookupswitch" ++ ((0x20 ∷ 0x4c ∷ (decimal d ++ l)) ++ end_)) (shown_labels (t ∷ ts))
    ∙ ap (λ (l : List ℕ). codes "lookupswitch" ++ l) (append_assoc (0x20 ∷ 0x4c ∷ decimal d) (labels (t ∷ ts)) end_)

pub byte_items : (z : ℤ) → (instruction_operands 0x24).items (instrs.Byte z) ≡ Signed z ∷ []
unfolding instruction_operands form_at info_at any_signed
byte_items z = refl

byte_name : name_of 0x24 ≡ codes "pushbyte"
unfolding name_at
byte_name = refl

pub byte_text : (v : Abc) (z : ℤ) → instr_text v (instrs.Byte z) ≡ codes "pushbyte" ++ (0x20 ∷ (signed_decimal z ++ end_))
byte_text v z =
    ap (λ (items : List Item). line_bytes v (words.Instruction 0x24) items) (byte_items z)
    ∙ row v 0x24 (Signed z ∷ []) []
    ∙ ap (λ (l : List ℕ). l ++ (operand_bytes (Signed z ∷ []) ++ end_)) byte_name
    ∙ ap (λ (l : List ℕ). codes "pushbyte" ++ (0x20 ∷ (l ++ end_))) (append-nil (signed_decimal z))

pub short_items : (z : ℤ) → (instruction_operands 0x25).items (instrs.Short z) ≡ Signed z ∷ []
unfolding instruction_operands form_at info_at any_signed
short_items z = refl

short_name : name_of 0x25 ≡ codes "pushshort"
unfolding name_at
short_name = refl

pub short_text : (v : Abc) (z : ℤ) → instr_text v (instrs.Short z) ≡ codes "pushshort" ++ (0x20 ∷ (signed_decimal z ++ end_))
short_text v z =
    ap (λ (items : List Item). line_bytes v (words.Instruction 0x25) items) (short_items z)
    ∙ row v 0x25 (Signed z ∷ []) []
    ∙ ap (λ (l : List ℕ). l ++ (operand_bytes (Signed z ∷ []) ++ end_)) short_name
    ∙ ap (λ (l : List ℕ). codes "pushshort" ++ (0x20 ∷ (l ++ end_))) (append-nil (signed_decimal z))

pub scope_items : (n : ℕ) → (instruction_operands 0x65).items (instrs.ScopeObject n) ≡ Number n ∷ []
unfolding instruction_operands form_at info_at any_number
scope_items n = refl

scope_name : name_of 0x65 ≡ codes "getscopeobject"
unfolding name_at
scope_name = refl

pub scope_text : (v : Abc) (n : ℕ) → instr_text v (instrs.ScopeObject n) ≡ codes "getscopeobject" ++ (0x20 ∷ (decimal n ++ end_))
scope_text v n =
    ap (λ (items : List Item). line_bytes v (words.Instruction 0x65) items) (scope_items n)
    ∙ row v 0x65 (Number n ∷ []) []
    ∙ ap (λ (l : List ℕ). l ++ (operand_bytes (Number n ∷ []) ++ end_)) scope_name
    ∙ ap (λ (l : List ℕ). codes "getscopeobject" ++ (0x20 ∷ (l ++ end_))) (append-nil (decimal n))

pub debug_items : (kind name reg extra : ℕ) → (instruction_operands 0xef).items (instrs.Debug kind name reg extra) ≡ Number kind ∷ Number name ∷ Number reg ∷ Number extra ∷ []
unfolding instruction_operands form_at info_at any_number
debug_items kind name reg extra = refl

debug_name : name_of 0xef ≡ codes "debug"
unfolding name_at
debug_name = refl

pub debug_text : (v : Abc) (kind name reg extra : ℕ) → instr_text v (instrs.Debug kind name reg extra) ≡ codes "debug" ++ (0x20 ∷ (decimal kind ++ (0x20 ∷ (decimal name ++ (0x20 ∷ (decimal reg ++ (0x20 ∷ (decimal extra ++ end_))))))))
debug_text v kind name reg extra =
    ap (λ (items : List Item). line_bytes v (words.Instruction 0xef) items) (debug_items kind name reg extra)
    ∙ row v 0xef (Number kind ∷ Number name ∷ Number reg ∷ Number extra ∷ []) []
    ∙ ap (λ (l : List ℕ). l ++ (operand_bytes (Number kind ∷ Number name ∷ Number reg ∷ Number extra ∷ []) ++ end_)) debug_name
    ∙ simp (append_assoc)
