-- The fronts of the lines of instructions.
use Rattle.std.proofs.Common.{◌≡◌, ℕ, ◌<◌, ◌≤◌, Bool, true, nat_le, List, [], ◌∷◌, ◌++◌, take, get_or, map, decimal, Some, refl, sym, ap, ◌∙◌, append_assoc, arith}
use Rattle.std.specs.List.{range_with_len}
use Rattle.std.proofs.lemmas.Bool.{leb-true}
use Rattle.std.proofs.lemmas.List.{get_or-map}
use Rattle.std.proofs.lemmas.List.FromFn.{get_or-map-range_with_len}
use Rattle.abc_text_lines.specs.declared.word.Word.TheVariants as words
use Rattle.abc_file_types.specs.declared.code.Instr.TheVariants as instrs
use Rattle.abc_file_types.specs.declared.opcodes.Form.{Form}
use Rattle.abc_file_types.specs.declared.opcodes.Form.TheVariants as forms
use Rattle.abc_file_types.specs.declared.tables.Abc.{Abc}
use Rattle.abc_file_types.specs.Opcodes.{form_at, info_at, name_at, pool_of}
use Rattle.abc_text_lines.specs.Listing.{operand_comment, word_name}
use Rattle.abc_disasm.specs.declared.heads.TheConstants.{HEADS}
use Rattle.abc_disasm.specs.Heads.{line_behind_name, line_head}
use Rattle.abc_disasm.specs.Texts.{instr_text}
use Rattle.abc_disasm.proofs.PutForms.{branch_text, one_text, plain_text, two_text}

abbrev Row : Type 0
Row = List ℕ × ℕ

-- ---- the table

abbrev bytes_in : Row → List ℕ
bytes_in row = take row.1 row.0

abbrev is_short : Row → Bool
is_short row = nat_le row.1 16

same_heads : map bytes_in HEADS ≡ map line_head (range_with_len 0 256)
unfolding line_head name_at form_at info_at
same_heads = refl

all_short : map is_short HEADS ≡ map (λ (n : ℕ). true) (range_with_len 0 256)
all_short = refl

pub head_is : (op : ℕ) (none : Row) → op < 256 → bytes_in (get_or HEADS op none) ≡ line_head op
head_is op none less =
    sym (get_or-map bytes_in HEADS op none [] less)
    ∙ ap (λ (l : List (List ℕ)). get_or l op []) same_heads
    ∙ get_or-map-range_with_len line_head 0 256 op op [] less (omega arith)

abbrev count_in : Row → ℕ
count_in row = row.1

pub count_is : (op : ℕ) (none : Row) → op < 256 → count_in (get_or HEADS op none) ≤ 16
count_is op none less =
    leb-true (count_in (get_or HEADS op none)) 16 (
    sym (get_or-map is_short HEADS op none true less)
    ∙ ap (λ (l : List Bool). get_or l op true) all_short
    ∙ get_or-map-range_with_len (λ (n : ℕ). true) 0 256 op op true less (omega arith)
    )

-- ---- lines

abbrev end_ : List ℕ
end_ = 0x0a ∷ []

abbrev name_of : ℕ → List ℕ
name_of op = word_name (words.Instruction op)

head_with : (op : ℕ) (form : Form) → form_at op ≡ Some form → line_head op ≡ name_of op ++ line_behind_name (Some form)
unfolding line_head
head_with op form e = ap (λ f. name_of op ++ line_behind_name f) e

-- a name, a space and more
more : (op : ℕ) (form : Form) (rest : List ℕ) → form_at op ≡ Some form → line_behind_name (Some form) ≡ 0x20 ∷ [] → name_of op ++ (0x20 ∷ rest) ≡ line_head op ++ rest
more op form rest e space =
    sym (ap (λ (l : List ℕ). l ++ rest) (head_with op form e ∙ ap (λ (l : List ℕ). name_of op ++ l) space) ∙ append_assoc (name_of op) (0x20 ∷ []) rest)

pub plain_line : (v : Abc) (op : ℕ) → form_at op ≡ Some forms.Plain → instr_text v (instrs.Plain op) ≡ line_head op
plain_line v op e = plain_text v op e ∙ sym (head_with op forms.Plain e)

pub one_line : (v : Abc) (op n : ℕ) → form_at op ≡ Some forms.One → instr_text v (instrs.One op n) ≡ line_head op ++ (decimal n ++ (operand_comment v (pool_of op) n ++ end_))
one_line v op n e = one_text v op n e ∙ more op forms.One (decimal n ++ (operand_comment v (pool_of op) n ++ end_)) e refl

pub two_line : (v : Abc) (op n m : ℕ) → form_at op ≡ Some forms.Two → instr_text v (instrs.Two op n m) ≡ line_head op ++ (decimal n ++ (0x20 ∷ (decimal m ++ (operand_comment v (pool_of op) n ++ end_))))
two_line v op n m e = two_text v op n m e ∙ more op forms.Two (decimal n ++ (0x20 ∷ (decimal m ++ (operand_comment v (pool_of op) n ++ end_)))) e refl

pub branch_line : (v : Abc) (op t : ℕ) → form_at op ≡ Some forms.Branch → instr_text v (instrs.Branch op t) ≡ line_head op ++ (0x4c ∷ (decimal t ++ end_))
branch_line v op t e = branch_text v op t e ∙ more op forms.Branch (0x4c ∷ (decimal t ++ end_)) e refl
