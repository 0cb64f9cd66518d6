-- The words at the heads of lines are read back.
use Rattle.std.proofs.Common.{◌≡◌, ℕ, inl, inr, Bool, true, false, ◌&&◌, nat_eq, List, [], ◌∷◌, Some, None, refl, sym, ap, ◌∙◌}
use Rattle.std.specs.List.{list_all}
use Rattle.std.specs.declared.option.Option.{Option}
use Rattle.abc_text_lines.specs.declared.word.Word.{Word}
use Rattle.abc_text_lines.specs.declared.word.Word.TheVariants as words
use Rattle.abc_text_lines.proofs.Bools.{and_true, split_bool}
use Rattle.abc_text_lines.proofs.Scans.{eq_is}
use Rattle.abc_file_types.specs.declared.opcodes.Form.{Form}
use Rattle.abc_file_types.specs.Opcodes.{form_at, info_at, name_at, name_in, names_of_opcodes}
use Rattle.abc_text_lines.specs.Operands.{is_name}
use Rattle.abc_text_lines.specs.Listing.{word_name}
use Rattle.abc_text_lines.specs.Texts.{or_else, word_of_text}

-- a line may begin with the word's name, which is read back as the word
pub record IsHead (w : Word) : Type 0 where
  pub back : word_of_text (word_name w) ≡ w
  pub name : is_name (word_name w) ≡ true

-- ---- instructions

abbrev is_instruction : ℕ → Word → Bool
is_instruction op (words.Instruction n) = nat_eq n op
is_instruction op _ = false

instruction_is : (op : ℕ) (w : Word) → is_instruction op w ≡ true → w ≡ words.Instruction op
instruction_is op (words.Instruction n) e = ap (λ (k : ℕ). words.Instruction k) (eq_is n op e)
instruction_is op words.Abc e = absurd cc
instruction_is op words.Int e = absurd cc
instruction_is op words.UInt e = absurd cc
instruction_is op words.Double e = absurd cc
instruction_is op words.Text e = absurd cc
instruction_is op words.Namespace e = absurd cc
instruction_is op words.Set e = absurd cc
instruction_is op words.Name e = absurd cc
instruction_is op words.Method e = absurd cc
instruction_is op words.Param e = absurd cc
instruction_is op words.Optional e = absurd cc
instruction_is op words.ParamName e = absurd cc
instruction_is op words.Metadata e = absurd cc
instruction_is op words.Entry e = absurd cc
instruction_is op words.Instance e = absurd cc
instruction_is op words.Protected e = absurd cc
instruction_is op words.Implements e = absurd cc
instruction_is op words.Initializer e = absurd cc
instruction_is op words.Trait e = absurd cc
instruction_is op words.TraitMetadata e = absurd cc
instruction_is op words.Class e = absurd cc
instruction_is op words.Script e = absurd cc
instruction_is op words.Body e = absurd cc
instruction_is op words.Catch e = absurd cc
instruction_is op words.Label e = absurd cc
instruction_is op words.Unknown e = absurd cc

abbrev is_read_back : ℕ × List ℕ → Bool
is_read_back row = is_instruction row.0 (word_of_text row.1) && is_name row.1

-- each name of the table is its own instruction's alone, and no line word
all_read_back : list_all is_read_back names_of_opcodes ≡ true
unfolding word_of_text
all_read_back = refl

name_back : (op : ℕ) (name : List ℕ) (rows : List (ℕ × List ℕ)) → list_all is_read_back rows ≡ true → name_in rows op ≡ Some name → (word_of_text name ≡ words.Instruction op) × (is_name name ≡ true)
name_back op name [] all e = absurd (let none : None ≡ Some name = e in cc)
name_back op name (row ∷ rows) all e =
    let both = and_true (is_read_back row) (list_all is_read_back rows) all in
    let here = and_true (is_instruction row.0 (word_of_text row.1)) (is_name row.1) both.0 in
    elim (split_bool (nat_eq op row.0)) [
      | inl x ↦
          let found : Some row.1 ≡ Some name = rw x at e in
          let same : row.1 ≡ name = cc in
          (ap word_of_text (sym same) ∙ instruction_is row.0 (word_of_text row.1) here.0 ∙ ap (λ (k : ℕ). words.Instruction k) (sym (eq_is op row.0 x)), ap is_name (sym same) ∙ here.1)
      | inr x ↦ name_back op name rows both.1 (let more : name_in rows op ≡ Some name = rw x at e in more)
    ]

head_by : (op : ℕ) (o : Option (List ℕ)) (form : Form) → name_in names_of_opcodes op ≡ o → form_at op ≡ Some form → IsHead (words.Instruction op)
unfolding name_at form_at info_at
head_by op None form e some = absurd (let none : None ≡ Some form = rw e at some in cc)
head_by op (Some name) form e some =
    let b = name_back op name names_of_opcodes all_read_back e in
    let same : word_name (words.Instruction op) ≡ name = ap (λ (o : Option (List ℕ)). or_else o []) e in
    record { back = ap word_of_text same ∙ b.0; name = ap is_name same ∙ b.1 }

pub instruction_head : (op : ℕ) (form : Form) → form_at op ≡ Some form → IsHead (words.Instruction op)
instruction_head op form e = head_by op (name_in names_of_opcodes op) form refl e

-- ---- the other lines

-- a word of a line, that is no instruction's and no label's
abbrev pub is_line_word : Word → Bool
is_line_word (words.Instruction op) = false
is_line_word words.Label = false
is_line_word words.Unknown = false
is_line_word _ = true

pub line_head : (w : Word) → is_line_word w ≡ true → IsHead w
unfolding word_of_text
line_head words.Abc e = record { back = refl; name = refl }
line_head words.Int e = record { back = refl; name = refl }
line_head words.UInt e = record { back = refl; name = refl }
line_head words.Double e = record { back = refl; name = refl }
line_head words.Text e = record { back = refl; name = refl }
line_head words.Namespace e = record { back = refl; name = refl }
line_head words.Set e = record { back = refl; name = refl }
line_head words.Name e = record { back = refl; name = refl }
line_head words.Method e = record { back = refl; name = refl }
line_head words.Param e = record { back = refl; name = refl }
line_head words.Optional e = record { back = refl; name = refl }
line_head words.ParamName e = record { back = refl; name = refl }
line_head words.Metadata e = record { back = refl; name = refl }
line_head words.Entry e = record { back = refl; name = refl }
line_head words.Instance e = record { back = refl; name = refl }
line_head words.Protected e = record { back = refl; name = refl }
line_head words.Implements e = record { back = refl; name = refl }
line_head words.Initializer e = record { back = refl; name = refl }
line_head words.Trait e = record { back = refl; name = refl }
line_head words.TraitMetadata e = record { back = refl; name = refl }
line_head words.Class e = record { back = refl; name = refl }
line_head words.Script e = record { back = refl; name = refl }
line_head words.Body e = record { back = refl; name = refl }
line_head words.Catch e = record { back = refl; name = refl }
line_head (words.Instruction op) e = absurd cc
line_head words.Label e = absurd cc
line_head words.Unknown e = absurd cc
