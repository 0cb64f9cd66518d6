-- The line of an instruction, and a label line.
use Rattle.std.proofs.Common.{◌≡◌, ℕ, suc, Bool, true, false, cond, nat_eq, List, [], ◌∷◌, ◌++◌, length, Ok, Err, Some, None, refl, sym, ap, subst, ◌∙◌, append-nil, arith}
use Rattle.std.proofs.lemmas.Bool.Decides.{nat_tests}
use Rattle.std.specs.declared.option.Option.{Option}
use Rattle.std.specs.declared.result.Result.{Result}
use Rattle.abc_text_lines.specs.declared.reason.AsmReason.{AsmReason}
use Rattle.abc_text_lines.specs.declared.reason.AsmReason.TheVariants as reasons
use Rattle.abc_text_lines.specs.declared.word.Word.{Word}
use Rattle.abc_text_lines.specs.declared.word.Word.TheVariants as words
use Rattle.abc_text_lines.specs.Reasons.{least}
use Rattle.abc_text_lines.specs.Tokens.{Token}
use Rattle.abc_file_types.specs.declared.code.Instr.{Instr}
use Rattle.abc_file_types.specs.declared.code.Instr.TheVariants as instrs
use Rattle.abc_file_types.specs.declared.tables.Sizes.{Sizes}
use Rattle.abc_text_lines.specs.Lines.{Label, Row}
use Rattle.abc_text_lines.specs.Operands.{none, none_left, reasons_of}
use Rattle.abc_text_lines.specs.Rows.{Fault, unless}
use Rattle.abc_text_lines.specs.Wordlines.{in_word, repeat_reason}
use Rattle.abc_text_lines.specs.File.{faults, instructions, others, own}
use Rattle.abc_text_lines.specs.Lineforms.{instruction_operands, opcode_of}
use Rattle.abc_text_operands.specs.Answers.{AnswersOperand}
use Rattle.abc_text_operands.specs.Joined.{line_result}
use Rattle.abc_text_operands.specs.declared.error.LineError.{LineError}
use Rattle.abc_text_tokens.specs.Walks.{tokens_of}
use Rattle.abc_text_tokens.specs.declared.token.Token as code
use Rattle.abc_text_reader.specs.declared.error.AsmError.TheVariants as errors
use Rattle.abc_text_reader.specs.declared.reader.Reader.{Reader}
use Rattle.abc_text_reader.specs.declared.reader.Taken.{Taken}
use Rattle.abc_text_reader.specs.Parts.{GivesPart, ReadsItem, made_at}
use Rattle.abc_text_reader.specs.Reading.{labels_now, may_repeat, row_of, rows_left, word_next}
use Rattle.abc_text_reader.proofs.Lone.{IsHeaded, first_row, given_by, no_extra, once_faults, rest_rows, unless_broken, whole_faults}
use Rattle.abc_text_reader.specs.Coded.{instruction_read, label_read}

pub instruction_headed : IsHeaded instruction_read
instruction_headed v i n row rows e = unless_broken v i row rows (Ok ((instructions v i).value row, rows)) e

pub label_headed : IsHeaded label_read
label_headed v i n row rows e = unless_broken v i row rows (Ok (tt, rows)) e

-- the word of the line that was taken
pub word_is : (old new : Reader) (taken : Taken) (w : Word) → word_next (rows_left old) ≡ Some w → rows_left old ≡ row_of taken new ∷ rows_left new → taken.word ≡ w
word_is old new taken w next opens = let e : Some taken.word ≡ Some w = sym (ap word_next opens) ∙ next in cc

none_are_left : (ts : List code.Token) → nat_eq (length ts) 0 ≡ none_left (tokens_of ts)
none_are_left [] = refl
none_are_left (t ∷ ts) = (let e : nat_eq (suc (length ts)) 0 ≡ false = grind (arith, nat_tests) in e)

operands_first : (b : Bool) → least (reasons.Operands ∷ cond b (reasons.LabelTwice ∷ []) []) ≡ Some reasons.Operands
unfolding least
operands_first true = refl
operands_first false = refl

twice_alone : least (reasons.LabelTwice ∷ []) ≡ Some reasons.LabelTwice
unfolding least
twice_alone = refl

no_reason : least [] ≡ None
unfolding least
no_reason = refl

module _ (old new : Reader) (taken : Taken) (opens : rows_left old ≡ row_of taken new ∷ rows_left new) where
  abbrev v : Sizes
  v = old.sizes

  abbrev i : ℕ
  i = old.instances

  abbrev head : Row
  head = row_of taken new

  abbrev left : List Row
  left = rows_left new

  abbrev labels : List Label
  labels = labels_now new.body

  abbrev tokens : List Token
  tokens = tokens_of new.operands.items

  -- ---- an instruction

  instruction_faults : (op : ℕ) → taken.word ≡ words.Instruction op → (may_repeat taken.word ≡ false → taken.repeated ≡ false) → faults v i head left ≡ reasons_of (instruction_operands op) labels tokens
  instruction_faults op word once =
      no_extra v i head left (words.Instruction op) word refl
      ∙ once_faults v i head left (words.Instruction op) word refl (once (ap may_repeat word))
      ∙ append-nil (reasons_of (instruction_operands op) labels tokens)

  pub instruction_reads : (op : ℕ) (r : Result Instr LineError) → taken.word ≡ words.Instruction op → (may_repeat taken.word ≡ false → taken.repeated ≡ false) → AnswersOperand r (line_result (instruction_operands op) labels tokens) → ReadsItem instruction_read old new (made_at taken.number r)
  instruction_reads op r word once says n row rows le e =
      let o = least (reasons_of (instruction_operands op) labels tokens) in
      let x = (instruction_operands op).value labels tokens in
      let reads : instruction_read v i n row rows ≡ unless o taken.number (Ok (x, left)) =
      ap (λ (a : Row). instruction_read v i n a rows) (first_row row head rows left (sym e ∙ opens))
      ∙ ap (λ (l : List Row). instruction_read v i n head l) (rest_rows row head rows left (sym e ∙ opens))
      ∙ ap (λ (l : List AsmReason). unless (least l) taken.number (Ok ((instructions v i).value head, left))) (instruction_faults op word once)
      ∙ ap (λ (w : Word). unless o taken.number (Ok ((in_word opcode_of instruction_operands (instrs.Plain 0) w).value labels tokens, left))) word in
      subst (λ (p : Result (Instr × List Row) Fault). GivesPart left (made_at taken.number r) p) (sym reads) (given_by r o x taken.number left says)

  -- ---- a label line

  abbrev again : List AsmReason
  again = cond taken.repeated (reasons.LabelTwice ∷ []) []

  label_faults : taken.word ≡ words.Label → faults v i head left ≡ reasons_of none labels tokens ++ again
  label_faults word =
      no_extra v i head left words.Label word refl
      ∙ whole_faults v i head left refl
      ∙ ap (λ (w : Word). own v i w labels tokens ++ (others v i head left w ++ cond taken.repeated (repeat_reason w ∷ []) [])) word

  abbrev label_by : List AsmReason → Result (Unit {0} × List Row) Fault
  label_by l = unless (least l) taken.number (Ok (tt, left))

  label_at : (b : Bool) → taken.word ≡ words.Label → b ≡ nat_eq (length new.operands.items) 0 → (n : ℕ) (row : Row) (rows : List Row) → rows_left old ≡ row ∷ rows → label_read v i n row rows ≡ label_by (cond b [] (reasons.Operands ∷ []) ++ again)
  label_at b word is n row rows e =
      ap (λ (a : Row). label_read v i n a rows) (first_row row head rows left (sym e ∙ opens))
      ∙ ap (λ (l : List Row). label_read v i n head l) (rest_rows row head rows left (sym e ∙ opens))
      ∙ ap label_by (label_faults word)
      ∙ ap (λ (c : Bool). label_by (cond c [] (reasons.Operands ∷ []) ++ again)) (sym (is ∙ none_are_left new.operands.items))

  pub label_bad : (b : Bool) → taken.word ≡ words.Label → b ≡ nat_eq (length new.operands.items) 0 → b ≡ false → ReadsItem label_read old new (Err (errors.Refused taken.number reasons.Operands))
  label_bad b word is some n row rows le e =
      label_at b word is n row rows e
      ∙ ap (λ (c : Bool). label_by (cond c [] (reasons.Operands ∷ []) ++ again)) some
      ∙ ap (λ (o : Option AsmReason). unless o taken.number (Ok (tt, left))) (operands_first taken.repeated)

  pub label_again : (b : Bool) → taken.word ≡ words.Label → b ≡ nat_eq (length new.operands.items) 0 → b ≡ true → taken.repeated ≡ true → ReadsItem label_read old new (Err (errors.Refused taken.number reasons.LabelTwice))
  label_again b word is empty repeated n row rows le e =
      label_at b word is n row rows e
      ∙ ap (λ (c : Bool). label_by (cond c [] (reasons.Operands ∷ []) ++ again)) empty
      ∙ ap (λ (c : Bool). label_by (cond c (reasons.LabelTwice ∷ []) [])) repeated
      ∙ ap (λ (o : Option AsmReason). unless o taken.number (Ok (tt, left))) twice_alone

  pub label_fine : (b : Bool) → taken.word ≡ words.Label → b ≡ nat_eq (length new.operands.items) 0 → b ≡ true → taken.repeated ≡ false → ReadsItem label_read old new (Ok tt)
  label_fine b word is empty once n row rows le e =
      label_at b word is n row rows e
      ∙ ap (λ (c : Bool). label_by (cond c [] (reasons.Operands ∷ []) ++ again)) empty
      ∙ ap (λ (c : Bool). label_by (cond c (reasons.LabelTwice ∷ []) [])) once
      ∙ ap (λ (o : Option AsmReason). unless o taken.number (Ok (tt, left))) no_reason
