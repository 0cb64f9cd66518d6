-- Each opcode that is run is in the group that its number gives.
use Rattle.std.proofs.Common.{◌≡◌, ℕ, ◌<◌, ◌≤◌, List, [], ◌∷◌, Bool, true, false, ◌||◌, not, nat_eq, eqb-true, refl, sym, ap, ◌∙◌, subst}
use Rattle.std.specs.Prelude.{Some, None, cond, nat_lt}
use Rattle.std.proofs.lemmas.Bool.{and_parts, le-ltb, lt-ltb}
use Rattle.std.specs.List.{list_all}
use Rattle.std.specs.declared.option.Option.{Option}
use Rattle.abc_run_values.specs.Groups.{first_branch_ops, last_branch_ops}
use Rattle.abc_run_values.specs.Here.{act_in}
use Rattle.abc_run_values.specs.Ready.{CanRun}
use Rattle.abc_meaning.specs.Step.{does_row}
use Rattle.abc_link_names.specs.Linked.{LinkedFile}
use Rattle.abc_verify_typing.specs.Instructions.{opcode}
use Rattle.abc_verify_typing.specs.Rows.{Shape, find, row_at, table_of_rows}
use Rattle.abc_frames.specs.Frame.{newest}
use Rattle.abc_run_state.specs.Outer.{Outer, setting_in, world}
use Rattle.abc_run_state.specs.Stops.{IsOpen}
use Rattle.abc_run_state.specs.declared.state.State.{State}
use Rattle.abc_run_dispatch.specs.StepGroups.{alone_ops, first_alone_ops, last_alone_ops, numbered_ops, ops_alone, ops_numbered, ops_paired, paired_ops, second_alone_ops}
use Rattle.abc_run_dispatch.specs.declared.groups.Alone.{Alone}
use Rattle.abc_run_dispatch.specs.declared.groups.Numbered.{Numbered}
use Rattle.abc_run_dispatch.specs.declared.groups.Paired.{Paired}
use Rattle.abc_file_types.specs.Opcodes.{form_at, form_of, info_at, is_in, name_in, names_of_opcodes}
use Rattle.abc_file_types.specs.declared.code.Instr.{Instr}
use Rattle.abc_file_types.specs.declared.code.Instr.TheVariants.{One, Plain, Two}
use Rattle.abc_file_types.specs.declared.opcodes.Form.{Form}
use Rattle.abc_file_types.specs.declared.opcodes.Form.TheVariants as forms
use Rattle.abc_verify_typing.specs.Routines.{Routine}
use Rattle.abc_meaning.specs.Setting.{routine_of}

-- ---- what is run has a row

pub record HasRow (op : ℕ) : Type 0 where
  pub row : Shape
  pub is : row_at op ≡ Some row

pub row_there : (l : LinkedFile) (out : Outer) (s : State) (i : Instr) → CanRun l out s i → HasRow (opcode i)
row_there l out s i can = go (routine_of (setting_in l out) (newest s.frames).method) refl
  where
    by_row : (r : Routine) (o : Option Shape) → row_at (opcode i) ≡ o → IsOpen (does_row (setting_in l out) r (newest s.frames) i o (world s out)) → HasRow (opcode i)
    by_row r None e free = absurd free
    by_row r (Some row) e free = record { row = row; is = e }

    go : (o : Option Routine) → routine_of (setting_in l out) (newest s.frames).method ≡ o → HasRow (opcode i)
    go None b = absurd (subst (λ (o : Option Routine). IsOpen (act_in (setting_in l out) (newest s.frames) i o (world s out))) b can.free)
    go (Some r) b = by_row r (row_at (opcode i)) refl (subst (λ (o : Option Routine). IsOpen (act_in (setting_in l out) (newest s.frames) i o (world s out))) b can.free)

-- ---- a test of all opcodes of a form that have rows

-- an opcode that has a form is spelled so
some_form : (f g : Form) → (let some : Form → Option Form = λ x. Some x in some f ≡ some g) → f ≡ g
some_form f g e = cc

known_form : (op : ℕ) (form : Form) (name : Option (List ℕ)) → name_in names_of_opcodes op ≡ name → form_at op ≡ Some form → form_of op ≡ form
unfolding form_at info_at
known_form op form (Some name) h e = some_form (form_of op) form (rw h at e)
known_form op form None h e = absurd (let none_ : None ≡ Some form = rw h at e in cc)

pub form_is : (op : ℕ) (form : Form) → form_at op ≡ Some form → form_of op ≡ form
form_is op form e = known_form op form (name_in names_of_opcodes op) refl e

abbrev is_form : Form → Form → Bool
is_form forms.Plain forms.Plain = true
is_form forms.One forms.One = true
is_form forms.Two forms.Two = true
is_form forms.Branch forms.Branch = true
is_form form other = false

abbrev passes : Form → (ℕ → Bool) → ℕ → Bool
passes form t op = not (is_form form (form_of op)) || t op

abbrev row_passes : Form → (ℕ → Bool) → ℕ × Shape → Bool
row_passes form t r = passes form t r.0

passed : (form : Form) (t : ℕ → Bool) (rows : List (ℕ × Shape)) (op : ℕ) (row : Shape) → list_all (row_passes form t) rows ≡ true → find op rows ≡ Some row → passes form t op ≡ true
passed form t [] op row a e = absurd cc
passed form t (r ∷ rows) op row a e = go (λ f. passed form t rows op row parts.1 f) (nat_eq op r.0) refl e
  where
    parts : (row_passes form t r ≡ true) × (list_all (row_passes form t) rows ≡ true)
    parts = and_parts (row_passes form t r) (list_all (row_passes form t) rows) a

    go : (find op rows ≡ Some row → passes form t op ≡ true) → (b : Bool) → nat_eq op r.0 ≡ b → cond b (Some r.1) (find op rows) ≡ Some row → passes form t op ≡ true
    go more true q f = ap (passes form t) (eqb-true op r.0 q) ∙ parts.0
    go more false q f = more f

grouped : (form : Form) (t : ℕ → Bool) (op : ℕ) → list_all (row_passes form t) table_of_rows ≡ true → form_at op ≡ Some form → is_form form form ≡ true → HasRow op → t op ≡ true
unfolding row_at
grouped form t op all f own r =
    let same : is_form form (form_of op) ≡ true = ap (is_form form) (form_is op form f) ∙ own in
    sym (ap (λ (b : Bool). not b || t op) same) ∙ passed form t table_of_rows op r.row all r.is

alone_rows : list_all (row_passes forms.Plain (λ n. is_in n alone_ops)) table_of_rows ≡ true
unfolding table_of_rows
alone_rows = refl

numbered_rows : list_all (row_passes forms.One (λ n. is_in n numbered_ops)) table_of_rows ≡ true
unfolding table_of_rows
numbered_rows = refl

paired_rows : list_all (row_passes forms.Two (λ n. is_in n paired_ops)) table_of_rows ≡ true
unfolding table_of_rows
paired_rows = refl

abbrev is_branch : ℕ → Bool
is_branch n = cond (nat_lt n 0x13) (is_in n first_branch_ops) (is_in n last_branch_ops)

branch_rows : list_all (row_passes forms.Branch is_branch) table_of_rows ≡ true
unfolding table_of_rows
branch_rows = refl

module _ (l : LinkedFile) (out : Outer) (s : State) where
  pub alone_in : (op : ℕ) → CanRun l out s (Plain op) → is_in op alone_ops ≡ true
  alone_in op can = grouped forms.Plain (λ n. is_in n alone_ops) op alone_rows can.spelled.is refl (row_there l out s (Plain op) can)

  pub numbered_in : (op n : ℕ) → CanRun l out s (One op n) → is_in op numbered_ops ≡ true
  numbered_in op n can = grouped forms.One (λ m. is_in m numbered_ops) op numbered_rows can.spelled.0.is refl (row_there l out s (One op n) can)

  pub paired_in : (op n count : ℕ) → CanRun l out s (Two op n count) → is_in op paired_ops ≡ true
  paired_in op n count can = grouped forms.Two (λ m. is_in m paired_ops) op paired_rows can.spelled.0.is refl (row_there l out s (Two op n count) can)

-- a test of all of a list
pub part_in : (t : ℕ → Bool) (xs : List ℕ) (op : ℕ) → list_all t xs ≡ true → is_in op xs ≡ true → t op ≡ true
part_in t [] op a e = absurd cc
part_in t (x ∷ xs) op a e = go (λ h. part_in t xs op parts.1 h) (nat_eq op x) refl e
  where
    parts : (t x ≡ true) × (list_all t xs ≡ true)
    parts = and_parts (t x) (list_all t xs) a

    go : (is_in op xs ≡ true → t op ≡ true) → (b : Bool) → nat_eq op x ≡ b → (b || is_in op xs) ≡ true → t op ≡ true
    go more true q h = ap t (eqb-true op x q) ∙ parts.0
    go more false q h = more h

pub first_alone_in : (op : ℕ) → is_in op alone_ops ≡ true → op < 0x70 → is_in op first_alone_ops ≡ true
first_alone_in op e b =
    sym (ap (λ (x : Bool). not x || is_in op first_alone_ops) (lt-ltb op 0x70 b))
    ∙ part_in (λ n. not (nat_lt n 0x70) || is_in n first_alone_ops) alone_ops op refl e

pub second_alone_in : (op : ℕ) → is_in op alone_ops ≡ true → 0x70 ≤ op → op < 0xA0 → is_in op second_alone_ops ≡ true
second_alone_in op e f b =
    sym (ap (λ (x : Bool). not x || is_in op second_alone_ops) (lt-ltb op 0xA0 b))
    ∙ sym (ap (λ (x : Bool). x || (not (nat_lt op 0xA0) || is_in op second_alone_ops)) (le-ltb op 0x70 f))
    ∙ part_in (λ n. nat_lt n 0x70 || (not (nat_lt n 0xA0) || is_in n second_alone_ops)) alone_ops op refl e

pub last_alone_in : (op : ℕ) → is_in op alone_ops ≡ true → 0xA0 ≤ op → is_in op last_alone_ops ≡ true
last_alone_in op e f =
    sym (ap (λ (x : Bool). x || is_in op last_alone_ops) (le-ltb op 0xA0 f))
    ∙ part_in (λ n. nat_lt n 0xA0 || is_in n last_alone_ops) alone_ops op refl e

-- by what the code found out
pub alone_is : (op : ℕ) (r k : Alone) → is_in op (ops_alone r) ≡ true → r ≡ k → is_in op (ops_alone k) ≡ true
alone_is op r k h e = subst (λ (x : Alone). is_in op (ops_alone x) ≡ true) e h

pub numbered_is : (op : ℕ) (r k : Numbered) → is_in op (ops_numbered r) ≡ true → r ≡ k → is_in op (ops_numbered k) ≡ true
numbered_is op r k h e = subst (λ (x : Numbered). is_in op (ops_numbered x) ≡ true) e h

pub paired_is : (op : ℕ) (r k : Paired) → is_in op (ops_paired r) ≡ true → r ≡ k → is_in op (ops_paired k) ≡ true
paired_is op r k h e = subst (λ (x : Paired). is_in op (ops_paired x) ≡ true) e h

-- of branches, by the number
pub first_in : (op : ℕ) → form_at op ≡ Some forms.Branch → HasRow op → op < 0x13 → is_in op first_branch_ops ≡ true
first_in op f r b = sym (ap (λ (x : Bool). cond x (is_in op first_branch_ops) (is_in op last_branch_ops)) (lt-ltb op 0x13 b)) ∙ grouped forms.Branch is_branch op branch_rows f refl r

pub last_in : (op : ℕ) → form_at op ≡ Some forms.Branch → HasRow op → 0x13 ≤ op → is_in op last_branch_ops ≡ true
last_in op f r b = sym (ap (λ (x : Bool). cond x (is_in op first_branch_ops) (is_in op last_branch_ops)) (le-ltb op 0x13 b)) ∙ grouped forms.Branch is_branch op branch_rows f refl r

-- a group of one
only : (op k : ℕ) → is_in op (k ∷ []) ≡ true → op ≡ k
only op k e = go (nat_eq op k) refl e
  where
    go : (b : Bool) → nat_eq op k ≡ b → (b || is_in op []) ≡ true → op ≡ k
    go true q h = eqb-true op k q
    go false q h = absurd cc

pub only_one : (op k n : ℕ) → is_in op (k ∷ []) ≡ true → One op n ≡ One k n
only_one op k n e = ap (λ (o : ℕ). One o n) (only op k e)

pub only_two : (op k n count : ℕ) → is_in op (k ∷ []) ≡ true → Two op n count ≡ Two k n count
only_two op k n count e = ap (λ (o : ℕ). Two o n count) (only op k e)
