-- What the instructions on properties, calls and `new` do, by their opcodes.
use Rattle.std.proofs.Common.{◌≡◌, ℕ, ◌+◌, ◌≤◌, [], ◌∷◌, length, Bool, true, false, refl, sym, ap, ◌∙◌, subst, arith}
use Rattle.abc_run_state.proofs.AtOnce.{done_as}
use Rattle.abc_run_calls.specs.Calls.{calls_value, makes_value}
use Rattle.abc_run_members.specs.Members.{calls_named, constructs_named, constructs_of, gets_named, parts_at, sets_named}
use Rattle.abc_run_names.specs.Named.{name_form_at, named_here, parts_for}
use Rattle.abc_run_values.proofs.Doing.{Does}
use Rattle.abc_run_values.proofs.Opened.{here_of}
use Rattle.abc_run_values.specs.Here.{act_here}
use Rattle.abc_run_values.specs.Ready.{CanRun}
use Rattle.abc_link_names.specs.Linked.{LinkedFile}
use Rattle.abc_verify_typing.specs.Rows.{Shape, row_at, table_of_rows}
use Rattle.abc_verify_typing.specs.declared.row.Need.TheVariants.{Value as OneValue}
use Rattle.abc_frames.specs.Frame.{arguments, newest}
use Rattle.abc_run_state.proofs.Turning.{and_then_same}
use Rattle.abc_meaning.specs.At.{Act, Doing, makes_of_came, one}
use Rattle.abc_meaning.specs.Names.{name_of}
use Rattle.abc_meaning.specs.Table.{act_of, acts}
use Rattle.abc_run_state.specs.Operands.{operand_at}
use Rattle.abc_run_state.specs.Outer.{Outer, setting_in, world}
use Rattle.abc_run_state.specs.Turns.{IsDoneIf}
use Rattle.abc_meaning.specs.Making.{new}
use Rattle.abc_meaning.specs.Members.{reads}
use Rattle.abc_meaning.specs.World.{Run, and_then, ◌>>=◌}
use Rattle.abc_run_state.specs.declared.state.How.TheVariants.{Drop, Push}
use Rattle.abc_run_state.specs.declared.state.State.{State}
use Rattle.abc_file_types.specs.declared.code.Instr.{Instr}
use Rattle.abc_file_types.specs.declared.code.Instr.TheVariants.{One, Two}
use Rattle.abc_run_dispatch.proofs.DeletedTaken.{Taking, taken, taking_at}
use Rattle.abc_run_dispatch.proofs.Takes.{all_arguments, named_taken, no_arguments, one_taken, two_taken, valued_taken}
use Rattle.abc_run_dispatch.proofs.MembersMade.{makes_as}

-- what is done at once, by an opcode that is known
pub done_at : (b : Bool) (l : LinkedFile) (out : Outer) (s new : State) (mk : ℕ → Instr) (op k n g : ℕ) (m : Run Act) → op ≡ k → Does l out s (mk k) n g m → IsDoneIf b l out m s new → IsDoneIf b l out (act_here (setting_in l out) (newest s.frames) (mk op)) s new
done_at b l out s new mk op k n g m e d h = done_as b l out (act_here (setting_in l out) (newest s.frames) (mk op)) m s new (ap (λ (o : ℕ). act_here (setting_in l out) (newest s.frames) (mk o) (world s out)) e ∙ d.does) h

-- ---- properties

pub op_66 : (l : LinkedFile) (out : Outer) (s : State) (n : ℕ) → CanRun l out s (One 0x66 n) → Does l out s (One 0x66 n) (parts_at (setting_in l out) n + 1) 1 (gets_named (setting_in l out) n (newest s.frames))
unfolding row_at table_of_rows act_of acts
op_66 l out s n can =
    let p = setting_in l out in
    let f = newest s.frames in
    let j = parts_at p n in
    let sum : 0 + j ≡ j = omega arith in
    let a = taken l out s (One 0x66 n) _ _ 0 (j + 1) 1 (operand_at j f ∷ []) (parts_for (name_form_at p n) 0 f) can refl refl (no_arguments n) (named_taken p _ 0 j (j + 1) n f OneValue refl refl tt sum refl) refl in
    record { ready = a.ready; does = a.does }

pub op_61 : (l : LinkedFile) (out : Outer) (s : State) (n : ℕ) → CanRun l out s (One 0x61 n) → Does l out s (One 0x61 n) (parts_at (setting_in l out) n + 2) 0 (sets_named (setting_in l out) n false (newest s.frames))
unfolding row_at table_of_rows act_of acts
op_61 l out s n can =
    let p = setting_in l out in
    let f = newest s.frames in
    let j = 1 + parts_at p n in
    let all : j + 1 ≡ parts_at p n + 2 = omega arith in
    let a = taken l out s (One 0x61 n) _ _ 0 (parts_at p n + 2) 0 (operand_at 0 f ∷ operand_at j f ∷ []) (parts_for (name_form_at p n) 1 f) can refl refl (no_arguments n) (valued_taken p _ j (parts_at p n + 2) n f OneValue refl refl tt refl all) refl in
    record { ready = a.ready; does = a.does }

pub op_68 : (l : LinkedFile) (out : Outer) (s : State) (n : ℕ) → CanRun l out s (One 0x68 n) → Does l out s (One 0x68 n) (parts_at (setting_in l out) n + 2) 0 (sets_named (setting_in l out) n true (newest s.frames))
unfolding row_at table_of_rows act_of acts
op_68 l out s n can =
    let p = setting_in l out in
    let f = newest s.frames in
    let j = 1 + parts_at p n in
    let all : j + 1 ≡ parts_at p n + 2 = omega arith in
    let a = taken l out s (One 0x68 n) _ _ 0 (parts_at p n + 2) 0 (operand_at 0 f ∷ operand_at j f ∷ []) (parts_for (name_form_at p n) 1 f) can refl refl (no_arguments n) (valued_taken p _ j (parts_at p n + 2) n f OneValue refl refl tt refl all) refl in
    record { ready = a.ready; does = a.does }

-- ---- calls

pub op_41 : (l : LinkedFile) (out : Outer) (s : State) (count : ℕ) → CanRun l out s (One 0x41 count) → Does l out s (One 0x41 count) (count + 2) 1 (calls_value (setting_in l out) (operand_at (count + 1) (newest s.frames)) (operand_at count (newest s.frames)) count (Push (count + 2)) (newest s.frames))
unfolding row_at table_of_rows act_of acts
op_41 l out s count can =
    let f = newest s.frames in
    let a = taken l out s (One 0x41 count) _ _ count (count + 2) 1 (operand_at count f ∷ operand_at (count + 1) f ∷ []) [] can refl refl (all_arguments count) (λ form. two_taken _ count _ f OneValue OneValue refl tt tt) refl in
    record { ready = a.ready; does = a.does }

pub op_46 : (l : LinkedFile) (out : Outer) (s : State) (n count taking : ℕ) → taking ≡ count + parts_at (setting_in l out) n + 1 → CanRun l out s (Two 0x46 n count) → Does l out s (Two 0x46 n count) (count + parts_at (setting_in l out) n + 1) 1 (calls_named (setting_in l out) n count false (Push taking) (newest s.frames))
unfolding row_at table_of_rows act_of acts
op_46 l out s n count taking e can =
    let p = setting_in l out in
    let f = newest s.frames in
    let j = count + parts_at p n in
    let a = taken l out s (Two 0x46 n count) _ _ count (j + 1) 1 (operand_at j f ∷ []) (parts_for (name_form_at p n) count f) can refl refl (all_arguments count) (named_taken p _ count j (j + 1) n f OneValue refl refl tt refl refl) refl in
    let d : Does l out s (Two 0x46 n count) (j + 1) 1 (calls_named p n count false (Push (j + 1)) f) = record { ready = a.ready; does = a.does } in
    subst (λ (k : ℕ). Does l out s (Two 0x46 n count) (j + 1) 1 (calls_named p n count false (Push k) f)) (sym e) d

pub op_4C : (l : LinkedFile) (out : Outer) (s : State) (n count taking : ℕ) → taking ≡ count + parts_at (setting_in l out) n + 1 → CanRun l out s (Two 0x4C n count) → Does l out s (Two 0x4C n count) (count + parts_at (setting_in l out) n + 1) 1 (calls_named (setting_in l out) n count true (Push taking) (newest s.frames))
unfolding row_at table_of_rows act_of acts
op_4C l out s n count taking e can =
    let p = setting_in l out in
    let f = newest s.frames in
    let j = count + parts_at p n in
    let a = taken l out s (Two 0x4C n count) _ _ count (j + 1) 1 (operand_at j f ∷ []) (parts_for (name_form_at p n) count f) can refl refl (all_arguments count) (named_taken p _ count j (j + 1) n f OneValue refl refl tt refl refl) refl in
    let d : Does l out s (Two 0x4C n count) (j + 1) 1 (calls_named p n count true (Push (j + 1)) f) = record { ready = a.ready; does = a.does } in
    subst (λ (k : ℕ). Does l out s (Two 0x4C n count) (j + 1) 1 (calls_named p n count true (Push k) f)) (sym e) d

pub op_4F : (l : LinkedFile) (out : Outer) (s : State) (n count taking : ℕ) → taking ≡ count + parts_at (setting_in l out) n + 1 → CanRun l out s (Two 0x4F n count) → Does l out s (Two 0x4F n count) (count + parts_at (setting_in l out) n + 1) 0 (calls_named (setting_in l out) n count false (Drop taking) (newest s.frames))
unfolding row_at table_of_rows act_of acts
op_4F l out s n count taking e can =
    let p = setting_in l out in
    let f = newest s.frames in
    let j = count + parts_at p n in
    let a = taken l out s (Two 0x4F n count) _ _ count (j + 1) 0 (operand_at j f ∷ []) (parts_for (name_form_at p n) count f) can refl refl (all_arguments count) (named_taken p _ count j (j + 1) n f OneValue refl refl tt refl refl) refl in
    let d : Does l out s (Two 0x4F n count) (j + 1) 0 (calls_named p n count false (Drop (j + 1)) f) = record { ready = a.ready; does = a.does } in
    subst (λ (k : ℕ). Does l out s (Two 0x4F n count) (j + 1) 0 (calls_named p n count false (Drop k) f)) (sym e) d

-- ---- new

pub op_42 : (l : LinkedFile) (out : Outer) (s : State) (count : ℕ) → CanRun l out s (One 0x42 count) → Does l out s (One 0x42 count) (count + 1) 1 (makes_value (setting_in l out) (operand_at count (newest s.frames)) count (Push (count + 1)) (newest s.frames))
unfolding row_at table_of_rows act_of acts
op_42 l out s count can =
    let f = newest s.frames in
    let a = taken l out s (One 0x42 count) _ _ count (count + 1) 1 (operand_at count f ∷ []) [] can refl refl (all_arguments count) (λ form. one_taken _ count _ f OneValue refl tt) refl in
    record { ready = a.ready; does = a.does }

-- the act of constructprop
abbrev constructs : Doing
constructs a = one a λ o. name_of a >>= reads a.setting o >>= makes_of_came a (λ v. new a.setting v a.args)

constructs_as : (l : LinkedFile) (out : Outer) (s : State) (n count : ℕ) (row : Shape) → Taking (setting_in l out) s.frames (Two 0x4A n count) (world s out) row constructs count (count + parts_at (setting_in l out) n + 1) 1 (operand_at (count + parts_at (setting_in l out) n) (newest s.frames) ∷ []) (parts_for (name_form_at (setting_in l out) n) count (newest s.frames)) → Does l out s (Two 0x4A n count) (count + parts_at (setting_in l out) n + 1) 1 (constructs_named (setting_in l out) n count (newest s.frames))
constructs_as l out s n count row a =
    let p = setting_in l out in
    let f = newest s.frames in
    let w = world s out in
    let j = count + parts_at p n in
    let under = parts_at p n + 1 in
    let h = here_of p a.routine f (Two 0x4A n count) row in
    let sum : j + 1 ≡ count + under = omega arith in
    let there = a.ready.operands in
    let enough : count ≤ length f.stack = omega (arith, there) in
    record {
      ready = a.ready;
      does = a.does ∙ and_then_same (and_then (named_here p n count f w) (reads p (operand_at j f))) (makes_of_came (taking_at p h f count (j + 1) (operand_at j f ∷ []) (parts_for (name_form_at p n) count f)) (λ v. new p v (arguments count f))) (constructs_of p under count f) (makes_as p h f count under (j + 1) (operand_at j f ∷ []) (parts_for (name_form_at p n) count f) sum enough);
    }

pub op_4A : (l : LinkedFile) (out : Outer) (s : State) (n count : ℕ) → CanRun l out s (Two 0x4A n count) → Does l out s (Two 0x4A n count) (count + parts_at (setting_in l out) n + 1) 1 (constructs_named (setting_in l out) n count (newest s.frames))
unfolding row_at table_of_rows act_of acts
op_4A l out s n count can =
    let p = setting_in l out in
    let f = newest s.frames in
    let j = count + parts_at p n in
    constructs_as l out s n count _ (taken l out s (Two 0x4A n count) _ _ count (j + 1) 1 (operand_at j f ∷ []) (parts_for (name_form_at p n) count f) can refl refl (all_arguments count) (named_taken p _ count j (j + 1) n f OneValue refl refl tt refl refl) refl)
