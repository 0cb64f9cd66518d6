-- An instruction that is run: what its code relies on, and where its act finds its arguments, its values and the parts of its name.
use Rattle.std.proofs.Common.{◌≡◌, ℕ, ◌*◌, ◌+◌, ◌≤◌, List, drop, length, reverse, take, true, ap, ◌∙◌, subst}
use Rattle.std.specs.Prelude.{Some}
use Rattle.std.specs.List.{flat_map}
use Rattle.abc_heap_values.specs.declared.values.Value.{Value}
use Rattle.abc_meaning.specs.Tests.{at_frame, name_values, parts_count, values_of}
use Rattle.abc_frames.specs.Ready.{HasFrameRoom}
use Rattle.abc_run_values.proofs.Making.{ready_for}
use Rattle.abc_run_values.proofs.Opened.{here_of, opened}
use Rattle.abc_run_values.proofs.Shaped.{Tested, tested_is}
use Rattle.abc_run_values.specs.Here.{act_here}
use Rattle.abc_run_values.specs.Ready.{CanRun}
use Rattle.abc_link_names.specs.Linked.{LinkedFile}
use Rattle.abc_verify_typing.specs.Instructions.{argument_count, opcode, operand}
use Rattle.abc_verify_typing.specs.Rows.{Shape, row_at}
use Rattle.abc_verify_typing.specs.declared.row.Need.{Need}
use Rattle.abc_frames.specs.Frame.{Frame, Frames, arguments, after_drop, newest}
use Rattle.abc_meaning.specs.At.{ActCase, Doing}
use Rattle.abc_meaning.specs.Table.{act_of}
use Rattle.abc_run_state.specs.Outer.{Outer, setting_in, world}
use Rattle.abc_meaning.specs.Setting.{Setting, routine_of}
use Rattle.abc_meaning.specs.World.{World}
use Rattle.abc_run_state.specs.declared.state.State.{State}
use Rattle.abc_file_types.specs.declared.code.Instr.{Instr}
use Rattle.abc_verify_typing.specs.Effects.{Here, args, depth, multiname_at, needs, runtime, parts_of_need}
use Rattle.abc_verify_typing.specs.Routines.{Routine}
use Rattle.abc_verify_typing.specs.Rules.{has_form}

-- what an act is given: so many arguments and, of n values that are taken, some and the parts of its name
abbrev pub taking_at : Setting → Here → Frame → (count n : ℕ) → (vs ps : List Value) → ActCase
taking_at p h f count n vs ps = record { setting = p; here = h; frame = f; rest = after_drop n f; args = arguments count f; values = vs; parts = ps }

pub record Taking (p : Setting) (q : Frames) (i : Instr) (w : World) (row : Shape) (act : Doing) (count n g : ℕ) (vs ps : List Value) : Type 0 where
  pub routine : Routine
  pub body : routine_of p (newest q).method ≡ Some routine
  pub ready : HasFrameRoom n g q
  pub tests : Tested p (here_of p routine (newest q) i row) (newest q) w
  pub does : act_here p (newest q) i w ≡ act (taking_at p (here_of p routine (newest q) i row) (newest q) count n vs ps) w

-- what a row takes of a frame, where the name has these runtime parts
pub record Takes (row : Shape) (count : ℕ) (parts : List Need) (f : Frame) (n : ℕ) (vs ps : List Value) : Type 0 where
  pub needed : count + length (flat_map (parts_of_need parts) row.takes) ≡ n
  pub values : n ≤ length f.stack → values_of row.takes (length parts) (drop count f.stack) ≡ vs
  pub named : n ≤ length f.stack → name_values row.takes (length parts) (drop count f.stack) ≡ ps

at_taking : (p : Setting) (h : Here) (f : Frame) (count n : ℕ) (vs ps : List Value) → args h ≡ count → depth h ≡ n → values_of h.row.takes (parts_count h) (drop count f.stack) ≡ vs → name_values h.row.takes (parts_count h) (drop count f.stack) ≡ ps → at_frame p h f ≡ taking_at p h f count n vs ps
at_taking p h f count n vs ps a d v q =
    let mk : ℕ → ℕ → ActCase = λ k m. record { setting = p; here = h; frame = f; rest = after_drop m f; args = reverse (take k f.stack); values = values_of h.row.takes (parts_count h) (drop k f.stack); parts = name_values h.row.takes (parts_count h) (drop k f.stack) } in
    ap (λ (k : ℕ). mk k (depth h)) a
    ∙ ap (λ (m : ℕ). mk count m) d
    ∙ ap (λ (xs : List Value). taking_at p h f count n xs (name_values h.row.takes (parts_count h) (drop count f.stack))) v
    ∙ ap (λ (ys : List Value). taking_at p h f count n vs ys) q

pub taken : (l : LinkedFile) (out : Outer) (s : State) (i : Instr) (row : Shape) (act : Doing) (count n g : ℕ) (vs ps : List Value) → CanRun l out s i → row_at (opcode i) ≡ Some row → act_of (opcode i) ≡ Some act → row.args * argument_count i ≡ count → (has_form l row.operand (operand i) ≡ true → Takes row count (runtime (multiname_at l (operand i))) (newest s.frames) n vs ps) → length row.gives ≡ g → Taking (setting_in l out) s.frames i (world s out) row act count n g vs ps
taken l out s i row act count n g vs ps can e a counts takes gives =
    let p = setting_in l out in
    let f = newest s.frames in
    let w = world s out in
    let o = opened p f i w row act e a can.free in
    let h = here_of p o.routine f i row in
    let t = tested_is p h f w o.tests in
    let r = takes t.form in
    let deep : depth h ≡ n = ap (λ (k : ℕ). k + length (needs h)) counts ∙ r.needed in
    let there : n ≤ length f.stack = subst (λ (k : ℕ). k ≤ length f.stack) deep t.there in
    record {
      routine = o.routine;
      body = o.body;
      ready = ready_for p s.frames i w row act n g o can.live can.place can.size deep gives;
      tests = t;
      does = o.does ∙ ap (λ (x : ActCase). act x w) (at_taking p h f count n vs ps counts deep (r.values there) (r.named there));
    }
