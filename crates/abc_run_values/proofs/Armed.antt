-- An instruction that takes no arguments and no parts of a name: what its code relies on, and what its act is given.
use Rattle.std.proofs.Common.{◌≡◌, ℕ, ◌≤◌, List, [], ◌∷◌, ◌++◌, drop, length, refl, ap, ◌∙◌, subst, arith}
use Rattle.std.specs.Prelude.{Some}
use Rattle.std.specs.List.{flat_map}
use Rattle.abc_meaning.specs.At.{ActCase, Doing}
use Rattle.abc_meaning.specs.Table.{act_of}
use Rattle.abc_heap_values.specs.declared.values.Value.{Value}
use Rattle.abc_meaning.specs.Tests.{name_values, parts_count, values_of}
use Rattle.abc_frames.specs.Ready.{HasFrameRoom}
use Rattle.abc_link_names.specs.Linked.{LinkedFile}
use Rattle.abc_verify_typing.specs.Instructions.{opcode, operand}
use Rattle.abc_verify_typing.specs.Rows.{Shape, row_at}
use Rattle.abc_verify_typing.specs.declared.row.Need.{Need}
use Rattle.abc_verify_typing.specs.declared.row.Need.TheVariants as needed
use Rattle.abc_frames.specs.Frame.{Frame, Frames, after_drop, newest}
use Rattle.abc_run_state.specs.Operands.{operand_at}
use Rattle.abc_run_state.specs.Outer.{Outer, setting_in, world}
use Rattle.abc_run_state.specs.declared.state.State.{State}
use Rattle.abc_file_types.specs.declared.code.Instr.{Instr}
use Rattle.abc_verify_typing.specs.Effects.{Here, args, depth, multiname_at, runtime, parts_of_need}
use Rattle.abc_verify_typing.specs.Routines.{Routine}
use Rattle.abc_meaning.specs.Setting.{Setting, routine_of}
use Rattle.abc_meaning.specs.World.{World}
use Rattle.abc_run_values.specs.Here.{act_here}
use Rattle.abc_run_values.specs.Ready.{CanRun}
use Rattle.abc_run_values.proofs.Making.{ready_for}
use Rattle.abc_run_values.proofs.Opened.{here_of, opened}
use Rattle.abc_run_values.proofs.Shaped.{Tested, at_shape, first_there, no_args, tested_is, two_there}

-- where an act finds so many values, and nothing else
abbrev pub taking : Setting → Here → Frame → ℕ → List Value → ActCase
taking p h f n vs = record { setting = p; here = h; frame = f; rest = after_drop n f; args = []; values = vs; parts = [] }

pub record Armed (p : Setting) (q : Frames) (i : Instr) (w : World) (row : Shape) (act : Doing) (n g : ℕ) (vs : List Value) : Type 0 where
  pub routine : Routine
  pub body : routine_of p (newest q).method ≡ Some routine
  pub ready : HasFrameRoom n g q
  pub tests : Tested p (here_of p routine (newest q) i row) (newest q) w
  pub does : act_here p (newest q) i w ≡ act (taking p (here_of p routine (newest q) i row) (newest q) n vs) w

-- what a row takes: no arguments, and so many values
pub record Takes (row : Shape) (i : Instr) (f : Frame) (n : ℕ) (vs : List Value) : Type 0 where
  pub args : row.args ≡ 0
  pub needs : (parts : List Need) → length (flat_map (parts_of_need parts) row.takes) ≡ n
  pub values : n ≤ length f.stack → (k : ℕ) → values_of row.takes k f.stack ≡ vs
  pub parts : n ≤ length f.stack → (k : ℕ) → name_values row.takes k f.stack ≡ []

pub armed : (l : LinkedFile) (out : Outer) (s : State) (i : Instr) (row : Shape) (act : Doing) (n g : ℕ) (vs : List Value) → CanRun l out s i → row_at (opcode i) ≡ Some row → act_of (opcode i) ≡ Some act → Takes row i (newest s.frames) n vs → length row.gives ≡ g → Armed (setting_in l out) s.frames i (world s out) row act n g vs
armed l out s i row act n g vs can e a takes gives =
    let p = setting_in l out in
    let f = newest s.frames in
    let w = world s out in
    let o = opened p f i w row act e a can.free in
    let h = here_of p o.routine f i row in
    let t = tested_is p h f w o.tests in
    let zero : args h ≡ 0 = no_args h takes.args in
    let deep : depth h ≡ n = let m = takes.needs (runtime (multiname_at h.file (operand h.instr))) in omega (arith, zero, m) in
    let there : n ≤ length f.stack = subst (λ (k : ℕ). k ≤ length f.stack) deep t.there in
    record {
      routine = o.routine;
      body = o.body;
      ready = ready_for p s.frames i w row act n g o can.live can.place can.size deep gives;
      tests = t;
      does = o.does ∙ ap (λ (x : ActCase). act x w) (at_shape p h f n vs [] zero deep (takes.values there (parts_count h)) (takes.parts there (parts_count h)));
    }

-- ---- needs that are values by themselves

abbrev pub IsOwn : Need → Type 0
IsOwn needed.Runtime = ⊥
IsOwn need = Unit {0}

unfolded_own : (parts : List Need) (need : Need) → IsOwn need → parts_of_need parts need ≡ need ∷ []
unfolded_own parts needed.Runtime h = absurd h
unfolded_own parts needed.Value h = refl
unfolded_own parts needed.Index h = refl
unfolded_own parts needed.Namespace h = refl
unfolded_own parts needed.Slotted h = refl
unfolded_own parts needed.Instance h = refl

values_own : (need : Need) (ns : List Need) (k : ℕ) (v : Value) (vs : List Value) → IsOwn need → values_of (need ∷ ns) k (v ∷ vs) ≡ v ∷ values_of ns k vs
values_own needed.Runtime ns k v vs h = absurd h
values_own needed.Value ns k v vs h = refl
values_own needed.Index ns k v vs h = refl
values_own needed.Namespace ns k v vs h = refl
values_own needed.Slotted ns k v vs h = refl
values_own needed.Instance ns k v vs h = refl

parts_own : (need : Need) (ns : List Need) (k : ℕ) (v : Value) (vs : List Value) → IsOwn need → name_values (need ∷ ns) k (v ∷ vs) ≡ name_values ns k vs
parts_own needed.Runtime ns k v vs h = absurd h
parts_own needed.Value ns k v vs h = refl
parts_own needed.Index ns k v vs h = refl
parts_own needed.Namespace ns k v vs h = refl
parts_own needed.Slotted ns k v vs h = refl
parts_own needed.Instance ns k v vs h = refl

-- ---- rows by what they take

pub none_taken : (row : Shape) (i : Instr) (f : Frame) → row.args ≡ 0 → row.takes ≡ [] → Takes row i f 0 []
none_taken row i f a t = record {
  args = a;
  needs = λ parts. ap (λ (ns : List Need). length (flat_map (parts_of_need parts) ns)) t;
  values = λ b k. ap (λ (ns : List Need). values_of ns k f.stack) t;
  parts = λ b k. ap (λ (ns : List Need). name_values ns k f.stack) t;
}

pub one_taken : (row : Shape) (i : Instr) (f : Frame) (need : Need) → row.args ≡ 0 → row.takes ≡ need ∷ [] → IsOwn need → Takes row i f 1 (operand_at 0 f ∷ [])
one_taken row i f need a t own = record {
  args = a;
  needs = λ parts. ap (λ (ns : List Need). length (flat_map (parts_of_need parts) ns)) t ∙ ap (λ (ns : List Need). length (ns ++ [])) (unfolded_own parts need own);
  values = λ b k. ap (λ (ns : List Need). values_of ns k f.stack) t ∙ ap (values_of (need ∷ []) k) (first_there f.stack b) ∙ values_own need [] k (operand_at 0 f) (drop 1 f.stack) own ∙ nothing k (operand_at 0 f) (drop 1 f.stack);
  parts = λ b k. ap (λ (ns : List Need). name_values ns k f.stack) t ∙ ap (name_values (need ∷ []) k) (first_there f.stack b) ∙ parts_own need [] k (operand_at 0 f) (drop 1 f.stack) own ∙ no_parts k (drop 1 f.stack);
}
  where
    nothing : (k : ℕ) (v : Value) (vs : List Value) → v ∷ values_of [] k vs ≡ v ∷ []
    nothing k v [] = refl
    nothing k v (u ∷ vs) = refl

    no_parts : (k : ℕ) (vs : List Value) → name_values [] k vs ≡ []
    no_parts k [] = refl
    no_parts k (u ∷ vs) = refl

pub two_taken : (row : Shape) (i : Instr) (f : Frame) (top under : Need) → row.args ≡ 0 → row.takes ≡ top ∷ under ∷ [] → IsOwn top → IsOwn under → Takes row i f 2 (operand_at 0 f ∷ operand_at 1 f ∷ [])
two_taken row i f top under a t own_top own_under = record {
  args = a;
  needs = λ parts. ap (λ (ns : List Need). length (flat_map (parts_of_need parts) ns)) t ∙ ap (λ (ns : List Need). length (ns ++ (parts_of_need parts under ++ []))) (unfolded_own parts top own_top) ∙ ap (λ (ns : List Need). length ((top ∷ []) ++ (ns ++ []))) (unfolded_own parts under own_under);
  values = λ b k. ap (λ (ns : List Need). values_of ns k f.stack) t ∙ ap (values_of (top ∷ under ∷ []) k) (two_there f.stack b) ∙ values_own top (under ∷ []) k (operand_at 0 f) (operand_at 1 f ∷ drop 2 f.stack) own_top ∙ ap (λ (vs : List Value). operand_at 0 f ∷ vs) (values_own under [] k (operand_at 1 f) (drop 2 f.stack) own_under ∙ nothing k (operand_at 1 f) (drop 2 f.stack));
  parts = λ b k. ap (λ (ns : List Need). name_values ns k f.stack) t ∙ ap (name_values (top ∷ under ∷ []) k) (two_there f.stack b) ∙ parts_own top (under ∷ []) k (operand_at 0 f) (operand_at 1 f ∷ drop 2 f.stack) own_top ∙ parts_own under [] k (operand_at 1 f) (drop 2 f.stack) own_under ∙ no_parts k (drop 2 f.stack);
}
  where
    nothing : (k : ℕ) (v : Value) (vs : List Value) → v ∷ values_of [] k vs ≡ v ∷ []
    nothing k v [] = refl
    nothing k v (u ∷ vs) = refl

    no_parts : (k : ℕ) (vs : List Value) → name_values [] k vs ≡ []
    no_parts k [] = refl
    no_parts k (u ∷ vs) = refl
