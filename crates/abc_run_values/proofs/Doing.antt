-- What the code of an instruction relies on, and what it has to do.
use Rattle.std.proofs.Common.{◌≡◌, ℕ, ◌+◌, ◌<◌, length, List, [], ◌∷◌, Bool, true, false, refl, sym, ap, ◌∙◌, subst, arith, eqb-true}
use Rattle.std.specs.Prelude.{IsSome, None, Some, ◌||◌, is_some, nat_eq, nat_lt, slice_get}
use Rattle.std.specs.declared.option.Option.{Option}
use Rattle.std.proofs.lemmas.Bool.{ltb-true}
use Rattle.std.proofs.lemmas.Option.{slice_get-get_or}
use Rattle.abc_meaning.specs.At.{Act, Goes, Stays, goes, next_frame, after_pushes}
use Rattle.abc_heap_values.specs.declared.values.Value.{Value}
use Rattle.abc_heap_values.specs.declared.values.Value.TheVariants.{Obj, Undefined}
use Rattle.abc_frames.specs.Ready.{HasFrameRoom}
use Rattle.abc_run_state.specs.Plain.{counts_local}
use Rattle.abc_run_values.proofs.Shaped.{first_there}
use Rattle.abc_run_values.specs.Reads.{reads_scope}
use Rattle.abc_run_values.specs.Here.{act_here}
use Rattle.abc_run_values.specs.Ready.{CanRun}
use Rattle.abc_link_names.specs.Linked.{LinkedFile}
use Rattle.abc_link_names.specs.declared.types.Ty.{Ty}
use Rattle.abc_frames.specs.Frame.{Frames, after_drop, newest, newest_size, with_local}
use Rattle.abc_frames.specs.declared.records.Size.{Size}
use Rattle.abc_run_state.specs.Operands.{operand_at}
use Rattle.abc_run_state.specs.Outer.{Outer, setting_in, world}
use Rattle.abc_run_state.proofs.Turning.{and_then_is}
use Rattle.abc_run_state.specs.Turns.{Turned, size_of_routine, size_for, turn_of}
use Rattle.abc_run_state.specs.declared.state.State.{State}
use Rattle.abc_run_state.specs.Stops.{IsOpen}
use Rattle.abc_file_types.specs.Opcodes.{is_in}
use Rattle.abc_file_types.specs.declared.code.Instr.{Instr}
use Rattle.abc_verify_typing.specs.Routines.{Routine, kind_if}
use Rattle.abc_meaning.specs.Setting.{Setting, routine_of}
use Rattle.abc_meaning.specs.World.{Outcome, Run, Went, and_then, pure, some, ◌>>=◌}
use Rattle.abc_meaning.specs.Ops.{computes_one}

pub record Does (l : LinkedFile) (out : Outer) (s : State) (i : Instr) (n g : ℕ) (m : Run Act) : Type 0 where
  pub ready : HasFrameRoom n g s.frames
  pub does : act_here (setting_in l out) (newest s.frames) i (world s out) ≡ m (world s out)

-- what becomes of the frames is what the code makes of them
pub turns_as : (l : LinkedFile) (out : Outer) (s : State) (i : Instr) (n g : ℕ) (m : Run Act) (x : Turned) → Does l out s i n g m → turn_of (setting_in l out) s.frames (m (world s out)) ≡ x → turn_of (setting_in l out) s.frames (act_here (setting_in l out) (newest s.frames) i (world s out)) ≡ x
turns_as l out s i n g m x d e = ap (λ (o : Outcome Act). turn_of (setting_in l out) s.frames o) d.does ∙ e

-- room for a scope more is that of the frame's routine
pub scopes_fit : (p : Setting) (q : Frames) (r : Routine) (n : ℕ) → newest_size q ≡ size_for p (newest q) → routine_of p (newest q).method ≡ Some r → nat_lt n r.scope_size ≡ true → n < (newest_size q).scopes
scopes_fit p q r n size body t =
    let same : (newest_size q).scopes ≡ r.scope_size = ap (λ (s : Size). s.scopes) size ∙ ap (λ (o : Option Routine). (size_of_routine o).scopes) body in
    let lt : n < r.scope_size = ltb-true n r.scope_size t in
    omega (arith, same, lt)

pub has_type : (l : LinkedFile) (o : Option Ty) → is_some (kind_if l o) ≡ true → IsSome o
has_type l None e = absurd cc
has_type l (Some t) e = refl

-- a local that counts is there
pub counted_does : (l : LinkedFile) (out : Outer) (s : State) (i : Instr) (k n : ℕ) → n < length (newest s.frames).locals → Does l out s i 0 0 (some (slice_get (newest s.frames).locals n) >>= λ v. computes_one k v >>= λ x. goes (next_frame (with_local n x (newest s.frames)))) → Does l out s i 0 0 (counts_local k n (newest s.frames))
counted_does l out s i k n b d = record {
  ready = d.ready;
  does = d.does ∙ ap (λ (o : Option Value). and_then (some o (world s out)) (λ v. computes_one k v >>= λ x. goes (next_frame (with_local n x (newest s.frames))))) (slice_get-get_or (newest s.frames).locals n Undefined b);
}

-- a value that is taken and pushed again stays
pub kept_does : (l : LinkedFile) (out : Outer) (s : State) (i : Instr) → Does l out s i 1 1 (goes (after_pushes (operand_at 0 (newest s.frames) ∷ []) (after_drop 1 (newest s.frames)))) → Does l out s i 0 0 (goes (next_frame (newest s.frames)))
kept_does l out s i d =
    let f = newest s.frames in
    let there = d.ready.operands in
    let room = d.ready.room in
    record {
      ready = record { live = d.ready.live; operands = omega arith; room = omega (arith, room); place = d.ready.place };
      does = d.does ∙ ap (λ (vs : List Value). Went (world s out) (Goes (Stays (record f { stack = vs; place = f.place + 1 })))) (sym (first_there f.stack there));
    }

-- a scope, and then its object
pub scope_does : (l : LinkedFile) (out : Outer) (s : State) (i : Instr) (n : ℕ) → Does l out s i 0 1 (some (slice_get (newest s.frames).scopes n) >>= (λ e. pure (Obj e.object)) >>= λ v. goes (after_pushes (v ∷ []) (newest s.frames))) → Does l out s i 0 1 (reads_scope n (newest s.frames))
scope_does l out s i n d = record {
  ready = d.ready;
  does = d.does ∙ and_then_is (some (slice_get (newest s.frames).scopes n) (world s out)) (λ e. pure (Obj e.object)) (λ v. goes (after_pushes (v ∷ []) (newest s.frames)));
}

-- ---- an opcode that is known

pub can_at : (l : LinkedFile) (out : Outer) (s : State) (mk : ℕ → Instr) (op k : ℕ) → op ≡ k → CanRun l out s (mk op) → CanRun l out s (mk k)
can_at l out s mk op k e can = subst (λ (o : ℕ). CanRun l out s (mk o)) e can

pub runs_at : (l : LinkedFile) (out : Outer) (s : State) (mk : ℕ → Instr) (op k n g : ℕ) (m : Run Act) (x : Turned) → op ≡ k → Does l out s (mk k) n g m → turn_of (setting_in l out) s.frames (m (world s out)) ≡ x → turn_of (setting_in l out) s.frames (act_here (setting_in l out) (newest s.frames) (mk op) (world s out)) ≡ x
runs_at l out s mk op k n g m x e d r = ap (λ (o : ℕ). turn_of (setting_in l out) s.frames (act_here (setting_in l out) (newest s.frames) (mk o) (world s out))) e ∙ turns_as l out s (mk k) n g m x d r

-- or that is one of some
abbrev pub AllOf : (ℕ → Type 0) → List ℕ → Type 0
AllOf P [] = Unit {0}
AllOf P (k ∷ ks) = P k × AllOf P ks

pub pick : (P : ℕ → Type 0) (ops : List ℕ) (op : ℕ) → AllOf P ops → is_in op ops ≡ true → P op
pick P [] op a e = absurd cc
pick P (k ∷ ks) op a e = go (λ q. pick P ks op a.1 q) (nat_eq op k) refl e
  where
    go : (is_in op ks ≡ true → P op) → (b : Bool) → nat_eq op k ≡ b → (b || is_in op ks) ≡ true → P op
    go more true q h = subst P (sym (eqb-true op k q)) a.0
    go more false q h = more h

-- what isn't stuck is what its act says
pub open_as : (l : LinkedFile) (out : Outer) (s : State) (i : Instr) (n g : ℕ) (m : Run Act) → Does l out s i n g m → IsOpen (act_here (setting_in l out) (newest s.frames) i (world s out)) → IsOpen (m (world s out))
open_as l out s i n g m d h = subst (λ (o : Outcome Act). IsOpen o) d.does h
