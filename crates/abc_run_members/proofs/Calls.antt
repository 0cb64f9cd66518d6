-- A call takes the operands that its name and its arguments are.
use Rattle.std.proofs.Common.{◌≡◌, ℕ, ◌+◌, Bool, true, false, refl, sym, ap, ◌∙◌, subst, arith}
use Rattle.std.specs.Prelude.{Some}
use Rattle.std.specs.declared.option.Option.{Option}
use Rattle.std.specs.declared.result.Result.{Result}
use Rattle.abc_run_members.specs.Members.{calls_named, parts_at}
use Rattle.abc_run_names.specs.Named.{name_form_at, name_parts_count}
use Rattle.abc_frames.specs.Ready.{HasFrameRoom}
use Rattle.abc_run_members.specs.AtOnce.{how_for}
use Rattle.abc_link_names.specs.Linked.{LinkedFile}
use Rattle.abc_objects.specs.declared.name.Name.{Name}
use Rattle.abc_frames.specs.Frame.{newest}
use Rattle.abc_run_state.specs.Outer.{Outer, setting_in, world}
use Rattle.abc_run_state.specs.Settling.{given_by_how, taken_by}
use Rattle.abc_run_state.specs.Stops.{IsOpen}
use Rattle.abc_run_state.specs.Turns.{Leaves}
use Rattle.abc_meaning.specs.Setting.{NameForm, Setting, Whole}
use Rattle.abc_run_state.specs.declared.state.How.{How}
use Rattle.abc_run_state.specs.declared.state.Left.{Left}
use Rattle.abc_run_state.specs.declared.state.State.{State}
use Rattle.abc_run_state.specs.declared.state.Stop.{Stop}

-- what a call by a name relies on, where what it takes is said so
pub record Takes (l : LinkedFile) (out : Outer) (s : State) (name count : ℕ) (lexical : Bool) (how : How) : Type 0 where
  pub ready : HasFrameRoom (count + parts_at (setting_in l out) name + 1) (given_by_how how) s.frames
  pub taken : taken_by how ≡ count + parts_at (setting_in l out) name + 1
  pub free : IsOpen (calls_named (setting_in l out) name count lexical how (newest s.frames) (world s out))

taken_of : (drops : Bool) (n : ℕ) → taken_by (how_for drops n) ≡ n
taken_of true n = refl
taken_of false n = refl

pub takes_so : (l : LinkedFile) (out : Outer) (s : State) (name count : ℕ) (lexical drops : Bool) (how : How) → how ≡ how_for drops (count + parts_at (setting_in l out) name + 1)
    → HasFrameRoom (count + parts_at (setting_in l out) name + 1) (given_by_how (how_for drops (count + parts_at (setting_in l out) name + 1))) s.frames
    → IsOpen (calls_named (setting_in l out) name count lexical (how_for drops (count + parts_at (setting_in l out) name + 1)) (newest s.frames) (world s out)) → Takes l out s name count lexical how
takes_so l out s name count lexical drops how e ready free =
    let n = count + parts_at (setting_in l out) name + 1 in
    subst (Takes l out s name count lexical) (sym e) (record { ready = ready; taken = taken_of drops n; free = free })

-- a name of which no part comes at run time
pub whole_taken : (p : Setting) (name count : ℕ) (x : Name) (drops : Bool) (how : How) → name_form_at p name ≡ Some (Whole x) → how ≡ how_for drops (count + 1) → how ≡ how_for drops (count + parts_at p name + 1)
whole_taken p name count x drops how form e =
    let same : count + 1 ≡ count + 0 + 1 = omega arith in
    e ∙ ap (how_for drops) same ∙ sym (ap (λ (r : Option NameForm). how_for drops (count + name_parts_count r + 1)) form)

pub called_so : (l : LinkedFile) (out : Outer) (old new : State) (name count : ℕ) (lexical : Bool) (how k : How) (result : Result Left Stop) → how ≡ k → Leaves l out (calls_named (setting_in l out) name count lexical how (newest old.frames)) old result new → Leaves l out (calls_named (setting_in l out) name count lexical k (newest old.frames)) old result new
called_so l out old new name count lexical how k result e h = subst (λ (x : How). Leaves l out (calls_named (setting_in l out) name count lexical x (newest old.frames)) old result new) e h
