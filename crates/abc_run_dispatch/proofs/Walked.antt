-- Two locals that walk on.
use Rattle.std.proofs.Common.{◌≡◌, ℕ, ◌<◌, [], length, refl, ap, ◌∙◌}
use Rattle.std.specs.Prelude.{None, Some, slice_get}
use Rattle.std.specs.declared.option.Option.{Option}
use Rattle.std.proofs.lemmas.Bool.{and_parts, ltb-true}
use Rattle.std.proofs.lemmas.Option.{slice_get-get_or}
use Rattle.abc_heap_values.specs.declared.values.Value.{Value}
use Rattle.abc_heap_values.specs.declared.values.Value.TheVariants.{Undefined}
use Rattle.abc_run_names.specs.Walked.{walked_to, walks_on}
use Rattle.abc_run_values.proofs.Armed.{Armed, armed, none_taken, taking}
use Rattle.abc_run_values.proofs.Doing.{Does}
use Rattle.abc_run_values.proofs.Opened.{here_of}
use Rattle.abc_run_values.specs.Ready.{CanRun}
use Rattle.abc_link_names.specs.Linked.{LinkedFile}
use Rattle.abc_verify_typing.specs.Rows.{Shape, row_at, table_of_rows}
use Rattle.abc_frames.specs.Frame.{Frame, newest}
use Rattle.abc_meaning.specs.At.{ActCase, goes}
use Rattle.abc_meaning.specs.Table.{act_of, acts}
use Rattle.abc_meaning.specs.Walking.{Position, has_next2, next_along, object_number, position, walks_to}
use Rattle.abc_run_state.specs.Operands.{local_at}
use Rattle.abc_run_state.specs.Outer.{Outer, setting_in, world}
use Rattle.abc_meaning.specs.World.{World, see, some, ◌>>=◌}
use Rattle.abc_meaning.specs.Setting.{Setting}
use Rattle.abc_run_state.specs.declared.state.State.{State}
use Rattle.abc_file_types.specs.declared.code.Instr.TheVariants.{Two}
use Rattle.abc_verify_typing.specs.Routines.{Routine}

module _ (p : Setting) (r : Routine) (row : Shape) (f : Frame) (x y : ℕ) where
  abbrev here : ActCase
  here = taking p (here_of p r f (Two 0x32 x y) row) f 0 []

  goes_to : (e : Option Position) (w : World) → walks_to here e w ≡ goes (walked_to x y f e) w
  goes_to None w = refl
  goes_to (Some e) w = refl

  pub walks_same : (w : World) → x < length f.locals → y < length f.locals → has_next2 here w ≡ walks_on x y f w
  walks_same w low high =
      let holder = ap (λ (o : Option Value). (some o >>= λ v. some (slice_get f.locals y) >>= λ i. see (λ u. next_along (object_number v) (position i) u.heap) >>= λ e. walks_to here e) w) (slice_get-get_or f.locals x Undefined low) in
      let place = ap (λ (o : Option Value). (some o >>= λ i. see (λ u. next_along (object_number (local_at x f)) (position i) u.heap) >>= λ e. walks_to here e) w) (slice_get-get_or f.locals y Undefined high) in
      holder ∙ place ∙ goes_to (next_along (object_number (local_at x f)) (position (local_at y f)) w.heap) w

-- what the locals of hasnext2 are, and that they are there
pub record Walks (l : LinkedFile) (out : Outer) (s : State) (x y : ℕ) : Type 0 where
  pub does : Does l out s (Two 0x32 x y) 0 1 (walks_on x y (newest s.frames))
  pub holder : x < length (newest s.frames).locals
  pub position : y < length (newest s.frames).locals

walking : (l : LinkedFile) (out : Outer) (s : State) (x y : ℕ) (row : Shape) → Armed (setting_in l out) s.frames (Two 0x32 x y) (world s out) row has_next2 0 1 [] → x < length (newest s.frames).locals → y < length (newest s.frames).locals → Walks l out s x y
walking l out s x y row a low high = record {
  does = record { ready = a.ready; does = a.does ∙ walks_same (setting_in l out) a.routine row (newest s.frames) x y (world s out) low high };
  holder = low;
  position = high;
}

pub op_32 : (l : LinkedFile) (out : Outer) (s : State) (x y : ℕ) → CanRun l out s (Two 0x32 x y) → Walks l out s x y
unfolding row_at table_of_rows act_of acts
op_32 l out s x y can =
    let a = armed l out s (Two 0x32 x y) _ _ 0 1 [] can refl refl (none_taken _ _ _ refl refl) refl in
    let both = and_parts _ _ a.tests.locals in
    walking l out s x y _ a (ltb-true _ _ both.0) (ltb-true _ _ (and_parts _ _ both.1).0)
