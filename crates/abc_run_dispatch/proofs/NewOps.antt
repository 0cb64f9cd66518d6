-- What instructions that make objects and enter no method do, by their opcodes.
use Rattle.std.proofs.Common.{◌≡◌, ℕ, ◌*◌, ◌<◌, [], length, true, refl, ap, ◌∙◌}
use Rattle.std.specs.Prelude.{Some, slice_get}
use Rattle.std.specs.declared.option.Option.{Option}
use Rattle.std.proofs.lemmas.Bool.{and_parts, ltb-true}
use Rattle.abc_heap_store.specs.declared.records.What.TheVariants as whats
use Rattle.abc_run_state.specs.Makers.{pushes_activation, pushes_array, pushes_catch, pushes_function, pushes_object, scope_object_for}
use Rattle.abc_run_dispatch.proofs.Bodied.{catch_is, has_activation_layout, routine_is}
use Rattle.abc_run_values.proofs.Doing.{Does}
use Rattle.abc_run_values.specs.Ready.{CanRun}
use Rattle.abc_link_names.specs.Linked.{LinkedFile}
use Rattle.abc_link_names.specs.Owners.{body_of}
use Rattle.abc_link_names.specs.Parts.{HasLayout}
use Rattle.abc_link_names.specs.declared.part.LayoutId.{LayoutId}
use Rattle.abc_link_names.specs.declared.part.Part.TheVariants as parts
use Rattle.abc_verify_typing.specs.Rows.{row_at, table_of_rows}
use Rattle.abc_frames.specs.Frame.{newest}
use Rattle.abc_meaning.specs.Table.{act_of, acts}
use Rattle.abc_run_state.specs.Outer.{Outer, setting_in, world}
use Rattle.abc_run_state.specs.Settling.{pushes_instead}
use Rattle.abc_meaning.specs.World.{see, some, ◌>>=◌}
use Rattle.abc_meaning.specs.Entering.{global}
use Rattle.abc_meaning.specs.Setting.{routine_of}
use Rattle.abc_run_state.specs.declared.state.State.{State}
use Rattle.abc_run_dispatch.proofs.DeletedTaken.{taken}
use Rattle.abc_run_dispatch.proofs.Takes.{all_arguments, no_arguments, none_taken}
use Rattle.abc_file_types.specs.declared.code.Instr.TheVariants.{One, Plain}
use Rattle.abc_verify_typing.specs.Routines.{Routine}
use Rattle.abc_verify_typing.specs.declared.catch.Catch.{Catch}

-- ---- layouts of the method that runs

activated : (l : LinkedFile) (out : Outer) (s : State) (b : ℕ) (r : Routine) → routine_of (setting_in l out) (newest s.frames).method ≡ Some r → body_of l.file (newest s.frames).method ≡ Some b → r.needs_activation ≡ true
    → Does l out s (Plain 0x57) 0 1 (pushes_instead 0 (newest s.frames) (scope_object_for (setting_in l out) r.activation.0 whats.Activation))
    → Does l out s (Plain 0x57) 0 1 (pushes_activation (setting_in l out) b (newest s.frames)) × HasLayout l.file (parts.Activation b)
activated l out s b r e q t d =
    let p = setting_in l out in
    let n = (newest s.frames).method in
    (record { ready = d.ready; does = d.does ∙ ap (λ (x : Routine). pushes_instead 0 (newest s.frames) (scope_object_for p x.activation.0 whats.Activation) (world s out)) (routine_is p n b r e q) }, has_activation_layout p n b r e q t)

caught : (l : LinkedFile) (out : Outer) (s : State) (n b : ℕ) (r : Routine) → routine_of (setting_in l out) (newest s.frames).method ≡ Some r → body_of l.file (newest s.frames).method ≡ Some b → n < length r.handlers
    → Does l out s (One 0x5A n) 0 1 (pushes_instead 0 (newest s.frames) (some (slice_get r.handlers n) >>= λ h. scope_object_for (setting_in l out) h.layout.0 whats.Catch))
    → Does l out s (One 0x5A n) 0 1 (pushes_catch (setting_in l out) b n (newest s.frames)) × HasLayout l.file (parts.Catch b n)
caught l out s n b r e q lt d =
    let p = setting_in l out in
    let f = newest s.frames in
    let w = world s out in
    let c = catch_is p f.method b n r e q lt in
    let by_handler = ap (λ (o : Option Catch). pushes_instead 0 f (some o >>= λ h. scope_object_for p h.layout.0 whats.Catch) w) c.0.is in
    let by_layout = ap (λ (x : LayoutId). pushes_instead 0 f (scope_object_for p x.0 whats.Catch) w) c.0.layout in
    (record { ready = d.ready; does = d.does ∙ by_handler ∙ by_layout }, c.1)

-- ---- by the opcodes

pub op_40 : (l : LinkedFile) (out : Outer) (s : State) (n : ℕ) → CanRun l out s (One 0x40 n) → Does l out s (One 0x40 n) 0 1 (pushes_function (setting_in l out) n (newest s.frames)) × (n < length l.file.methods)
unfolding row_at table_of_rows act_of acts
op_40 l out s n can = let a = taken l out s (One 0x40 n) _ _ 0 0 1 [] [] can refl refl (no_arguments n) (λ form. none_taken _ 0 _ _ refl) refl in (record { ready = a.ready; does = a.does }, ltb-true _ _ (and_parts _ _ a.tests.table).0)

pub op_57 : (l : LinkedFile) (out : Outer) (s : State) (b : ℕ) → CanRun l out s (Plain 0x57) → body_of l.file (newest s.frames).method ≡ Some b → Does l out s (Plain 0x57) 0 1 (pushes_activation (setting_in l out) b (newest s.frames)) × HasLayout l.file (parts.Activation b)
unfolding row_at table_of_rows act_of acts
op_57 l out s b can q = let a = taken l out s (Plain 0x57) _ _ 0 0 1 [] [] can refl refl refl (λ form. none_taken _ 0 _ _ refl) refl in activated l out s b a.routine a.body q a.tests.site (record { ready = a.ready; does = a.does })

pub op_5A : (l : LinkedFile) (out : Outer) (s : State) (n b : ℕ) → CanRun l out s (One 0x5A n) → body_of l.file (newest s.frames).method ≡ Some b → Does l out s (One 0x5A n) 0 1 (pushes_catch (setting_in l out) b n (newest s.frames)) × HasLayout l.file (parts.Catch b n)
unfolding row_at table_of_rows act_of acts
op_5A l out s n b can q = let a = taken l out s (One 0x5A n) _ _ 0 0 1 [] [] can refl refl (no_arguments n) (λ form. none_taken _ 0 _ _ refl) refl in caught l out s n b a.routine a.body q (ltb-true _ _ a.tests.table) (record { ready = a.ready; does = a.does })

pub op_64 : (l : LinkedFile) (out : Outer) (s : State) → CanRun l out s (Plain 0x64) → Does l out s (Plain 0x64) 0 1 (pushes_instead 0 (newest s.frames) (see (global (newest s.frames).home)))
unfolding row_at table_of_rows act_of acts
op_64 l out s can = let a = taken l out s (Plain 0x64) _ _ 0 0 1 [] [] can refl refl refl (λ form. none_taken _ 0 _ _ refl) refl in record { ready = a.ready; does = a.does }

pub op_55 : (l : LinkedFile) (out : Outer) (s : State) (n : ℕ) → CanRun l out s (One 0x55 n) → Does l out s (One 0x55 n) (2 * n) 1 (pushes_object (setting_in l out) n (newest s.frames))
unfolding row_at table_of_rows act_of acts
op_55 l out s n can = let a = taken l out s (One 0x55 n) _ _ (2 * n) (2 * n) 1 [] [] can refl refl refl (λ form. none_taken _ (2 * n) _ _ refl) refl in record { ready = a.ready; does = a.does }

pub op_56 : (l : LinkedFile) (out : Outer) (s : State) (n : ℕ) → CanRun l out s (One 0x56 n) → Does l out s (One 0x56 n) n 1 (pushes_array (setting_in l out) n (newest s.frames))
unfolding row_at table_of_rows act_of acts
op_56 l out s n can = let a = taken l out s (One 0x56 n) _ _ n n 1 [] [] can refl refl (all_arguments n) (λ form. none_taken _ n _ _ refl) refl in record { ready = a.ready; does = a.does }
