-- From a part that answers a value to the instruction that pushes it.
use Rattle.std.proofs.Common.{◌≡◌, ℕ, ◌+◌, List, ◌∷◌, drop, refl, sym, ap, ◌∙◌}
use Rattle.abc_heap_values.specs.declared.values.ObjId.{ObjId}
use Rattle.abc_heap_values.specs.declared.values.Value.{Value}
use Rattle.abc_heap_values.specs.declared.values.Value.TheVariants.{Obj}
use Rattle.abc_meaning.specs.Newing.{object_value}
use Rattle.abc_frames.specs.Moves.{after_finish}
use Rattle.abc_frames.specs.Frame.{Frames, newest, under, with_newest}
use Rattle.abc_run_state.specs.Stops.{why}
use Rattle.abc_run_state.specs.Turns.{GoesOn, Halts, bare_newest, turn_of}
use Rattle.abc_run_state.specs.declared.state.Stop.{Stop}
use Rattle.abc_meaning.specs.Setting.{Setting}
use Rattle.abc_meaning.specs.World.{Run, Stopped, Went, World, and_then, pure}
use Rattle.abc_run_state.specs.Settling.{pushes_instead}
use Rattle.abc_run_state.specs.Pairs.{with_operands}

pub object_went : (m : Run ObjId) (w new : World) (o : ObjId) → m w ≡ Went new o → object_value m w ≡ Went new (Obj o)
object_went m w new o e = ap (λ r. and_then r (λ (x : ObjId). pure (Obj x))) e

pub object_stopped : (m : Run ObjId) (w new : World) (e : Stop) → m w ≡ Stopped new (why e) → object_value m w ≡ Stopped new (why e)
object_stopped m w new s e = ap (λ r. and_then r (λ (x : ObjId). pure (Obj x))) e

-- `q` are the frames before, `mid` those that the part left, and `r` those that are left
pub pushes_on : (p : Setting) (q mid r : Frames) (n : ℕ) (m : Run Value) (w new : World) (v : Value) → m w ≡ Went new v → mid ≡ q → r ≡ with_newest (after_finish n v) mid → turn_of p q (pushes_instead n (newest q) m w) ≡ GoesOn new r
pushes_on p q mid r n m w new v e same is =
    ap (λ o. turn_of p q (and_then o (λ x. pushes_instead n (newest q) (pure x)))) e
    ∙ ap (λ k. GoesOn new (with_newest (after_finish n v) k)) (sym same)
    ∙ ap (GoesOn new) (sym is)

pub pushes_stopped : (p : Setting) (q mid : Frames) (n : ℕ) (m : Run Value) (w new : World) (s : Stop) → m w ≡ Stopped new (why s) → mid ≡ q → turn_of p q (pushes_instead n (newest q) m w) ≡ Halts new (bare_newest mid) (why s)
pushes_stopped p q mid n m w new s e same =
    ap (λ o. turn_of p q (and_then o (λ x. pushes_instead n (newest q) (pure x)))) e
    ∙ ap (λ k. Halts new (bare_newest k) (why s)) (sym same)

-- ---- the same where the operands that are taken were written before

abbrev finishing : Frames → List Value → Value → Frames
finishing q xs v = record q { living = record (newest q) { stack = v ∷ xs; place = (newest q).place + 1 } ∷ under q.living }

pub pushes_over : (p : Setting) (q mid r : Frames) (n : ℕ) (vs : List Value) (m : Run Value) (w new : World) (v : Value) → m w ≡ Went new v → drop n vs ≡ drop n (newest q).stack → mid ≡ with_operands vs q → r ≡ with_newest (after_finish n v) mid
    → turn_of p q (pushes_instead n (newest q) m w) ≡ GoesOn new r
pushes_over p q mid r n vs m w new v e same is by =
    pushes_on p q q (with_newest (after_finish n v) q) n m w new v e refl refl
    ∙ ap (λ xs. GoesOn new (finishing q xs v)) (sym same)
    ∙ ap (λ k. GoesOn new (with_newest (after_finish n v) k)) (sym is)
    ∙ ap (GoesOn new) (sym by)

pub pushes_stopped_over : (p : Setting) (q mid : Frames) (n : ℕ) (vs : List Value) (m : Run Value) (w new : World) (s : Stop) → m w ≡ Stopped new (why s) → mid ≡ with_operands vs q → turn_of p q (pushes_instead n (newest q) m w) ≡ Halts new (bare_newest mid) (why s)
pushes_stopped_over p q mid n vs m w new s e is =
    pushes_stopped p q q n m w new s e refl
    ∙ ap (λ k. Halts new (bare_newest k) (why s)) (sym is)
