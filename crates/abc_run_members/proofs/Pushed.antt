-- What was found in scopes takes the place of the parts of a name.
use Rattle.std.proofs.Common.{◌≡◌, ◌∙◌, ℕ, ap, sym}
use Rattle.abc_heap_values.specs.declared.values.ObjId.{ObjId}
use Rattle.abc_heap_values.specs.declared.values.Value.{Value}
use Rattle.abc_heap_values.specs.declared.values.Value.TheVariants.{Obj}
use Rattle.abc_frames.specs.Moves.{after_finish}
use Rattle.abc_objects.specs.declared.found.ScopeFound.{ScopeFound}
use Rattle.abc_objects.specs.declared.found.ScopeFound.TheVariants.{Missing, Object, Start}
use Rattle.abc_frames.specs.Frame.{Frame, Frames, newest, with_newest}
use Rattle.abc_meaning.specs.At.{Act}
use Rattle.abc_run_calls.specs.Entering.{starts_above}
use Rattle.abc_run_state.specs.Turns.{GoesOn, turn_of}
use Rattle.abc_meaning.specs.Entering.{global}
use Rattle.abc_meaning.specs.Setting.{Setting}
use Rattle.abc_meaning.specs.World.{Run, World}
use Rattle.abc_run_members.specs.Scoped.{found_in_scope, pushes_in, pushes_or_global}

pub object_is : (p : Setting) (f : Frame) (o : ObjId) (go : ObjId → Run Act) (otherwise : Run Act) (found : ScopeFound) (w : World) → found ≡ Object o → found_in_scope p f found go otherwise w ≡ go o w
object_is p f o go otherwise found w e = ap (λ x. found_in_scope p f x go otherwise w) e

pub script_is : (p : Setting) (f : Frame) (s : ℕ) (go : ObjId → Run Act) (otherwise : Run Act) (found : ScopeFound) (w : World) → found ≡ Start s → found_in_scope p f found go otherwise w ≡ starts_above p s f w
script_is p f s go otherwise found w e = ap (λ x. found_in_scope p f x go otherwise w) e

pub nothing_is : (p : Setting) (f : Frame) (go : ObjId → Run Act) (otherwise : Run Act) (found : ScopeFound) (w : World) → found ≡ Missing → found_in_scope p f found go otherwise w ≡ otherwise w
nothing_is p f go otherwise found w e = ap (λ x. found_in_scope p f x go otherwise w) e

pub value_pushed : (p : Setting) (q r : Frames) (n : ℕ) (v : Value) (w : World) → r ≡ with_newest (after_finish n v) q → turn_of p q (pushes_in n (newest q) v w) ≡ GoesOn w r
value_pushed p q r n v w is = ap (GoesOn w) (sym is)

pub object_pushed : (p : Setting) (q r : Frames) (n : ℕ) (o : ObjId) (otherwise : Run Act) (found : ScopeFound) (w : World) → found ≡ Object o → r ≡ with_newest (after_finish n (Obj o)) q
    → turn_of p q (found_in_scope p (newest q) found (λ x. pushes_in n (newest q) (Obj x)) otherwise w) ≡ GoesOn w r
object_pushed p q r n o otherwise found w e is = ap (turn_of p q) (object_is p (newest q) o (λ x. pushes_in n (newest q) (Obj x)) otherwise found w e) ∙ value_pushed p q r n (Obj o) w is

pub global_pushed : (p : Setting) (q r : Frames) (n home : ℕ) (v : Value) (found : ScopeFound) (w : World) → found ≡ Missing → home ≡ (newest q).home → v ≡ global home w → r ≡ with_newest (after_finish n v) q
    → turn_of p q (pushes_or_global p found n (newest q) w) ≡ GoesOn w r
global_pushed p q r n home v found w e h is by =
    ap (λ x. turn_of p q (pushes_or_global p x n (newest q) w)) e
    ∙ ap (λ (k : ℕ). turn_of p q (pushes_in n (newest q) (global k w) w)) (sym h)
    ∙ ap (λ x. turn_of p q (pushes_in n (newest q) x w)) (sym is)
    ∙ value_pushed p q r n v w by
