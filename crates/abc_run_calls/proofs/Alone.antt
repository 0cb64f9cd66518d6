-- Exactly one argument.
use Rattle.std.proofs.Common.{◌≡◌, ℕ, ◌≤◌, List, [], ◌∷◌, length, refl, sym, ◌∙◌}
use Rattle.abc_base.specs.declared.names.HostClass.TheVariants.{ArgumentError}
use Rattle.abc_heap_values.specs.declared.values.Value.{Value}
use Rattle.abc_frames.specs.Frame.{Frame, arguments}
use Rattle.abc_meaning.specs.Calling.{Came, only_argument}
use Rattle.abc_meaning.specs.World.{Errs, Run, Stopped, World}
use Rattle.abc_run_calls.proofs.Operands.{count_given}

refused : (vs : List Value) (g : Value → Run Came) (w : World) → (length vs ≡ 1 → ⊥) → only_argument vs g w ≡ Stopped w (Errs ArgumentError)
refused [] g w h = refl
refused (v ∷ []) g w h = absurd (h refl)
refused (u ∷ v ∷ vs) g w h = refl

pub only_refused : (f : Frame) (count : ℕ) (g : Value → Run Came) (w : World) → (count ≡ 1 → ⊥) → count ≤ length f.stack → only_argument (arguments count f) g w ≡ Stopped w (Errs ArgumentError)
only_refused f count g w h le = refused (arguments count f) g w (λ e. h (sym (count_given f count le) ∙ e))
