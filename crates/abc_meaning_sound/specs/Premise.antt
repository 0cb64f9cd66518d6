-- What the code of a run may rely on.
use Rattle.std.specs.Prelude.{◌≡◌, List, ◌∷◌}
use Rattle.abc_base.specs.declared.formula.Formula.{Formula}
use Rattle.abc_heap_store.specs.declared.records.Limits.{Limits}
use Rattle.abc_meaning.specs.ThrowLaws.{IsVerifiedSetting}
use Rattle.abc_meaning.specs.Meaning.{first_state}
use Rattle.abc_meaning.specs.Sound.{AreTypings, IsSound, Typings}
use Rattle.abc_objects.specs.Opening.{formula_names}
use Rattle.abc_link_names.specs.Linked.{LinkedFile}
use Rattle.abc_frames.specs.Frame.{Frame}
use Rattle.abc_meaning.specs.Setting.{Setting}
use Rattle.abc_meaning.specs.World.{World}
use Rattle.abc_meaning.specs.Running.{IsRunning}

-- in a sound state of a verified file, the newest frame has an instruction that can be done
abbrev pub SoundFramesRun : Type 0
SoundFramesRun = (p : Setting) (typings : Typings) (w : World) (f : Frame) (fs : List Frame) → IsVerifiedSetting p → AreTypings p typings → IsSound p typings (record { world = w; frames = f ∷ fs }) → IsRunning p w f

-- a verified file has typings, of which sound states are told
abbrev pub VerifiedHaveTypings : Type 0
VerifiedHaveTypings = (p : Setting) → IsVerifiedSetting p → (typings : Typings) × AreTypings p typings

-- the state that a run begins with depends on the names of the host's formulas alone
abbrev pub FirstByNames : Type 0
FirstByNames = (l : LinkedFile) (fs gs : List Formula) (limits : Limits) → formula_names fs ≡ formula_names gs → first_state (record { linked = l; formulas = fs }) limits ≡ first_state (record { linked = l; formulas = gs }) limits
