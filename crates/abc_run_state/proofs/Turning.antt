-- From parts of a step to what they make of the frames.
use Rattle.std.proofs.Common.{◌≡◌, ℕ, refl, sym, ap, ◌∙◌, subst}
use Rattle.abc_heap_values.specs.declared.values.Value.{Value}
use Rattle.abc_meaning.specs.At.{Act}
use Rattle.abc_frames.specs.Frame.{Frame, Frames, newest}
use Rattle.abc_run_state.specs.Stops.{IsOpen}
use Rattle.abc_run_state.specs.Turns.{GoesOn, Halts, bare_newest, on_top, turn_of}
use Rattle.abc_meaning.specs.Setting.{Setting}
use Rattle.abc_meaning.specs.World.{Outcome, Run, Stop, Stopped, Went, World, and_then, ◌>>=◌}

-- ---- parts that aren't stuck

pub open_first : {X Y : Type 0} (o : Outcome X) (f : X → Run Y) → IsOpen (and_then o f) → IsOpen o
open_first (Went w x) f h = tt
open_first (Stopped w why) f h = h

pub open_next : {X Y : Type 0} (o : Outcome X) (f : X → Run Y) (w : World) (x : X) → o ≡ Went w x → IsOpen (and_then o f) → IsOpen (f x w)
open_next {X = X} o f w x e h = subst (λ (q : Outcome X). IsOpen (and_then q f)) e h

-- ---- one after another

pub and_then_is : {X Y Z : Type 0} (o : Outcome X) (f : X → Run Y) (g : Y → Run Z) → and_then (and_then o f) g ≡ and_then o (λ x. f x >>= g)
and_then_is (Went w x) f g = refl
and_then_is (Stopped w why) f g = refl

pub and_then_same : {X Y : Type 0} (o : Outcome X) (f g : X → Run Y) → ((w : World) (x : X) → f x w ≡ g x w) → and_then o f ≡ and_then o g
and_then_same (Went w x) f g e = e w x
and_then_same (Stopped w why) f g e = refl

-- ---- frames

pub bared_same : (q r : Frames) → r ≡ q → bare_newest r ≡ bare_newest q
bared_same q r e = ap bare_newest e
