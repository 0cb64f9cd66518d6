-- The class object of a class, and the class that comes.
use Rattle.std.proofs.Common.{◌≡◌, ◌∙◌, ℕ, zero, suc, List, [], ◌∷◌, refl, ap}
use Rattle.std.specs.Prelude.{Some, None, get_or, slice_get}
use Rattle.std.specs.declared.option.Option.{Option}
use Rattle.abc_base.specs.declared.names.HostClass.TheVariants as hosts
use Rattle.abc_heap_values.specs.declared.values.ObjId.{ObjId}
use Rattle.abc_frames.specs.Frame.{Frame}
use Rattle.abc_meaning.specs.Newing.{unmade}
use Rattle.abc_meaning.specs.Objects.{flat_value}
use Rattle.abc_meaning.specs.Setting.{Setting}
use Rattle.abc_meaning.specs.World.{Errs, Stopped, World, and_then}
use Rattle.abc_run_members.specs.Scoped.{makes_class_here, makes_unmade}

-- ---- the class object of a class

pub flat_is : (cs : List (Option ObjId)) (k : ℕ) → flat_value (slice_get cs k) ≡ get_or cs k None
flat_is [] k = refl
flat_is (c ∷ cs) zero = refl
flat_is (c ∷ cs) (suc k) = flat_is cs k

-- ---- the class that comes

-- what is not yet made
pub unmade_is : (p : Setting) (k : ℕ) (f : Frame) (w : World) → get_or w.heap.classes k None ≡ None → makes_class_here p k f w ≡ makes_unmade p k f w
unmade_is p k f w e = ap (λ o. and_then (unmade o w) (λ u. makes_unmade p k f)) (flat_is w.heap.classes k ∙ e)

pub made_twice : (p : Setting) (k : ℕ) (f : Frame) (w : World) (o : ObjId) → get_or w.heap.classes k None ≡ Some o → makes_class_here p k f w ≡ Stopped w (Errs hosts.TypeError)
made_twice p k f w o e = ap (λ x. and_then (unmade x w) (λ u. makes_unmade p k f)) (flat_is w.heap.classes k ∙ e)
