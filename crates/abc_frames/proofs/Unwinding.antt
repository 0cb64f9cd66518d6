-- What a frame that catches does, and one that doesn't.
use Rattle.std.proofs.Common.{◌≡◌, ◌<◌, ℕ, List, [], ◌∷◌, length, refl, subst, arith, Some, None}
use Rattle.abc_heap_values.specs.declared.values.Value.{Value}
use Rattle.abc_frames.specs.declared.records.Size.{Size}
use Rattle.abc_frames.specs.Frame.{Frame, after_catch, first_size, newest_of, rest_of, under}
use Rattle.abc_frames.specs.Throws.{CanCatch, MayKeep, Targets, sizes_left, target_for, unwound}

pub keeps : (t : Targets) (fs : List Frame) (ss : List Size) (target : ℕ) → CanCatch t fs ss → 0 < length fs → target_for t (newest_of fs) ≡ Some target → 0 < (first_size ss).stack
keeps t [] ss target c b e = absurd (omega arith)
keeps t (f ∷ fs) [] target c b e = absurd c
keeps t (f ∷ fs) (s ∷ ss) target c b e = subst (λ o. MayKeep o s (CanCatch t fs ss)) e c

pub catches_below : (t : Targets) (fs : List Frame) (ss : List Size) → CanCatch t fs ss → 0 < length fs → target_for t (newest_of fs) ≡ None → CanCatch t (under fs) (rest_of ss)
catches_below t [] ss c b e = absurd (omega arith)
catches_below t (f ∷ fs) [] c b e = absurd c
catches_below t (f ∷ fs) (s ∷ ss) c b e = subst (λ o. MayKeep o s (CanCatch t fs ss)) e c

pub unwound_left : (t : Targets) (v : Value) (fs : List Frame) → 0 < length fs → target_for t (newest_of fs) ≡ None → unwound t v (under fs) ≡ unwound t v fs
unwound_left t v [] b e = absurd (omega arith)
unwound_left t v (f ∷ fs) b e = rw e refl

pub unwound_caught : (t : Targets) (v : Value) (fs : List Frame) (target : ℕ) → 0 < length fs → target_for t (newest_of fs) ≡ Some target → after_catch v target (newest_of fs) ∷ under fs ≡ unwound t v fs
unwound_caught t v [] target b e = absurd (omega arith)
unwound_caught t v (f ∷ fs) target b e = rw e refl

pub sizes_below : (t : Targets) (fs : List Frame) (ss : List Size) → CanCatch t fs ss → 0 < length fs → target_for t (newest_of fs) ≡ None → sizes_left t (under fs) (rest_of ss) ≡ sizes_left t fs ss
sizes_below t [] ss c b e = absurd (omega arith)
sizes_below t (f ∷ fs) [] c b e = absurd c
sizes_below t (f ∷ fs) (s ∷ ss) c b e = rw e refl

pub sizes_caught : (t : Targets) (fs : List Frame) (ss : List Size) (target : ℕ) → CanCatch t fs ss → 0 < length fs → target_for t (newest_of fs) ≡ Some target → ss ≡ sizes_left t fs ss
sizes_caught t [] ss target c b e = absurd (omega arith)
sizes_caught t (f ∷ fs) [] target c b e = absurd c
sizes_caught t (f ∷ fs) (s ∷ ss) target c b e = rw e refl

pub none_left : (t : Targets) (v : Value) (fs : List Frame) → length fs ≡ 0 → fs ≡ unwound t v fs
none_left t v [] e = refl
none_left t v (f ∷ fs) e = absurd (omega arith)

pub no_sizes_left : (t : Targets) (fs : List Frame) (ss : List Size) → length fs ≡ 0 → ss ≡ sizes_left t fs ss
no_sizes_left t [] ss e = refl
no_sizes_left t (f ∷ fs) ss e = absurd (omega arith)
