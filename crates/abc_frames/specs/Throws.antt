-- A value that is thrown: the newest frame that has a handler for it goes on there, and the frames above it are left.
use Rattle.std.specs.Prelude.{ℕ, ◌<◌, List, [], ◌∷◌, Option, Some, None}
use Rattle.abc_heap_values.specs.declared.values.Value.{Value}
use Rattle.abc_frames.specs.declared.records.Size.{Size}
use Rattle.abc_frames.specs.Frame.{Frame, after_catch}

-- where a method goes on from a place, if it catches there
abbrev pub Targets : Type 0
Targets = (method place : ℕ) → Option ℕ

abbrev pub target_for : Targets → Frame → Option ℕ
target_for t f = t f.method f.place

abbrev pub lands_on : Option ℕ → Value → Frame → List Frame → (otherwise : List Frame) → List Frame
lands_on None v f fs otherwise = otherwise
lands_on (Some target) v f fs otherwise = after_catch v target f ∷ fs

-- the frames that are left over, newest first, once v is thrown: the one that catches, and those under it; none if none does
abbrev pub unwound : Targets → Value → List Frame → List Frame
unwound t v [] = []
unwound t v (f ∷ fs) = lands_on (target_for t f) v f fs (unwound t v fs)

-- the sizes of the frames that are left over
abbrev pub sizes_from : Option ℕ → (all otherwise : List Size) → List Size
sizes_from None all otherwise = otherwise
sizes_from (Some target) all otherwise = all

-- the sizes of the frames that are left over once a value is thrown
abbrev pub sizes_left : Targets → List Frame → List Size → List Size
sizes_left t [] ss = ss
sizes_left t (f ∷ fs) [] = []
sizes_left t (f ∷ fs) (s ∷ ss) = sizes_from (target_for t f) (s ∷ ss) (sizes_left t fs ss)

-- the frame that catches, if one does, may keep an operand
abbrev pub MayKeep : Option ℕ → Size → (otherwise : Type 0) → Type 0
MayKeep None s otherwise = otherwise
MayKeep (Some target) s otherwise = 0 < s.stack

-- the frame that catches, if one does, may keep an operand: the value that is thrown
abbrev pub CanCatch : Targets → List Frame → List Size → Type 0
CanCatch t [] ss = Unit {0}
CanCatch t (f ∷ fs) [] = ⊥
CanCatch t (f ∷ fs) (s ∷ ss) = MayKeep (target_for t f) s (CanCatch t fs ss)
