-- The newest frame, and those under it.
use Rattle.std.proofs.Common.{◌≡◌, ◌<◌, List, [], ◌∷◌, length, refl, arith}
use Rattle.abc_frames.specs.declared.records.Size.{Size}
use Rattle.abc_frames.specs.Frame.{Frame, newest_of, first_size, under, rest_of}

pub living_is : (fs : List Frame) → 0 < length fs → fs ≡ newest_of fs ∷ under fs
living_is [] b = absurd (omega arith)
living_is (f ∷ fs) b = refl

pub sizes_are : (ss : List Size) → 0 < length ss → ss ≡ first_size ss ∷ rest_of ss
sizes_are [] b = absurd (omega arith)
sizes_are (s ∷ ss) b = refl

pub length-under : (fs : List Frame) → 0 < length fs → length (under fs) < length fs
length-under [] b = absurd (omega arith)
length-under (f ∷ fs) b = omega arith
