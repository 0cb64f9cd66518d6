-- What a reader would check: frames stay sound in a heap that grew.
use Rattle.std.specs.Prelude.{List}
use Rattle.abc_heap_store.specs.Heap.{Heap}
use Rattle.abc_meaning.specs.Sound.{FramesSound, Typings}
use Rattle.abc_meaning_sound.specs.Keeping.{Evolves}
use Rattle.abc_frames.specs.Frame.{Frame}
use Rattle.abc_meaning.specs.Setting.{Setting}

-- frames that are sound in a heap are sound once that has grown
abbrev pub FramesStaySound : Type 0
FramesStaySound = (p : Setting) (typings : Typings) (old new : Heap) (fs : List Frame) → Evolves old new → FramesSound p typings old fs → FramesSound p typings new fs
