-- What was written stays in front of what is written after it; and what a step changes beside the heap and the frames.
use Rattle.std.specs.Prelude.{◌≡◌, ◌⊎◌, ℕ, List, ◌++◌, set, true}
use Rattle.abc_meaning.specs.World.{World}
use Rattle.abc_meaning.specs.Throwing.{Ends, Stepped, Steps}

pub record IsWorldFront (old new : World) : Type 0 where
  pub more : List ℕ
  pub is : new.wrote ≡ old.wrote ++ more

-- the world that a step leaves
abbrev pub left_by : Stepped → World
left_by (Steps q) = q.world
left_by (Ends w e) = w

-- nothing is written, and no script is started
pub record FrontKeeps (old new : World) : Type 0 where
  pub wrote : new.wrote ≡ old.wrote
  pub started : new.started ≡ old.started

-- something is written, and no script is started
pub record WritesSome (old new : World) : Type 0 where
  pub more : List ℕ
  pub is : new.wrote ≡ old.wrote ++ more
  pub started : new.started ≡ old.started

-- a script is started, and nothing is written
pub record Starts (old new : World) : Type 0 where
  pub script : ℕ
  pub is : new.started ≡ set old.started script true
  pub wrote : new.wrote ≡ old.wrote

-- at most one of both
abbrev pub Changes : World → World → Type 0
Changes old new = WritesSome old new ⊎ Starts old new
