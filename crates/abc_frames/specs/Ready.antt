-- What the code of an instruction may rely on.
use Rattle.std.specs.Prelude.{ℕ, ◌+◌, ◌^◌, ◌<◌, ◌≤◌, length}
use Rattle.abc_frames.specs.Frame.{Frames, newest, newest_size}
use Rattle.abc_frames.specs.declared.records.Wait.{Wait}
use Rattle.abc_frames.specs.declared.records.Wait.TheVariants.{Not, Push, Drop, Keep, Again, New}

-- a frame lives, so many operands are there, there is room for so many, and its place can be counted on
pub record HasFrameRoom (takes gives : ℕ) (q : Frames) : Type 0 where
  pub live : 0 < length q.living
  pub operands : takes ≤ length (newest q).stack
  pub room : length (newest q).stack + gives ≤ (newest_size q).stack + takes
  pub place : (newest q).place + 1 < 2 ^ 32

-- how many values a return puts on the stack of a frame that waits
abbrev pub put_by : Wait → ℕ
put_by Push = 1
put_by (Keep v) = 1
put_by Drop = 0
put_by Again = 0
put_by (New n) = 0
put_by Not = 0
