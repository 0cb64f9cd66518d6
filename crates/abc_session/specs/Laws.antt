-- How a run and the calls after it end can be told.
use Rattle.std.specs.Prelude.{◌≡◌, ℕ, ◌≤◌, None}
use Rattle.abc_meaning.specs.Exports.{IsScriptMethod}
use Rattle.abc_meaning.specs.Told.{CanBeTold}
use Rattle.abc_heap_store.specs.declared.records.Limits.{Limits}
use Rattle.abc_meaning.specs.ThrowLaws.{AreCounted, IsVerifiedSetting}
use Rattle.abc_meaning.specs.Meaning.{first_world, too_small}
use Rattle.abc_meaning.specs.Setting.{Setting}
use Rattle.abc_session.specs.Ticks.{calls_meaning}

-- it can be told of every verified file that exports the method, where no limit is below what every run begins with
abbrev pub TicksCanBeTold : Type 0
TicksCanBeTold = (p : Setting) (limits : Limits) (fuel times method : ℕ) → IsVerifiedSetting p → AreCounted limits → too_small (first_world p limits).heap ≡ None → times ≤ 4294967295 → IsScriptMethod p method
    → CanBeTold p.linked.file (calls_meaning p limits fuel times method)
