-- How a run of a linked file beside a host is set, and where opening one is refused.
use Rattle.std.specs.Prelude.{◌≡◌, List, Some}
use Rattle.abc_base.specs.declared.formula.Formula.{Formula}
use Rattle.abc_heap_store.specs.declared.records.Limits.{Limits}
use Rattle.abc_link_names.specs.Linked.{LinkedFile}
use Rattle.abc_meaning.specs.Meaning.{first_world, too_small}
use Rattle.abc_meaning.specs.Setting.{Setting}
use Rattle.abc_objects.specs.declared.error.OpenError.{OpenError}
use Rattle.abc_objects.specs.declared.error.OpenError.TheVariants as errors

-- a linked file with the formulas of a host
abbrev pub setting : LinkedFile → List Formula → Setting
setting l formulas = record { linked = l; formulas = formulas }

-- a limit is too small, or there is no memory
abbrev pub IsOpeningRefused : Setting → Limits → OpenError → Type 0
IsOpeningRefused p limits errors.NoMemory = Unit {0}
IsOpeningRefused p limits (errors.TooSmall which) = too_small (first_world p limits).heap ≡ Some which
