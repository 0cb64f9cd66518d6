-- How a run ends whose log is handed on by blocks.
use Rattle.std.specs.Prelude.{◌≡◌, ◌⊎◌, ℕ, List, []}
use Rattle.abc_machine.specs.declared.ends.End.{End}
use Rattle.abc_machine.specs.declared.ends.End.TheVariants as ends

-- as it ended, where nothing waits; or writing failed, in the run or as it ended
abbrev pub EndsBlocks : (end result : End) → (waiting : List ℕ) → Type 0
EndsBlocks end result waiting = ((result ≡ end) × (waiting ≡ [])) ⊎ (result ≡ ends.WriteFault)
