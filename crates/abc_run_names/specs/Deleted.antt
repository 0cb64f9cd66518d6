-- deleteproperty.
use Rattle.std.specs.Prelude.{ℕ, ◌+◌}
use Rattle.abc_frames.specs.Frame.{Frame}
use Rattle.abc_meaning.specs.At.{Act}
use Rattle.abc_meaning.specs.Simple.{flag}
use Rattle.abc_run_state.specs.Operands.{operand_at}
use Rattle.abc_run_state.specs.Settling.{pushes_instead}
use Rattle.abc_meaning.specs.Members.{deletes}
use Rattle.abc_meaning.specs.Setting.{Setting}
use Rattle.abc_meaning.specs.World.{Run, ◌>>=◌}
use Rattle.abc_run_names.specs.Named.{name_form_at, named_here, name_parts_count}

-- deleteproperty: what the name finds on the value under its parts is deleted, and a truth is pushed
abbrev pub deletes_named : Setting → ℕ → Frame → Run Act
deletes_named p n f =
    let parts = name_parts_count (name_form_at p n) in
    pushes_instead (parts + 1) f (flag (named_here p n 0 f >>= deletes p (operand_at parts f)))
