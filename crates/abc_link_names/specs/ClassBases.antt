-- The base of a class, as what its name stands for.
use Rattle.std.specs.Prelude.{ℕ, ◌<◌, Some, None, length}
use Rattle.std.specs.declared.option.Option.{Option}
use Rattle.abc_link_names.specs.declared.named.Named.{Named}
use Rattle.abc_link_names.specs.declared.named.Named.TheVariants as named
use Rattle.abc_link_names.specs.Linked.{LinkedFile}

-- the base of a class, if it has one, is a class of the file or of the host
abbrev pub BaseKnown : LinkedFile → Option Named → Type 0
BaseKnown l None = Unit {0}
BaseKnown l (Some (named.Host c)) = Unit {0}
BaseKnown l (Some (named.Class j)) = j < length l.file.instances
BaseKnown l (Some other) = ⊥
