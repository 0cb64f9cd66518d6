-- Fields of one byte, which bytes below 256 spell.
use Rattle.std.specs.Prelude.{◌<◌}
use Rattle.std.specs.List.{AllByRecursion}
use Rattle.abc_file_types.specs.declared.code.Instr.{Instr}
use Rattle.abc_file_types.specs.declared.code.Instr.TheVariants as instrs
use Rattle.abc_file_types.specs.declared.tables.Abc.{Abc}

-- the fields of one byte, which are below 256
abbrev pub HasByteFields : Instr → Type 0
HasByteFields (instrs.ScopeObject n) = n < 256
HasByteFields (instrs.Debug kind name reg extra) = (kind < 256) × (reg < 256)
HasByteFields _ = Unit {0}

-- The fields of one byte are below 256.
pub record HasByteValues (v : Abc) : Type 0 where
  pub doubles : AllByRecursion (λ d. AllByRecursion (λ b. b < 256) d.0) v.doubles
  pub strings : AllByRecursion (λ s. AllByRecursion (λ b. b < 256) s) v.strings
  pub methods : AllByRecursion (λ m. m.flags < 256) v.methods
  pub instance_list : AllByRecursion (λ i. i.flags < 256) v.instances
  pub bodies : AllByRecursion (λ b. AllByRecursion HasByteFields b.code) v.bodies
