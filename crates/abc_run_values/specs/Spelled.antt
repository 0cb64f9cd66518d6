-- Instructions as bytes spell them: each opcode has one form, and numbers are below 2^30.
use Rattle.std.specs.Prelude.{◌≡◌, ℕ, ◌<◌, ◌^◌, Some}
use Rattle.abc_file_types.specs.Opcodes.{form_at}
use Rattle.abc_file_types.specs.declared.code.Instr.{Instr}
use Rattle.abc_file_types.specs.declared.code.Instr.TheVariants as instrs
use Rattle.abc_file_types.specs.declared.opcodes.Form.{Form}
use Rattle.abc_file_types.specs.declared.opcodes.Form.TheVariants as forms

pub record HasForm (op : ℕ) (form : Form) : Type 0 where
  pub is : form_at op ≡ Some form
  pub low : op < 2 ^ 8

abbrev pub IsSpelled : Instr → Type 0
IsSpelled (instrs.Plain op) = HasForm op forms.Plain
IsSpelled (instrs.One op n) = HasForm op forms.One × (n < 2 ^ 30)
IsSpelled (instrs.Two op m n) = HasForm op forms.Two × (m < 2 ^ 30) × (n < 2 ^ 30)
IsSpelled (instrs.Branch op t) = HasForm op forms.Branch
IsSpelled (instrs.Switch t ts) = Unit {0}
IsSpelled (instrs.Byte n) = Unit {0}
IsSpelled (instrs.Short n) = Unit {0}
IsSpelled (instrs.ScopeObject n) = Unit {0}
IsSpelled (instrs.Debug kind name reg extra) = Unit {0}
