-- Which instructions some bytes spell.
use Rattle.std.specs.Prelude.{◌≡◌, ℕ, pos, negsuc, ◌≤ℤ◌, ◌<ℤ◌, ◌^◌, ◌<◌, ◌≤◌, Some, List, [], ◌∷◌, length, get_or}
use Rattle.abc_file_types.specs.declared.code.Instr.{Instr}
use Rattle.abc_file_types.specs.declared.code.Instr.TheVariants as instrs
use Rattle.abc_file_types.specs.declared.opcodes.Form.TheVariants as forms
use Rattle.abc_file_types.specs.Opcodes.{form_at}
use Rattle.abc_file_types.specs.CodeBytes.{code_len}

abbrev pub AllUpTo : ℕ → List ℕ → Type 0
AllUpTo n [] = Unit {0}
AllUpTo n (t ∷ ts) = (t ≤ n) × AllUpTo n ts

-- The form is that of the opcode, each number fits, and the targets are numbers of the n instructions or of the end.
abbrev pub CanSpell : ℕ → Instr → Type 0
CanSpell n (instrs.Plain op) = form_at op ≡ Some forms.Plain
CanSpell n (instrs.One op x) = (form_at op ≡ Some forms.One) × (x < 2 ^ 30)
CanSpell n (instrs.Two op x y) = (form_at op ≡ Some forms.Two) × (x < 2 ^ 30) × (y < 2 ^ 30)
CanSpell n (instrs.Branch op t) = (form_at op ≡ Some forms.Branch) × (t ≤ n)
CanSpell n (instrs.Switch t ts) = (t ≤ n) × AllUpTo n ts × (0 < length ts) × (length ts ≤ 2 ^ 30)
CanSpell n (instrs.Byte z) = (negsuc 127 ≤ℤ z) × (z <ℤ pos 128)
CanSpell n (instrs.Short z) = (negsuc 32767 ≤ℤ z) × (z <ℤ pos 32768)
CanSpell n (instrs.ScopeObject x) = Unit {0}
CanSpell n (instrs.Debug kind name reg extra) = (name < 2 ^ 30) × (extra < 2 ^ 30)

abbrev pub AllCanSpell : ℕ → List Instr → Type 0
AllCanSpell n [] = Unit {0}
AllCanSpell n (i ∷ is) = CanSpell n i × AllCanSpell n is

-- for the prover alone: each start lies below the greatest length
abbrev pub Small : List ℕ → ℕ → Type 0
Small ss n = (t : ℕ) → t ≤ n → get_or ss t 0 < 2 ^ 23

-- Just these instructions are spelled by some bytes.
pub record IsReady (is : List Instr) : Type 0 where
  pub can : AllCanSpell (length is) is
  pub short : code_len is < 2 ^ 23
