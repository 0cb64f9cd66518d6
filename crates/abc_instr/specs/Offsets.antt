-- Instructions between reading and resolving, as they are spelled: with offsets in bytes.
use Rattle.std.specs.Prelude.{◌≡◌, ℕ, ◌+◌, ◌-◌, ◌*◌, ◌^◌, ◌<◌, ◌≤◌, All, Bool, true, false, List, [], ◌∷◌, length, Some, Ok, Err}
use Rattle.std.specs.declared.result.Result.{Result}
use Rattle.abc_file_types.specs.declared.code.Instr.{Instr}
use Rattle.abc_file_types.specs.declared.code.Instr.TheVariants as instrs
use Rattle.abc_file_types.specs.declared.opcodes.Form.TheVariants as forms
use Rattle.abc_file_types.specs.Canonical.{FitsS24}
use Rattle.abc_file_types.specs.CodeBytes.{instr_len, number_len}
use Rattle.abc_file_types.specs.Instructions.{RawInstr, Same, Branch, Switch}
use Rattle.abc_file_types.specs.Opcodes.{form_at}
use Rattle.abc_file_types.specs.Ready.{CanSpell}
use Rattle.abc_file_types.specs.Starts.{size}
use Rattle.abc_instr.specs.declared.raw.RawInstr.{RawInstr as Raw}
use Rattle.abc_instr.specs.declared.raw.RawInstr.TheVariants as raws

-- the instruction as the format knows it
abbrev pub raw_of : Raw → RawInstr
raw_of (raws.Same i) = Same i
raw_of (raws.Branch op z) = Branch op z
raw_of (raws.Switch z zs) = Switch z zs

-- one byte for the opcode, and the fewest for each operand
abbrev pub raw_len : Raw → ℕ
raw_len (raws.Same i) = instr_len i
raw_len (raws.Branch op z) = 1 + 3
raw_len (raws.Switch z zs) = 1 + 3 + number_len (length zs - 1) + 3 * length zs

abbrev pub raws_sized : List Raw → List (Raw × ℕ)
raws_sized [] = []
raws_sized (i ∷ is) = (i, raw_len i) ∷ raws_sized is

-- the sum over all of them
abbrev pub raws_len : List Raw → ℕ
raws_len is = size (raws_sized is)

-- It has targets.
abbrev pub has_targets : Instr → Bool
has_targets (instrs.Plain op) = false
has_targets (instrs.One op n) = false
has_targets (instrs.Two op n m) = false
has_targets (instrs.Branch op t) = true
has_targets (instrs.Switch t ts) = true
has_targets (instrs.Byte z) = false
has_targets (instrs.Short z) = false
has_targets (instrs.ScopeObject x) = false
has_targets (instrs.Debug kind name reg extra) = false

-- Some bytes spell it.
abbrev pub IsRaw : Raw → Type 0
IsRaw (raws.Same i) = CanSpell 0 i × (has_targets i ≡ false)
IsRaw (raws.Branch op z) = (form_at op ≡ Some forms.Branch) × FitsS24 z
IsRaw (raws.Switch z zs) = (0 < length zs) × (length zs ≤ 2 ^ 30) × FitsS24 z × All FitsS24 zs

abbrev pub AreRaw : List Raw → Type 0
AreRaw [] = Unit {0}
AreRaw (i ∷ is) = IsRaw i × AreRaw is

-- a result whose value is seen as another
abbrev pub map_value : {A B E : Type 0} → (A → B) → Result A E → Result B E
map_value f (Ok x) = Ok (f x)
map_value f (Err e) = Err e
