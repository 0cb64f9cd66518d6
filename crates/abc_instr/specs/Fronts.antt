-- Instructions without targets that are put straight from the bytes at hand.
use Rattle.std.specs.Prelude.{◌≡◌, ℕ, ◌<◌, ◌≤◌, List, ◌++◌, take, None, Some}
use Rattle.std.specs.declared.option.Option.{Option}
use Rattle.abc_file_types.specs.Instructions.{instruction}
use Rattle.abc_varint.specs.Ready.{HoldsReady}
use Rattle.abc_varint.specs.View.{View, held_bytes, onward}
use Rattle.abc_instr.specs.declared.front.Front.{Front}
use Rattle.abc_instr.specs.declared.front.Front.TheVariants as fronts
use Rattle.abc_instr.specs.declared.raw.RawInstr.{RawInstr as Raw}
use Rattle.abc_instr.specs.declared.raw.RawInstr.TheVariants as raws
use Rattle.abc_instr.specs.Offsets.{IsRaw, raw_len, raw_of}
use Rattle.abc_instr.specs.Scanning.{jump_in}

-- how many bytes spell it
abbrev pub front_length : Front → ℕ
front_length (fronts.Put n) = n
front_length (fronts.Branch op z) = 4

-- the instruction, where it has targets
abbrev pub branch_in : Front → Option Raw
branch_in (fronts.Put n) = None
branch_in (fronts.Branch op z) = Some (raws.Branch op z)

-- The first bytes, at most 11, spell an instruction: it is told where it has targets, and was put, as `puts` says, where it has none.
pub record IsInstructionFront {A : Type 0} (puts : Raw → List A) (f : Front) (bytes : List ℕ) (old new : List A) : Type 0 where
  pub instr : Raw
  pub spelled : instruction.spells (raw_of instr) (take (front_length f) bytes)
  pub some : 0 < front_length f
  pub few : front_length f ≤ 11
  pub raw : IsRaw instr
  pub short : raw_len instr ≤ front_length f
  pub told : branch_in f ≡ jump_in instr
  pub put : new ≡ old ++ puts instr

-- the instruction at the front, or nothing
abbrev pub PutsFront : {A : Type 0} → (Raw → List A) → Option Front → List ℕ → List A → List A → Type 0
PutsFront puts (Some f) bytes old new = IsInstructionFront puts f bytes old new
PutsFront puts None bytes old new = new ≡ old

-- the instruction at hand was passed by, or nothing changed
abbrev pub TakesFront : {A : Type 0} → (Raw → List A) → Option Front → View → View → List A → List A → Type 0
TakesFront puts (Some f) w w2 old new = HoldsReady (front_length f) w × (w2 ≡ onward (front_length f) w) × IsInstructionFront puts f (held_bytes w) old new
TakesFront puts None w w2 old new = (w2 ≡ w) × (new ≡ old)
