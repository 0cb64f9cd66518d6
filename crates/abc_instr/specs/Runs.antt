-- Runs of instructions that are in their shortest forms, and are copied as they stand.
use Rattle.std.specs.Prelude.{◌≡◌, ℕ, ◌+◌, ◌<◌, ◌≤◌, List, [], ◌∷◌, ◌++◌, length, take, drop, Some, None}
use Rattle.std.specs.List.{flat_map}
use Rattle.std.specs.declared.option.Option.{Option}
use Rattle.abc_file_types.specs.declared.opcodes.Form.{Form}
use Rattle.abc_file_types.specs.declared.opcodes.Form.TheVariants as forms
use Rattle.abc_file_types.specs.Instructions.{instruction}
use Rattle.abc_file_types.specs.Opcodes.{form_at}
use Rattle.abc_file_types.specs.Starts.{size as size_of}
use Rattle.abc_varint.specs.Ready.{HoldsReady}
use Rattle.abc_varint.specs.View.{View, held_bytes, onward}
use Rattle.abc_instr.specs.declared.holes.Hole.{Hole}
use Rattle.abc_instr.specs.declared.raw.RawInstr.{RawInstr as Raw}
use Rattle.abc_instr.specs.declared.run.Step.{Step}
use Rattle.abc_instr.specs.declared.scan.Scan.{Scan}
use Rattle.abc_instr.specs.Marks.{mark_at}
use Rattle.abc_instr.specs.Offsets.{IsRaw, raw_len, raw_of}
use Rattle.abc_instr.specs.Scanning.{holes_from, holes_in, instrs_in, jump_in, raw_bytes, start_in}

-- ---- the table of steps

-- how many bytes an instruction of this form has where its numbers have one byte each, and below what the two bytes behind its opcode stand then
abbrev pub step_of_form : Option Form → Step
step_of_form (Some forms.Plain) = record { len = 1; first = 256; second = 256 }
step_of_form (Some forms.One) = record { len = 2; first = 128; second = 256 }
step_of_form (Some forms.Two) = record { len = 3; first = 128; second = 128 }
step_of_form (Some forms.Branch) = record { len = 0; first = 0; second = 0 }
step_of_form (Some forms.Switch) = record { len = 0; first = 0; second = 0 }
step_of_form (Some forms.Byte) = record { len = 2; first = 256; second = 256 }
step_of_form (Some forms.Short) = record { len = 2; first = 128; second = 256 }
step_of_form (Some forms.ScopeObject) = record { len = 2; first = 256; second = 256 }
step_of_form (Some forms.Debug) = record { len = 0; first = 0; second = 0 }
step_of_form None = record { len = 0; first = 0; second = 0 }

abbrev pub step_at : ℕ → Step
step_at op = step_of_form (form_at op)

-- ---- what a run goes over

-- The first n bytes spell the instruction.
pub record IsSpelled (x : Raw) (n : ℕ) (bytes : List ℕ) : Type 0 where
  pub spells : instruction.spells (raw_of x) (take n bytes)
  pub raw : IsRaw x
  pub some : 0 < n
  pub short : raw_len x ≤ n
  pub within : n ≤ length bytes

-- They are its canonical bytes besides, but for offsets.
pub record IsCopied (x : Raw) (n : ℕ) (bytes : List ℕ) : Type 0 where
  pub spelled : IsSpelled x n bytes
  pub shortest : take n bytes ≡ raw_bytes x

-- They are so an instruction without targets.
pub record IsPassed (n : ℕ) (bytes : List ℕ) : Type 0 where
  pub instr : Raw
  pub copied : IsCopied instr n bytes
  pub plain : jump_in instr ≡ None

-- They are so an instruction, and its offset was noted: it is from `here` on as it was read, and from `moved` on in the canonical code.
pub record StepsOver (n : ℕ) (bytes : List ℕ) (most here moved : ℕ) (old new : List Hole) : Type 0 where
  pub instr : Raw
  pub copied : IsCopied instr n bytes
  pub room : n ≤ most
  pub noted : new ≡ old ++ holes_in instr here (here + n) moved

-- so one after the other, each with the number of its bytes
abbrev pub AreSpelled : List (Raw × ℕ) → List ℕ → Type 0
AreSpelled [] bytes = Unit {0}
AreSpelled (x ∷ xs) bytes = IsSpelled x.0 x.1 bytes × AreSpelled xs (drop x.1 bytes)

-- a start of theirs, or what was marked before
abbrev pub started : (ℕ → Option ℕ) → Option ℕ → ℕ → Option ℕ
started marks (Some m) p = Some m
started marks None p = marks p

-- Instructions of n bytes, from `here` on as they were read and from `moved` on in the canonical code, were marked, and their offsets noted.
pub record Runs (bytes : List ℕ) (here moved : ℕ) (marks marks2 : ℕ → Option ℕ) (old new : List Hole) (n : ℕ) : Type 0 where
  pub xs : List (Raw × ℕ)
  pub spelled : AreSpelled xs bytes
  pub size : size_of xs ≡ n
  pub shortest : take n bytes ≡ flat_map raw_bytes (instrs_in xs)
  pub marked : (p : ℕ) → marks2 p ≡ started marks (start_in here moved xs p) p
  pub noted : new ≡ old ++ holes_from here moved xs

-- Instructions from `here` on came to the scan, as they stand among the bytes at hand, and the window went on past them.
pub record ScansRun (here : ℕ) (w w2 : View) (old new : Scan) : Type 0 where
  pub count : ℕ
  pub ready : 0 < count → HoldsReady count w
  pub is : w2 ≡ onward count w
  pub run : Runs (held_bytes w) here (length old.code.items) (mark_at old.marks) (mark_at new.marks) old.holes.items new.holes.items count
  pub code : new.code.items ≡ old.code.items ++ take count (held_bytes w)
