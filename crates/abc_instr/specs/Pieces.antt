-- Code in pieces: the bytes of the instructions without targets, and where those with some stand among them.
use Rattle.std.specs.Prelude.{◌≡◌, ℕ, ◌+◌, ◌-◌, List, [], ◌∷◌, ◌++◌, length, get_or, take, drop}
use Rattle.std.specs.List.{flat_map}
use Rattle.abc_file_types.specs.declared.code.Instr.{Instr}
use Rattle.abc_file_types.specs.declared.code.Instr.TheVariants as instrs
use Rattle.abc_file_types.specs.CodeBytes.{canonical_starts, code_len, instr_bytes, with_lengths}
use Rattle.abc_file_types.specs.Starts.{starts as starts_from}
use Rattle.abc_instr.specs.declared.pieces.Gap.{Gap}
use Rattle.abc_instr.specs.declared.pieces.Pieces.{Pieces}

-- the canonical bytes, which depend on no starts, of an instruction without targets
abbrev pub free_bytes : Instr → List ℕ
free_bytes (instrs.Plain op) = instr_bytes [] 0 0 (instrs.Plain op)
free_bytes (instrs.One op n) = instr_bytes [] 0 0 (instrs.One op n)
free_bytes (instrs.Two op n m) = instr_bytes [] 0 0 (instrs.Two op n m)
free_bytes (instrs.Branch op t) = []
free_bytes (instrs.Switch t ts) = []
free_bytes (instrs.Byte z) = instr_bytes [] 0 0 (instrs.Byte z)
free_bytes (instrs.Short z) = instr_bytes [] 0 0 (instrs.Short z)
free_bytes (instrs.ScopeObject x) = instr_bytes [] 0 0 (instrs.ScopeObject x)
free_bytes (instrs.Debug kind name reg extra) = instr_bytes [] 0 0 (instrs.Debug kind name reg extra)

-- those of an instruction with targets
abbrev pub aimed_bytes : List ℕ → ℕ → ℕ → Instr → List ℕ
aimed_bytes ss here next (instrs.Plain op) = []
aimed_bytes ss here next (instrs.One op n) = []
aimed_bytes ss here next (instrs.Two op n m) = []
aimed_bytes ss here next (instrs.Branch op t) = instr_bytes ss here next (instrs.Branch op t)
aimed_bytes ss here next (instrs.Switch t ts) = instr_bytes ss here next (instrs.Switch t ts)
aimed_bytes ss here next (instrs.Byte z) = []
aimed_bytes ss here next (instrs.Short z) = []
aimed_bytes ss here next (instrs.ScopeObject x) = []
aimed_bytes ss here next (instrs.Debug kind name reg extra) = []

-- at most one gap
abbrev pub gaps_in : Instr → ℕ → ℕ → List Gap
gaps_in (instrs.Plain op) before index = []
gaps_in (instrs.One op n) before index = []
gaps_in (instrs.Two op n m) before index = []
gaps_in (instrs.Branch op t) before index = record { before = before; index = index } ∷ []
gaps_in (instrs.Switch t ts) before index = record { before = before; index = index } ∷ []
gaps_in (instrs.Byte z) before index = []
gaps_in (instrs.Short z) before index = []
gaps_in (instrs.ScopeObject x) before index = []
gaps_in (instrs.Debug kind name reg extra) before index = []

abbrev pub gaps_from : ℕ → ℕ → List Instr → List Gap
gaps_from before index [] = []
gaps_from before index (i ∷ is) = gaps_in i before index ++ gaps_from (before + length (free_bytes i)) (index + 1) is

-- The code was taken in pieces up to an instruction that starts here.
pub record SoFar (code : List Instr) (i here : ℕ) (p : Pieces) : Type 0 where
  pub plain : p.plain.items ++ flat_map free_bytes (drop i code) ≡ flat_map free_bytes code
  pub gaps : p.gaps.items ++ gaps_from (length p.plain.items) i (drop i code) ≡ gaps_from 0 0 code
  pub starts : p.starts ++ starts_from here (with_lengths (drop i code)) ≡ starts_from 0 (with_lengths code)
  pub len : here + code_len (drop i code) ≡ code_len code

-- The code was taken in pieces.
pub record ArePieces (code : List Instr) (p : Pieces) : Type 0 where
  pub plain : p.plain.items ≡ flat_map free_bytes code
  pub gaps : p.gaps.items ≡ gaps_from 0 0 code
  pub starts : p.starts ≡ canonical_starts code

-- the bytes of the instruction of a gap
abbrev pub gap_bytes : List ℕ → List Instr → Gap → List ℕ
gap_bytes ss code g = aimed_bytes ss (get_or ss g.index 0) (get_or ss (g.index + 1) 0) (get_or code g.index (instrs.Plain 0))

-- the bytes from a position of `plain` on, with the instructions of the gaps between them
abbrev pub with_gaps : List ℕ → List Instr → List ℕ → ℕ → List Gap → List ℕ
with_gaps ss code plain from [] = drop from plain
with_gaps ss code plain from (g ∷ gs) = take (g.before - from) (drop from plain) ++ (gap_bytes ss code g ++ with_gaps ss code plain g.before gs)
