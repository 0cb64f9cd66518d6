-- Which bytes spell which code: a concatenation of pieces, each of which spells one instruction, with its targets as sums of the lengths of pieces;
-- and which first fault refuses them (Overview, chapter 5; profile: docs/FORMAT.md, "Code" and "What is refused").
use Rattle.std.specs.Prelude.{◌≡◌, ℕ, suc, ℤ, pos, ◌+ℤ◌, ◌+◌, ◌-◌, ◌*◌, ◌≤◌, ◌⊎◌, List, [], ◌∷◌, length}
use Rattle.abc_file_types.specs.declared.reason.Reason.TheVariants as reasons
use Rattle.abc_file_types.specs.Part.{Part, Refusal, refusal, At, Front, image, then_by, map_or_refuse}
use Rattle.abc_file_types.specs.Ends.{Pieces, BadPiece, blame_first}
use Rattle.abc_file_types.specs.declared.code.Instr.{Instr}
use Rattle.abc_file_types.specs.declared.code.Instr.TheVariants as instrs
use Rattle.abc_file_types.specs.declared.instructions.Code.{Code}
use Rattle.abc_file_types.specs.Instructions.{RawInstr, Same, Branch, Switch, instruction, pieces, code_length}
use Rattle.abc_file_types.specs.Starts.{start, AreStarts}
use Rattle.abc_file_types.specs.Targets.{resolve_targets}

-- An offset z from a base leads to the number t: to the start of piece t, or to the end.
pub record IsTarget {A : Type 0} (ps : List (A × ℕ)) (base : ℕ) (z : ℤ) (t : ℕ) : Type 0 where
  pub within : t ≤ length ps
  pub is : pos (start ps t) ≡ pos base +ℤ z

abbrev pub AreTargets : {A : Type 0} → List (A × ℕ) → ℕ → List ℤ → List ℕ → Type 0
AreTargets ps base [] [] = Unit {0}
AreTargets ps base [] (t ∷ ts) = ⊥
AreTargets ps base (z ∷ zs) [] = ⊥
AreTargets ps base (z ∷ zs) (t ∷ ts) = IsTarget ps base z t × AreTargets ps base zs ts

-- The piece from `here` to `next` says this instruction. A branch counts from the instruction after it, a switch from itself.
abbrev pub Means : List (RawInstr × ℕ) → ℕ → ℕ → RawInstr → Instr → Type 0
Means ps here next (Same j) i = i ≡ j
Means ps here next (Branch op z) i = (t : ℕ) × IsTarget ps next z t × (i ≡ instrs.Branch op t)
Means ps here next (Switch z zs) i = (t : ℕ) × (ts : List ℕ) × IsTarget ps here z t × AreTargets ps here zs ts × (i ≡ instrs.Switch t ts)

-- The pieces from `here` on say these instructions.
abbrev pub MeansAll : List (RawInstr × ℕ) → ℕ → List (RawInstr × ℕ) → List Instr → Type 0
MeansAll ps here [] [] = Unit {0}
MeansAll ps here [] (i ∷ is) = ⊥
MeansAll ps here (x ∷ xs) [] = ⊥
MeansAll ps here (x ∷ xs) (i ∷ is) = Means ps here (here + x.1) x.0 i × MeansAll ps (here + x.1) xs is

-- Bytes, without their length, that spell code of such instructions.
pub record SpellsCodeOf (instruction : Part RawInstr) (c : Code) (b : List ℕ) : Type 0 where
  pub pieces : List (RawInstr × ℕ)
  pub filled : Pieces instruction pieces b
  pub means : MeansAll pieces 0 pieces c.instrs
  pub offsets : AreStarts pieces c.offsets

abbrev pub SpellsCode : Code → List ℕ → Type 0
SpellsCode = SpellsCodeOf instruction

-- ---- the first offset that leads nowhere

abbrev pub LeadsNowhere : {A : Type 0} → List (A × ℕ) → ℕ → ℤ → Type 0
LeadsNowhere ps base z = (t : ℕ) → IsTarget ps base z t → ⊥

-- At `place` stands the first of the cases that leads nowhere; the last one stands just before `next`.
abbrev pub CasesMiss : {A : Type 0} → List (A × ℕ) → ℕ → ℕ → List ℤ → ℕ → Type 0
CasesMiss ps base next [] place = ⊥
CasesMiss ps base next (z ∷ zs) place = (LeadsNowhere ps base z × (place ≡ next - 3 * suc (length zs))) ⊎ ((t : ℕ) × IsTarget ps base z t × CasesMiss ps base next zs place)

abbrev pub Misses : List (RawInstr × ℕ) → ℕ → ℕ → RawInstr → ℕ → Type 0
Misses ps here next (Same i) place = ⊥
Misses ps here next (Branch op z) place = LeadsNowhere ps next z × (place ≡ here + 1)
Misses ps here next (Switch z zs) place = (LeadsNowhere ps here z × (place ≡ here + 1)) ⊎ ((t : ℕ) × IsTarget ps here z t × CasesMiss ps here next zs place)

abbrev pub MissesFirst : List (RawInstr × ℕ) → ℕ → List (RawInstr × ℕ) → ℕ → Type 0
MissesFirst ps here [] place = ⊥
MissesFirst ps here (x ∷ xs) place = Misses ps here (here + x.1) x.0 place ⊎ ((i : Instr) × Means ps here (here + x.1) x.0 i × MissesFirst ps (here + x.1) xs place)

-- The pieces of n bytes were read, and an offset in them is the first that leads nowhere.
pub record BadTargetOf (instruction : Part RawInstr) (n : ℕ) (from : At) (r : Refusal) : Type 0 where
  pub pieces : List (RawInstr × ℕ)
  pub front : List ℕ
  pub after : At
  pub filled : Pieces instruction pieces front
  pub full : length front ≡ n
  pub is : Front from front after
  pub offset : ℕ
  pub misses : MissesFirst pieces 0 pieces offset
  pub says : r ≡ refusal (from.place + offset) reasons.Target

-- ---- code

-- The code of n bytes, whose pieces are read so: an instruction that can't be read is refused first, and then a target.
abbrev pub code_body_of : Part RawInstr → Part (List (RawInstr × ℕ)) → ℕ → Part Code
code_body_of instruction pieces n = record {
  spells = λ c b. SpellsCodeOf instruction c b × (length b ≡ n);
  bad = λ from r. BadPiece n (blame_first instruction) from r ⊎ BadTargetOf instruction n from r;
  reads = (map_or_refuse resolve_targets pieces).reads;
}

unfoldable pub code_body : ℕ → Part Code
code_body n = code_body_of instruction (pieces n) n

-- a length, and the code of so many bytes
abbrev pub code_of : (ℕ → Part Code) → Part Code
code_of body = image (λ x. x.1) (then_by code_length body)

-- the code of a body: its length in bytes, and its instructions with their starts
unfoldable pub code : Part Code
code = code_of code_body

-- the instructions alone
unfoldable pub code_listing : Part (List Instr)
code_listing = image (λ c. c.instrs) code
