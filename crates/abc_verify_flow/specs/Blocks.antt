-- Blocks of kinds, of which equal ones may lie in one place.
use Rattle.std.specs.Prelude.{◌≡◌, ◌≢◌, ◌⊎◌, ℕ, zero, suc, ◌+◌, ◌≤◌, List, [], ◌∷◌, true, false, Some, drop, map, set, slice_get, take}
use Rattle.abc_link_names.specs.declared.types.Kind.{Kind}
use Rattle.abc_verify_flow.specs.Kept.{part}
use Rattle.abc_verify_flow.specs.declared.blocks.Block.{Block}
use Rattle.abc_verify_flow.specs.declared.span.Span.{Span}

abbrev pub block_of : List Kind → Block → List Kind
block_of kinds b = part b.span kinds

abbrev pub blocks_of : List Kind → List Block → List (List Kind)
blocks_of kinds blocks = map (block_of kinds) blocks

-- one ends where the other begins, or before
abbrev pub AreDisjoint : Span → Span → Type 0
AreDisjoint s t = (s.first + s.count ≤ t.first) ⊎ (t.first + t.count ≤ s.first)

-- the kinds of each block lie before an end; where they are not shared those of no other block lie there
pub record AreAlone (blocks : List Block) (end : ℕ) : Type 0 where
  pub inside : (i : ℕ) (b : Block) → slice_get blocks i ≡ Some b → b.span.first + b.span.count ≤ end
  pub alone : (i j : ℕ) (b c : Block) → i ≢ j → slice_get blocks i ≡ Some b → slice_get blocks j ≡ Some c → b.is_shared ≡ false → AreDisjoint b.span c.span

-- the kinds of the block of an index are those of another too
pub record IsBlockMarked (old new : List Block) (i : ℕ) (s : Span) : Type 0 where
  pub block : Block
  pub was : slice_get old i ≡ Some block
  pub span : block.span ≡ s
  pub set_in : new ≡ set old i (record { span = s; is_shared = true })

-- a block has so many kinds, and no other lies there
pub record IsBlockFree (b : Block) (n : ℕ) : Type 0 where
  pub count : n ≡ b.span.count
  pub alone : b.is_shared ≡ false

-- ---- locals as blocks

-- the first blocks of some kinds, so many, of which each has 64 as far as there are
abbrev pub blocks_of_64 : ℕ → List Kind → List (List Kind)
blocks_of_64 zero kinds = []
blocks_of_64 (suc n) kinds = take 64 kinds ∷ blocks_of_64 n (drop 64 kinds)
