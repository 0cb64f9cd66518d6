-- Parts that are lists of parts
-- (a tool of other definitions; Overview, chapter 4, "Constant pool", and profile: docs/FORMAT.md, for pools and texts).
use Rattle.std.specs.Prelude.{ℕ, zero, suc, ◌-◌, List, [], ◌∷◌, ◌++◌}
use Rattle.abc_file_types.specs.Part.{Part, known_value, then_by, both, image}
use Rattle.abc_file_types.specs.Numbers.{u30, u8}

-- n times the part
abbrev pub times : {A : Type 0} → ℕ → Part A → Part (List A)
times zero p = known_value []
times (suc n) p = image (λ x. x.0 ∷ x.1) (both p (times n p))

-- a count, and that many of the part
unfoldable pub count_and_items : {A : Type 0} → Part A → Part (List A)
count_and_items p = image (λ x. x.1) (then_by u30 (λ n. times n p))

-- any bytes, which need not be UTF-8: their number, and the bytes
unfoldable pub bytes_with_count : Part (List ℕ)
bytes_with_count = count_and_items u8

-- a pool: entry 0 is not stored, and the counts 0 and 1 both mean that there is no other
unfoldable pub pool : {A : Type 0} → Part A → Part (List A)
pool p = image (λ x. x.1) (then_by u30 (λ n. times (n - 1) p))

-- a pool whose entries may name one another: how each is read depends on how many there are
unfoldable pub pool_by : {A : Type 0} → (ℕ → Part A) → Part (List A)
pool_by p = image (λ x. x.1) (then_by u30 (λ n. times (n - 1) (p (n - 1))))

-- n items, each of which depends on those before it
abbrev pub chain : {A : Type 0} → ℕ → (List A → Part A) → List A → Part (List A)
chain zero p before = known_value before
chain (suc n) p before = image (λ x. x.1) (then_by (p before) (λ x. chain n p (before ++ x ∷ [])))
