-- The whole file (Overview, chapter 4, "abcFile"; profile: docs/FORMAT.md).
use Rattle.std.specs.Prelude.{◌≡◌, ◌≢◌, ◌≤◌, ◌⊎◌, ℕ, List, [], ◌++◌, length, nat_eq}
use Rattle.abc_file_types.specs.declared.reason.Reason.TheVariants as reasons
use Rattle.abc_file_types.specs.Part.{Part, At, at_of, limit, Refusal, refusal, Begins, then_by, both, image, with_test}
use Rattle.abc_file_types.specs.Numbers.{u16}
use Rattle.abc_file_types.specs.Canonical.{u16_bytes}
use Rattle.abc_file_types.specs.declared.tables.Abc.{Abc}
use Rattle.abc_file_types.specs.Pools.{pools, pools_bytes}
use Rattle.abc_file_types.specs.Classes.{definitions, definitions_bytes}
use Rattle.abc_file_types.specs.Bodies.{bodies, bodies_alone, bodies_bytes}

-- minor version 16, and major version 46
unfoldable pub version : Part (ℕ × ℕ)
version = both (with_test (λ n. nat_eq n 16) reasons.Version u16) (with_test (λ n. nat_eq n 46) reasons.Version u16)

abbrev pub version_bytes : List ℕ
version_bytes = u16_bytes 16 ++ u16_bytes 46

-- of the version, the pools, what has the definitions too, and what has all
abbrev pub last_of : {A : Type 0} → (ℕ × ℕ) × (Abc × (Abc × A)) → A
last_of (version, (pools, (definitions, all))) = all

-- the version, the pools, the definitions and the bodies
abbrev pub file_of : Part Abc → (Abc → Part Abc) → Part Abc
file_of pools bodies = image last_of (both version (then_by pools (λ abc. then_by (definitions abc) (λ full. bodies full))))

-- the whole file: the version, the pools, the definitions and the bodies
unfoldable pub file : Part Abc
file = file_of pools bodies_alone

-- the same, with the starts of each body's instructions as they were read
unfoldable pub file_read : Part (Abc × List (List ℕ))
file_read = image last_of (both version (then_by pools (λ abc. then_by (definitions abc) (λ full. bodies full))))

-- the canonical bytes of a file
unfoldable pub file_bytes : Abc → List ℕ
file_bytes v = version_bytes ++ pools_bytes v ++ definitions_bytes v ++ bodies_bytes v

-- ---- the whole input

-- The bytes spell the file.
abbrev pub IsFile : Abc → List ℕ → Type 0
IsFile v b = file.spells v b × (length b ≤ limit)

-- Some bytes spell the file.
abbrev pub Fits : Abc → Type 0
Fits v = (b : List ℕ) × IsFile v b

-- The bytes spell the file, and the instructions of its bodies start so in their code.
abbrev pub IsFileRead : Abc × List (List ℕ) → List ℕ → Type 0
IsFileRead v b = file_read.spells v b × (length b ≤ limit)

-- The input is refused at its first fault; a byte after a complete file is one.
abbrev pub IsBadFile : List ℕ → Refusal → Type 0
IsBadFile b r = file.bad (at_of 0 b) r ⊎ ((v : Abc) × (after : At) × Begins file (at_of 0 b) v after × (after.bytes ≢ []) × (r ≡ refusal after.place reasons.Trailing))

-- The bytes spell exactly one file, or are bad at exactly one place for exactly one reason, and never both.
pub record IsDecided (b : List ℕ) : Type 0 where
  pub some : ((v : Abc) × IsFile v b) ⊎ ((r : Refusal) × IsBadFile b r)
  pub one_value : (v w : Abc) → IsFile v b → IsFile w b → v ≡ w
  pub one_refusal : (r s : Refusal) → IsBadFile b r → IsBadFile b s → r ≡ s
  pub never_both : (v : Abc) (r : Refusal) → IsFile v b → IsBadFile b r → ⊥
