-- Layouts form a tree: what a layout stands under (profile: docs/LINKING.md, "Layouts").
use Rattle.std.specs.Prelude.{◌≡◌, ℕ, zero, suc}
use Rattle.abc_link_names.specs.Linked.{LinkedFile, above}

-- so many steps up
abbrev pub up : LinkedFile → ℕ → ℕ → ℕ
up l zero x = x
up l (suc k) x = up l k (above l x)

-- a layout is another, or stands under it
pub record IsBelow (l : LinkedFile) (x y : ℕ) : Type 0 where
  pub steps : ℕ
  pub climb : up l steps x ≡ y

-- above both, and below all that are above both
pub record IsCommon (l : LinkedFile) (a b c : ℕ) : Type 0 where
  pub left : IsBelow l a c
  pub right : IsBelow l b c
  pub least : (n : ℕ) → IsBelow l a n → IsBelow l b n → IsBelow l c n
