-- What it is that a file is verified (profile: docs/VERIFYING.md, "Typings").
use Rattle.std.specs.Prelude.{◌≡◌, ℕ, ◌<◌, Some, length}
use Rattle.abc_link_names.specs.Linked.{LinkedFile}
use Rattle.abc_link_names.specs.Owners.{body_of}
use Rattle.abc_verify_typing.specs.Routines.{routine}
use Rattle.abc_verify_typing.specs.Typing.{HasTyping}

-- the body of a method, if it has one, has a typing
abbrev pub IsTyped : LinkedFile → ℕ → Type 0
IsTyped l m = (b : ℕ) → body_of l.file m ≡ Some b → HasTyping l (routine l b)

-- so it is for the first so many methods
abbrev pub AreTyped : LinkedFile → ℕ → Type 0
AreTyped l n = (m : ℕ) → m < n → IsTyped l m

-- for all methods
abbrev pub IsVerified : LinkedFile → Type 0
IsVerified l = AreTyped l (length l.file.methods)

-- every body has a typing
abbrev pub AllTyped : LinkedFile → Type 0
AllTyped l = (b : ℕ) → b < length l.file.bodies → HasTyping l (routine l b)
