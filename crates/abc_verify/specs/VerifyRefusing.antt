-- What a refusal says (profile: docs/VERIFYING.md, "Typings").
use Rattle.std.specs.Prelude.{◌≡◌, ℕ, ◌<◌, Some, length}
use Rattle.abc_verify_flow.specs.declared.step.Refusal.{Refusal}
use Rattle.abc_verify_flow.specs.declared.step.Refusal.TheVariants as flows
use Rattle.abc_link_names.specs.Linked.{LinkedFile}
use Rattle.abc_link_names.specs.Owners.{body_of}
use Rattle.abc_verify_typing.specs.Routines.{routine}
use Rattle.abc_verify_typing.specs.Typing.{HasTyping, Refutes}
use Rattle.abc_verify_typing.specs.declared.rule.VerifyRule.{VerifyRule}
use Rattle.abc_verify.specs.Typed.{AreTyped}
use Rattle.abc_verify.specs.declared.verify_error.VerifyError.{VerifyError}
use Rattle.abc_verify.specs.declared.verify_error.VerifyError.TheVariants.{NoMemory, Refused}

-- the method's body has no typing: the rule, at the place, refutes each
pub record IsUntyped (l : LinkedFile) (m b i : ℕ) (r : VerifyRule) : Type 0 where
  pub of_method : body_of l.file m ≡ Some b
  pub refuted : Refutes l (routine l b) i r
  pub untyped : HasTyping l (routine l b) → ⊥

-- and it is the first such method: those before have typings
abbrev pub IsFirstUntyped : LinkedFile → ℕ → ℕ → ℕ → VerifyRule → Type 0
IsFirstUntyped l m b i r = (m < length l.file.methods) × AreTyped l m × IsUntyped l m b i r

-- a refusal names the first method whose body has no typing, with a place and a rule that refute each; want of
-- memory is free
abbrev pub IsVerifyRefusal : LinkedFile → VerifyError → Type 0
IsVerifyRefusal l NoMemory = Unit {0}
IsVerifyRefusal l (Refused m b i r) = IsFirstUntyped l m b i r

-- the refusal of a method with this body
abbrev pub refused_of : ℕ → ℕ → Refusal → VerifyError
refused_of m b flows.NoMemory = NoMemory
refused_of m b (flows.Refused i r) = Refused m b i r
