-- A script that was tried.
use Rattle.std.specs.Prelude.{◌≡◌, ℕ, Bool, false, Some, None}
use Rattle.std.specs.declared.option.Option.{Option}
use Rattle.abc_objects.specs.Scopes.{InScript, ScopePlace}

-- the script that was tried last, if any, has not the name
abbrev pub HasNot : (ScopePlace → Bool) → Option ℕ → Type 0
HasNot p None = Unit {0}
HasNot p (Some s) = p (InScript s) ≡ false
