-- What the rules ask of the handlers that cover a place.
use Rattle.std.specs.Prelude.{◌≡◌, ℕ, List, length, map}
use Rattle.abc_verify_typing.specs.Effects.{covering}
use Rattle.abc_verify_typing.specs.Routines.{Routine}
use Rattle.abc_verify_typing.specs.Rules.{all_below, handler_target, is_without_catches}
use Rattle.abc_verify_typing.specs.declared.catch.Catch.{Catch}
use Rattle.abc_verify_flow.specs.declared.handled.Cover.{Cover}

-- whether there are none, and whether all lead before the code's end
pub record IsCover (handlers : List Catch) (end : ℕ) (c : Cover) : Type 0 where
  pub none : c.is_empty ≡ is_without_catches handlers
  pub inside : c.is_inside ≡ all_below (map handler_target handlers) end

-- of those that cover a place of a method
abbrev pub IsCoverAt : Routine → ℕ → Cover → Type 0
IsCoverAt m i c = IsCover (covering m i) (length m.code) c
