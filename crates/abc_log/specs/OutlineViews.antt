-- What contracts see of a log in which a step's bytes are shown.
use Rattle.std.specs.Prelude.{Bool}

pub record ShownView (L : Type 0) : Type 0 where
  pub log : L
  pub some : Bool
  pub failed : Bool
