-- The order of kinds, and the least kind above two (profile: docs/VERIFYING.md, "Kinds").
use Rattle.abc_link_names.specs.Linked.{IsLayout, LinkedFile}
use Rattle.abc_link_names.specs.Tree.{IsBelow}
use Rattle.abc_link_names.specs.declared.types.Kind.{Kind}
use Rattle.abc_link_names.specs.declared.types.Kind.TheVariants.{Any, Undef, Null, Num, Bool, Text, Space, Obj}
use Rattle.abc_link_names.specs.declared.types.Ty.{Ty}
use Rattle.abc_link_names.specs.declared.types.Ty.TheVariants as types

-- a kind is another or below it: Null is below all kinds that hold null, and Any is above all
abbrev pub IsAtMost : LinkedFile → Kind → Kind → Type 0
IsAtMost l Any Any = Unit {0}
IsAtMost l Undef Any = Unit {0}
IsAtMost l Null Any = Unit {0}
IsAtMost l Num Any = Unit {0}
IsAtMost l Bool Any = Unit {0}
IsAtMost l Text Any = Unit {0}
IsAtMost l Space Any = Unit {0}
IsAtMost l (Obj x) Any = Unit {0}
IsAtMost l Undef Undef = Unit {0}
IsAtMost l Null Null = Unit {0}
IsAtMost l Num Num = Unit {0}
IsAtMost l Bool Bool = Unit {0}
IsAtMost l Text Text = Unit {0}
IsAtMost l Space Space = Unit {0}
IsAtMost l Null Text = Unit {0}
IsAtMost l Null Space = Unit {0}
IsAtMost l Null (Obj y) = Unit {0}
IsAtMost l (Obj x) (Obj y) = IsBelow l x.0 y.0
IsAtMost l a b = ⊥

-- the layouts and classes that a kind or a type names exist
abbrev pub IsKindKnown : LinkedFile → Kind → Type 0
IsKindKnown l (Obj x) = IsLayout l x
IsKindKnown l kind = Unit {0}

abbrev pub IsKnownType : LinkedFile → Ty → Type 0
IsKnownType l (types.Of x) = IsLayout l x
IsKnownType l ty = Unit {0}

-- the least kind above both
pub record IsJoin (l : LinkedFile) (a b j : Kind) : Type 0 where
  pub left : IsAtMost l a j
  pub right : IsAtMost l b j
  pub least : (k : Kind) → IsAtMost l a k → IsAtMost l b k → IsAtMost l j k
