-- The order of kinds is an order.
use Rattle.std.proofs.Common.{arith}
use Rattle.abc_link_names.specs.Kinds.{IsAtMost}
use Rattle.abc_link_names.specs.Linked.{LinkedFile}
use Rattle.abc_link_names.specs.declared.types.Kind.{Kind}
use Rattle.abc_link_names.specs.declared.types.Kind.TheVariants.{Any, Undef, Null, Num, Bool, Text, Space, Obj}
use Rattle.abc_link_names.proofs.Tree.{below_self, below_trans}

pub kind_self : (l : LinkedFile) (k : Kind) → IsAtMost l k k
kind_self l (Obj x) = below_self l x.0
kind_self l Any = tt
kind_self l k = tt

pub kind_any : (l : LinkedFile) (k : Kind) → IsAtMost l k Any
kind_any l Any = tt
kind_any l k = tt

pub kind_trans : (l : LinkedFile) (a b c : Kind) → IsAtMost l a b → IsAtMost l b c → IsAtMost l a c
kind_trans l a b Any p q = kind_any l a
kind_trans l Undef Undef c p q = q
kind_trans l Num Num c p q = q
kind_trans l Bool Bool c p q = q
kind_trans l Text Text c p q = q
kind_trans l Space Space c p q = q
kind_trans l Null Text Text p q = tt
kind_trans l Null Space Space p q = tt
kind_trans l Null Null c p q = q
kind_trans l Null (Obj y) (Obj z) p q = tt
kind_trans l (Obj x) (Obj y) (Obj z) p q = below_trans l x.0 y.0 z.0 p q
kind_trans l Any Any c p q = q
kind_trans l a b c p q = grind arith
