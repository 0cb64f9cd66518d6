-- What bodies that some bytes spell are like.
use Rattle.std.proofs.Common.{ℕ, ◌<◌, ◌≤◌, ◌^◌, List, [], ◌∷◌, length, arith}
use Rattle.std.specs.List.{All, AllByRecursion}
use Rattle.std.proofs.lemmas.List.Elements.{All-from_recursion}
use Rattle.abc_file_types.specs.declared.code.Body.{Body}
use Rattle.abc_file_types.specs.declared.code.Instr.{Instr}
use Rattle.abc_file_types.specs.declared.code.Instr.TheVariants as instrs
use Rattle.abc_file_types.specs.Bodies.{IsReadyBody}
use Rattle.abc_file_types.specs.CodeBytes.{code_len, instr_len}
use Rattle.abc_file_types.specs.Ready.{AllCanSpell, CanSpell}
use Rattle.abc_disasm.specs.Texts.{HasShownForm}

one_shown : (n : ℕ) (i : Instr) → CanSpell n i → HasShownForm i
one_shown n (instrs.Plain op) can = can
one_shown n (instrs.One op x) can = can.0
one_shown n (instrs.Two op x y) can = can.0
one_shown n (instrs.Branch op t) can = can.0
one_shown n (instrs.Switch t ts) can = can.2
one_shown n (instrs.Byte z) can = tt
one_shown n (instrs.Short z) can = tt
one_shown n (instrs.ScopeObject x) can = tt
one_shown n (instrs.Debug kind name reg extra) can = tt

each_shown : (n : ℕ) (is : List Instr) → AllCanSpell n is → AllByRecursion HasShownForm is
each_shown n [] can = tt
each_shown n (i ∷ is) can = (one_shown n i can.0, each_shown n is can.1)

pub shown : (b : Body) → IsReadyBody b → All HasShownForm b.code
shown b ready = All-from_recursion HasShownForm b.code (each_shown (length b.code) b.code ready.code.can)

one_long : (i : Instr) → 1 ≤ instr_len i
one_long (instrs.Plain op) = omega arith
one_long (instrs.One op x) = omega arith
one_long (instrs.Two op x y) = omega arith
one_long (instrs.Branch op t) = omega arith
one_long (instrs.Switch t ts) = omega arith
one_long (instrs.Byte z) = omega arith
one_long (instrs.Short z) = omega arith
one_long (instrs.ScopeObject x) = omega arith
one_long (instrs.Debug kind name reg extra) = omega arith

as_long : (is : List Instr) → length is ≤ code_len is
as_long [] = omega arith
as_long (i ∷ is) = omega (arith, one_long i, as_long is)

pub short : (b : Body) → IsReadyBody b → length b.code < 2 ^ 23
short b ready = omega (arith, as_long b.code, ready.code.short)
