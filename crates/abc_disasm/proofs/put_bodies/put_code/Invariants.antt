use Rattle.std.proofs.Common.{◌≡◌, ◌++◌, drop, take, length}
use Rattle.abc_disasm.specs.Texts.{body_targets, code_text}
use Rattle.abc_disasm.proofs.put_bodies.put_code.Given as goal

abbrev pub invariant-loop-i : goal.invariant-loop-i
invariant-loop-i l = record {
  front : take (length l.initial.out.items) l.out.items ≡ l.initial.out.items;
  text : l.out.items ++ code_text l.abc (body_targets l.body) l.i (drop l.i l.body.code) ≡ l.initial.out.items ++ code_text l.abc (body_targets l.body) 0 l.body.code;
}
