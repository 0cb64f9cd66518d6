use Rattle.std.proofs.Common.{arith, subst}
use Rattle.abc_heap_values.specs.declared.values.Value.{Value}
use Rattle.abc_run_members.specs.AtOnce.{TellsElement}
use Rattle.abc_run_members.proofs.elements.gets_numbered.Goals as goal

pub operand-asked-requires : goal.operand-asked-requires
operand-asked-requires g c = omega (arith, c.requires.1.0.operands)

pub element_told-requires : goal.element_told-requires
element_told-requires g c = record { over = c.requires.0.over; inside = c.requires.1.1.1.1; asked = c.operand-asked.ensures.there c.args.linked.now c.args.s.now.arena c.requires.0.frame.stack }

pub gets_element-requires : goal.gets_element-requires
gets_element-requires g c = (c.requires.0, (c.requires.1.0, (c.requires.1.1.0, (c.requires.1.1.1.0, (c.requires.1.1.1.1, subst (λ (v : Value). TellsElement c.args.linked.now c.args.s.now.arena c.args.spaces c.args.o v c.in-Some.k) c.operand-asked.ensures.is c.in-Some.ensures)))))
