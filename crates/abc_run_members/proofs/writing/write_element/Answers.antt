use Rattle.std.proofs.Common.{arith}
use Rattle.std.specs.Prelude.{length}
use Rattle.abc_heap_store.specs.Heap.{elements_of}
use Rattle.abc_run_state.specs.Outer.{world}
use Rattle.abc_run_state.proofs.Made.{same_grows}
use Rattle.abc_run_members.proofs.Written.{element_added, element_full, element_grows, element_kept, element_limits, element_past, heap_stays, new_element_grows, new_element_limits, same_limits}
use Rattle.abc_run_members.proofs.writing.write_element.Goals as goal

pub set_element-requires : goal.set_element-requires
set_element-requires c = omega (arith, c.length-length.ensures, c.if-k-length.true)

pub returns-then-k-length-clause-part : goal.returns-then-k-length-clause-part
returns-then-k-length-clause-part c = λ out. element_kept c.args.o (length (elements_of c.args.s.now.arena.objects c.args.o.0)) c.args.k c.args.v (world c.args.s.now out) c.set_element.new.self (omega (arith, c.length-length.ensures, c.if-k-length.true)) c.set_element.ensures.heap

pub returns-then-k-length-clause-stays : goal.returns-then-k-length-clause-stays
returns-then-k-length-clause-stays c =
    heap_stays c.args.linked.now c.args.s.now c.set_element.new.self (c.set_element.ensures.over c.args.linked.now c.requires.over c.requires.value) (element_grows c.args.s.now.arena c.set_element.new.self c.args.o c.args.k c.args.v c.set_element.ensures.heap)
    (element_limits c.args.s.now.arena c.set_element.new.self c.args.o c.args.k c.args.v c.set_element.ensures.heap)

pub returns-then-length-k-clause-part : goal.returns-then-length-k-clause-part
returns-then-length-k-clause-part c = λ out. element_past c.args.o (length (elements_of c.args.s.now.arena.objects c.args.o.0)) c.args.k c.args.v (world c.args.s.now out) (omega (arith, c.length-length.ensures, c.if-length-k.true))

pub returns-in-Ok-clause-part : goal.returns-in-Ok-clause-part
returns-in-Ok-clause-part c = λ out. element_added c.args.o (length (elements_of c.args.s.now.arena.objects c.args.o.0)) c.args.k c.args.v (world c.args.s.now out) c.push_element.new.self (omega (arith, c.length-length.ensures, c.if-k-length.false, c.if-length-k.false)) c.in-Ok.ensures.pushed

pub returns-in-Ok-clause-stays : goal.returns-in-Ok-clause-stays
returns-in-Ok-clause-stays c =
    heap_stays c.args.linked.now c.args.s.now c.push_element.new.self (c.in-Ok.ensures.over c.args.linked.now c.requires.over c.requires.value) (new_element_grows c.args.s.now.arena c.push_element.new.self c.args.o c.args.v c.in-Ok.ensures.pushed.1)
    (new_element_limits c.args.s.now.arena c.push_element.new.self c.args.o c.args.v c.in-Ok.ensures.pushed.1)

pub returns-in-Err-clause-part : goal.returns-in-Err-clause-part
returns-in-Err-clause-part c = λ out. element_full c.args.o (length (elements_of c.args.s.now.arena.objects c.args.o.0)) c.args.k c.args.v (world c.args.s.now out) c.push_element.new.self c.in-Err.full (omega (arith, c.length-length.ensures, c.if-k-length.false, c.if-length-k.false)) c.in-Err.ensures.pushed

pub returns-in-Err-clause-stays : goal.returns-in-Err-clause-stays
returns-in-Err-clause-stays c =
    heap_stays c.args.linked.now c.args.s.now c.push_element.new.self (c.in-Err.ensures.over c.args.linked.now c.requires.over c.requires.value) (same_grows c.args.s.now.arena c.push_element.new.self c.in-Err.ensures.pushed.2) (same_limits c.args.s.now.arena c.push_element.new.self c.in-Err.ensures.pushed.2)
