use Rattle.std.proofs.Common.{◌∙◌, ap, sym}
use Rattle.std.specs.Prelude.{Some, None}
use Rattle.abc_heap_store.specs.Heap.{object_at}
use Rattle.abc_lookup.specs.Named.{element_in}
use Rattle.abc_lookup.specs.declared.elements.ElementName as code
use Rattle.abc_run_state.specs.Outer.{setting_in, world}
use Rattle.abc_meaning.specs.Members.{write_own}
use Rattle.abc_run_members.proofs.Written.{array_named, property_written}
use Rattle.abc_run_members.proofs.writing.write_property.Goals as goal

pub write_element-requires-clause-array : goal.write_element-requires-clause-array
write_element-requires-clause-array c =
    array_named c.args.linked.now c.args.s.now.arena c.args.o c.args.text c.in-Number.k (sym c.in-Some.ensures ∙ ap (λ (n : code.ElementName). element_in (Some n)) c.in-Number.is)

pub returns-in-Length-clause-part : goal.returns-in-Length-clause-part
returns-in-Length-clause-part c = λ out.
    let p = setting_in c.args.linked.now out in
    let w = world c.args.s.now out in
    property_written p c.args.o c.args.text c.args.v w (Some c.in-Some.name) c.requires.inside c.in-Some.ensures
    ∙ ap (λ (n : code.ElementName). write_own p c.args.o (object_at c.args.s.now.arena.objects c.args.o.0) c.args.text c.args.v (element_in (Some n)) w) c.in-Length.is

pub returns-in-Number-clause-part : goal.returns-in-Number-clause-part
returns-in-Number-clause-part c = λ out.
    let p = setting_in c.args.linked.now out in
    let w = world c.args.s.now out in
    property_written p c.args.o c.args.text c.args.v w (Some c.in-Some.name) c.requires.inside c.in-Some.ensures
    ∙ ap (λ (n : code.ElementName). write_own p c.args.o (object_at c.args.s.now.arena.objects c.args.o.0) c.args.text c.args.v (element_in (Some n)) w) c.in-Number.is
    ∙ c.write_element.ensures.part out

pub returns-in-None-clause-part : goal.returns-in-None-clause-part
returns-in-None-clause-part c = λ out. property_written (setting_in c.args.linked.now out) c.args.o c.args.text c.args.v (world c.args.s.now out) None c.requires.inside c.in-None.ensures ∙ c.write_own.ensures.part out
