use Rattle.std.proofs.Common.{◌≡◌, ◌∙◌, ℕ, ◌<◌, ap, length, subst, sym}
use Rattle.std.specs.Prelude.{None, is_some}
use Rattle.std.specs.declared.option.Option.{Option}
use Rattle.abc_link_names.specs.Slots.{slot_numbered}
use Rattle.abc_run_state.proofs.Things.{layout_there}
use Rattle.abc_run_names.proofs.slots.place_of.Goals as goal

pub slot_numbered-requires : goal.slot_numbered-requires
slot_numbered-requires c =
    let l = c.args.linked.now in
    subst (λ (n : ℕ). n < length l.parts) (sym c.layout.ensures) (layout_there l c.args.s.now.arena c.args.o.0 c.requires.over c.requires.object)

pub returns : goal.returns
returns c = ap (λ (n : ℕ). slot_numbered c.args.linked.now n c.args.number) (sym c.layout.ensures) ∙ sym c.in-Some.ensures

pub unreachable-requires : goal.unreachable-requires
unreachable-requires c =
    let none : slot_numbered c.args.linked.now (Rattle.abc_heap_store.specs.Heap.object_at c.args.s.now.arena.objects c.args.o.0).layout c.args.number ≡ None = ap (λ (n : ℕ). slot_numbered c.args.linked.now n c.args.number) (sym c.layout.ensures) ∙ sym c.in-None.ensures in
    let some = subst (λ (o : Option ℕ). is_some o ≡ Rattle.std.proofs.Common.true) none c.requires.slot in
    cc
