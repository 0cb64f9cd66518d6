use Rattle.std.proofs.Common.{◌≡◌, ◌∙◌, ℕ, ◌<◌, List, ap, length, subst, sym}
use Rattle.std.specs.Prelude.{get_or}
use Rattle.std.proofs.lemmas.List.{get_or_default}
use Rattle.abc_link_names.specs.Slots.{slots_of}
use Rattle.abc_link_names.specs.declared.types.SlotInfo.{SlotInfo}
use Rattle.abc_run_state.proofs.Things.{layout_there}
use Rattle.abc_run_names.proofs.Slotted.{any_slot, holder_there, slot_within}
use Rattle.abc_run_names.proofs.slots.type_of_slot.Goals as goal

pub layout-requires : goal.layout-requires
layout-requires c = holder_there c.args.s.now.arena c.args.o c.args.k c.requires.slot

pub slots-slots-requires : goal.slots-slots-requires
slots-slots-requires c =
    let l = c.args.linked.now in
    let h = c.args.s.now.arena in
    subst (λ (n : ℕ). n < length l.parts) (sym c.layout.ensures) (layout_there l h c.args.o.0 c.requires.over (holder_there h c.args.o c.args.k c.requires.slot))

pub get-requires : goal.get-requires
get-requires c =
    let l = c.args.linked.now in
    let same : c.slots-slots.result.now ≡ slots_of l (Rattle.abc_heap_store.specs.Heap.object_at c.args.s.now.arena.objects c.args.o.0).layout = c.slots-slots.ensures ∙ ap (λ (n : ℕ). slots_of l n) c.layout.ensures in
    subst (λ (xs : List SlotInfo). c.args.k < length xs) (sym same) (slot_within l c.args.s.now.arena c.args.o c.args.k c.requires.over c.requires.slot)

pub returns : goal.returns
returns c =
    let l = c.args.linked.now in
    let h = c.args.s.now.arena in
    let same : c.slots-slots.result.now ≡ slots_of l (Rattle.abc_heap_store.specs.Heap.object_at h.objects c.args.o.0).layout = c.slots-slots.ensures ∙ ap (λ (n : ℕ). slots_of l n) c.layout.ensures in
    let there = subst (λ (xs : List SlotInfo). c.args.k < length xs) (sym same) (slot_within l h c.args.o c.args.k c.requires.over c.requires.slot) in
    ap (λ (i : SlotInfo). i.ty) (sym c.get.ensures ∙ get_or_default c.slots-slots.result.now c.args.k c.get.result.now any_slot there ∙ ap (λ (xs : List SlotInfo). get_or xs c.args.k any_slot) same)
