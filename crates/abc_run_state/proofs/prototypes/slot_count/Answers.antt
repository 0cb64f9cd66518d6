use Rattle.std.proofs.Common.{◌∙◌, ℕ, ◌<◌, List, ap, length, subst, sym}
use Rattle.abc_link_names.specs.Slots.{slots_of}
use Rattle.abc_link_names.specs.declared.types.SlotInfo.{SlotInfo}
use Rattle.abc_run_state.proofs.Things.{layout_there, slots_counted}
use Rattle.abc_run_state.proofs.prototypes.slot_count.Goals as goal

pub slots-requires : goal.slots-requires
slots-requires c =
    let l = c.args.linked.now in
    subst (λ (n : ℕ). n < length l.parts) (sym c.layout.ensures) (layout_there l c.args.s.now.arena c.args.o.0 c.requires.over c.requires.inside)

pub returns : goal.returns
returns c =
    let l = c.args.linked.now in
    c.len.ensures ∙ ap (λ (xs : List SlotInfo). length xs) c.slots.ensures ∙ ap (λ (n : ℕ). length (slots_of l n)) c.layout.ensures ∙ sym (slots_counted l c.args.s.now.arena c.args.o.0 c.requires.over c.requires.inside)
