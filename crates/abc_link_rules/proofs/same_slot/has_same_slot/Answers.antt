use Rattle.std.proofs.Common.{◌∙◌, sym, ap, arith, ◌<◌, length, nat_eq}
use Rattle.std.proofs.lemmas.List.{get_or_default}
use Rattle.abc_base_graphs.specs.Index.{first}
use Rattle.abc_link_rules.proofs.SlotRepeats.{slots_repeat}
use Rattle.abc_link_rules.proofs.same_slot.has_same_slot.Goals as goal

pub returns-then-is_repeat : goal.returns-then-is_repeat
returns-then-is_repeat c =
    let within : c.loop-i.i < length c.in_ok-ids.ids.items = omega arith in
    let id = c.index.result.now in
    sym (slots_repeat c.args.table.now c.in_ok-ids.ids.items c.loop-i.i id _ c.in_ok-ids.ensures within
    (c.index.ensures ∙ get_or_default c.in_ok-ids.ids.items c.loop-i.i id 0 within)
    (c.in_ok-firsts.ensures.finds id ∙ ap (first (nat_eq id)) c.as_slice.ensures.value)
    (sym c.if-is_repeat.ensures))
