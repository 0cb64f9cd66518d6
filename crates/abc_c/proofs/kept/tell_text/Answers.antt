use Rattle.std.proofs.Common.{◌∙◌, ℕ, List, length, refl, ap}
use Rattle.abc_c.specs.Crossing.{text_at}
use Rattle.abc_c.proofs.Telling.{told_front, told_whole}
use Rattle.abc_c.proofs.kept.tell_text.Goals as goal

pub returns-in-Ok : goal.returns-in-Ok
returns-in-Ok c = told_whole c.args.bytes.now c.args.out.now.taken c.write_all.new.out.taken c.text.result (c.text.ensures ∙ ap (λ (w : List ℕ). text_at (length w) (length c.args.bytes.now)) c.written-start.ensures) (c.in-Ok.ensures.bytes refl)

pub returns-in-Err : goal.returns-in-Err
returns-in-Err c = told_front c.args.bytes.now c.args.out.now.taken c.write_all.new.out.taken c.without.result c.without.ensures (c.in-Err.ensures.bytes refl)
