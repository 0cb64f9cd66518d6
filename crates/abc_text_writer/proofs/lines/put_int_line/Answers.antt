use Rattle.std.proofs.Common.{ℕ, List, ◌∷◌, ◌∙◌, ap, subst, arith, to_z-of_z}
use Rattle.std.specs.Fmt.{signed_decimal}
use Rattle.abc_varint.specs.Puts.{PutsWhole}
use Rattle.abc_text_writer.proofs.Padding.{line}
use Rattle.abc_text_writer.proofs.lines.put_int_line.Goals as goal

pub returns : goal.returns
returns c =
    let back = to_z-of_z c.ranges.n in
    let start = rw back at c.write_signed-at.ensures.start in
    let number = rw back at c.write_signed-at.ensures.written in
    let front = c.write_before-first in
    let written =
    front.ensures.written
    ∙ ap (λ (l : List ℕ). 105 ∷ l) c.write_before-second.ensures.written
    ∙ ap (λ (l : List ℕ). 105 ∷ 110 ∷ l) c.write_before-third.ensures.written
    ∙ ap (λ (l : List ℕ). 105 ∷ 110 ∷ 116 ∷ l) c.write_before-space.ensures.written
    ∙ ap (λ (l : List ℕ). 105 ∷ 110 ∷ 116 ∷ 32 ∷ l) number in
    subst (λ (b : List ℕ). PutsWhole c.args.out.now.items c.put_first.new.out.items c.put_first.result b)
    (line front.new.piece (105 ∷ 110 ∷ 116 ∷ 32 ∷ signed_decimal c.args.n) _ front.result front.array_long written
    (omega (arith, start, front.ensures.start, c.write_before-second.ensures.start, c.write_before-third.ensures.start, c.write_before-space.ensures.start))
    (omega (arith, start, c.write_signed-at.ensures.room, front.ensures.start, c.write_before-second.ensures.start, c.write_before-third.ensures.start, c.write_before-space.ensures.start)))
    c.put_first.ensures
