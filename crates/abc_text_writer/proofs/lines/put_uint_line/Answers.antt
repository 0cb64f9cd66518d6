use Rattle.std.proofs.Common.{ℕ, List, ◌∷◌, ◌∙◌, ap, decimal, subst, arith}
use Rattle.abc_varint.specs.Puts.{PutsWhole}
use Rattle.abc_text_writer.proofs.Padding.{line}
use Rattle.abc_text_writer.proofs.lines.put_uint_line.Goals as goal

pub returns : goal.returns
returns c =
    let at = c.write_number-at.ensures in
    let front = c.write_before-first in
    let written =
    front.ensures.written
    ∙ ap (λ (l : List ℕ). 117 ∷ l) c.write_before-second.ensures.written
    ∙ ap (λ (l : List ℕ). 117 ∷ 105 ∷ l) c.write_before-third.ensures.written
    ∙ ap (λ (l : List ℕ). 117 ∷ 105 ∷ 110 ∷ l) c.write_before-fourth.ensures.written
    ∙ ap (λ (l : List ℕ). 117 ∷ 105 ∷ 110 ∷ 116 ∷ l) c.write_before-space.ensures.written
    ∙ ap (λ (l : List ℕ). 117 ∷ 105 ∷ 110 ∷ 116 ∷ 32 ∷ l) at.written in
    subst (λ (b : List ℕ). PutsWhole c.args.out.now.items c.put_first.new.out.items c.put_first.result b)
    (line front.new.piece (117 ∷ 105 ∷ 110 ∷ 116 ∷ 32 ∷ decimal c.args.n) _ front.result front.array_long written
    (omega (arith, at.start, front.ensures.start, c.write_before-second.ensures.start, c.write_before-third.ensures.start, c.write_before-fourth.ensures.start, c.write_before-space.ensures.start))
    (omega (arith, at.room, front.ensures.start, c.write_before-second.ensures.start, c.write_before-third.ensures.start, c.write_before-fourth.ensures.start, c.write_before-space.ensures.start)))
    c.put_first.ensures
