use Rattle.std.proofs.Common.{ℕ, List, ◌+◌, ◌-◌, ◌∷◌, subst, arith, to_z-of_z}
use Rattle.std.specs.Fmt.{signed_decimal}
use Rattle.std.proofs.lemmas.List.{length-drop}
use Rattle.abc_varint.specs.Puts.{PutsWhole}
use Rattle.abc_text_writer.proofs.Pieces.{window}
use Rattle.abc_text_writer.proofs.tokens.put_signed.Goals as goal

pub returns : goal.returns
returns c =
    let s = c.write_spaced-at in
    let back = to_z-of_z c.ranges.n in
    let start = rw back at s.ensures.start in
    let written = rw back at s.ensures.written in
    subst (λ (b : List ℕ). PutsWhole c.args.out.now.items c.put_first.new.out.items c.put_first.result b)
    (window s.new.piece (32 ∷ signed_decimal c.args.n) _ s.result ((s.result + 16) - s.result) (16 - s.result) written (omega (arith, start)) (omega (arith, start)) (omega (arith, start, length-drop s.result s.new.piece, s.array_long)))
    c.put_first.ensures
