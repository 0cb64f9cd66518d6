use Rattle.std.proofs.Common.{◌≡◌, ◌++◌, ℕ, List, codes, take, ap, subst, ◌∙◌, arith}
use Rattle.std.specs.List.{flat_map}
use Rattle.std.proofs.lemmas.List.{take_all}
use Rattle.abc_base.specs.Escapes.{escape_of, with_escapes}
use Rattle.abc_varint.specs.Puts.{PutsWhole}
use Rattle.abc_text_writer.proofs.Pieces.{closed}
use Rattle.abc_text_writer.proofs.comments.put_quoted_front.Goals as goal

pub returns : goal.returns
unfolding with_escapes
returns c =
    let l = c.loop-byte in
    let whole : take l.byte-index c.args.text.now ≡ c.args.text.now = take_all l.byte-index c.args.text.now (omega arith) in
    let e : take l.at l.piece ≡ codes " ; \"" ++ with_escapes c.args.text.now = l.invariant.shown ∙ ap (λ (t : List ℕ). codes " ; \"" ++ flat_map escape_of t) whole in
    subst (λ (b : List ℕ). PutsWhole c.args.out.now.items c.put_first.new.out.items c.put_first.result b) (closed l.piece (codes " ; \"") (with_escapes c.args.text.now) l.at (omega arith) e) c.put_first.ensures
