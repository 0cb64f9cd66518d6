use Rattle.std.proofs.Common.{◌≡◌, ◌+◌, ℕ, List, ◌∷◌, ◌∙◌, drop, get_or, set, ap, arith, length-set}
use Rattle.std.proofs.lemmas.List.{set_comm, drop-set}
use Rattle.abc_text_writer.proofs.lines.write_pair.Goals as goal

pub returns : goal.returns
returns c =
    let at = c.args.at in
    let piece = c.args.piece.now in
    let pair = c.digits_of_pair-pair.result in
    let a = get_or pair 0 0 in
    let b = get_or pair 1 0 in
    let e : at + 1 + 1 ≡ at + 2 = omega arith in
    ap (drop at) (set_comm piece at (at + 1) a b (λ x. omega arith))
    ∙ drop-set (set piece (at + 1) b) at a (omega (arith, length-set piece (at + 1) b))
    ∙ ap (λ (l : List ℕ). a ∷ l) (drop-set piece (at + 1) b (omega arith) ∙ ap (λ g. b ∷ drop g piece) e)
    ∙ ap (λ (l : List ℕ). get_or l 0 0 ∷ get_or l 1 0 ∷ drop (at + 2) piece) c.digits_of_pair-pair.ensures
