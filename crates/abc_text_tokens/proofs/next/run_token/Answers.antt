use Rattle.std.proofs.Common.{List, ℕ, take, ap, sym, ◌∙◌, arith}
use Rattle.abc_text_lines.specs.Scanning.{Between, also, scan}
use Rattle.abc_text_lines.specs.Tokens.{Bare}
use Rattle.abc_text_tokens.proofs.Walking.{run_found, shorter, tail_is, tail_short}
use Rattle.abc_text_tokens.proofs.next.run_token.Goals as goal

pub returns : goal.returns
returns c =
    let bytes = c.args.bytes.now in
    let n = c.run_len-len.result in
    let some = shorter bytes n c.requires c.run_len-len.ensures.longest in
    let len = tail_short bytes n in
    (omega (arith, some, len, c.run_len-len.ensures.within), run_found bytes n c.requires c.run_len-len.ensures.run c.run_len-len.ensures.longest ∙ ap (λ (l : List ℕ). also (Bare (take n bytes)) (scan l Between)) (sym (tail_is bytes n)))
