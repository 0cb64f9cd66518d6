use Rattle.std.proofs.Common.{◌+◌, List, ℕ, take, ap, sym, ◌∙◌, arith}
use Rattle.abc_text_lines.specs.Scanning.{Between, also, scan}
use Rattle.abc_text_lines.specs.Tokens.{Quoted}
use Rattle.abc_text_lines.proofs.Scans.{quote_begins}
use Rattle.abc_text_tokens.specs.Walks.{quoted_text}
use Rattle.abc_text_tokens.proofs.Walking.{tail_is, tail_short}
use Rattle.abc_text_tokens.proofs.next.quoted_token.Goals as goal

pub returns-in-Some : goal.returns-in-Some
returns-in-Some c =
    let bytes = c.args.bytes.now in
    let n = c.in-Some.len in
    let len = tail_short bytes (n + 1) in
    (omega (arith, len), quote_begins bytes ∙ c.in-Some.ensures.1 ∙ ap (λ (l : List ℕ). also (Quoted (quoted_text (take n bytes))) (scan l Between)) (sym (tail_is bytes (n + 1))))

pub returns-in-None : goal.returns-in-None
returns-in-None c = quote_begins c.args.bytes.now ∙ c.in-None.ensures
