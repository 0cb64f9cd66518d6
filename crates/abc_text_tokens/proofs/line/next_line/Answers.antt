-- A broken line, or no more lines.
use Rattle.std.proofs.Common.{◌+◌, sym, ◌∙◌, arith}
use Rattle.abc_text_lines.specs.Texts.{lines_in, raws_from}
use Rattle.abc_text_lines.specs.Scanning.{Between, scan}
use Rattle.abc_text_tokens.proofs.Dividing.{broken_comes, none_come}
use Rattle.abc_text_tokens.proofs.line.next_line.Goals as goal

pub returns-in-Broken : goal.returns-in-Broken
returns-in-Broken c =
    let number = c.loop-rest.number in
    let more = raws_from (number + 1) (lines_in c.split_line.result.1.now) in
    let short = c.split_line.ensures.short in (
      c.loop-rest.invariant.same ∙ c.split_line.ensures.lines number ∙ broken_comes number (scan c.split_line.result.0.now Between) more c.in-Broken.ensures,
      omega (arith, short, c.loop-rest.invariant.bound),
      omega (arith, short, c.loop-rest.invariant.short),
    )

pub returns : goal.returns
returns c = c.loop-rest.invariant.same ∙ none_come c.loop-rest.number c.loop-rest.rest.now (sym c.is_empty.ensures ∙ c.loop-rest-test.false)
