use Rattle.std.proofs.Common.{◌≡◌, true, get_or, ◌∙◌}
use Rattle.abc_text_lines.specs.Tokens.{is_blank}
use Rattle.abc_text_tokens.proofs.Walking.{blank_step}
use Rattle.abc_text_tokens.proofs.bytes.after_blanks.Goals as goal

pub loop-i-preserved : goal.loop-i-preserved
loop-i-preserved c =
    let blank : is_blank (get_or c.args.bytes.now c.loop-i.i 0) ≡ true = cc (c.is_blank.ensures, c.if-not-is_blank.false) in
    c.loop-i.invariant ∙ blank_step c.args.bytes.now c.loop-i.i c.loop-i-test.true blank
