use Rattle.std.proofs.Common.{sym, ◌∙◌}
use Rattle.abc_text_tokens.specs.Cursor.{raws_at}
use Rattle.abc_text_tokens.proofs.Counted.{lines_counted}
use Rattle.abc_text_tokens.proofs.counting.count_lines.Goals as goal

pub returns : goal.returns
returns c labels set taken = c.count_ahead.ensures ∙ sym (lines_counted c.args.part.now c.args.place labels set taken (raws_at c.args.first))
