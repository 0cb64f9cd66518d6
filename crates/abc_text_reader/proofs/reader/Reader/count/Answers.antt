use Rattle.std.proofs.Common.{List, drop, sym, subst}
use Rattle.abc_text_tokens.specs.Ahead.{FollowsLine}
use Rattle.abc_text_tokens.specs.declared.line.Line.{Line}
use Rattle.abc_text_reader.specs.Reading.{labels_now, rows_left, set_now}
use Rattle.abc_text_reader.proofs.reader.Reader.count.Goals as goal

pub returns : goal.returns
unfolding rows_left
returns c = let r = c.args.self.now in c.count_lines.ensures (labels_now r.body) (set_now r) r.bodied

pub count_lines-requires-clause-ahead : goal.count_lines-requires-clause-ahead
count_lines-requires-clause-ahead c =
    let r = c.args.self.now in
    subst (λ (lines : List Line). FollowsLine r.next (drop r.place lines)) (sym c.as_slice.ensures.value) c.requires.ahead
