-- Where the lines end, nothing more is put.
use Rattle.std.proofs.Common.{◌≡◌, None, sym, subst}
use Rattle.std.specs.declared.option.Option.{Option}
use Rattle.abc_text_tokens.specs.Cursor.{AreNumbered}
use Rattle.abc_text_tokens.specs.declared.line.Line.{Line}
use Rattle.abc_text_tokens.specs.Ahead.{FollowsLine}
use Rattle.abc_text_tokens.proofs.Meeting.{all_met, last_one}
use Rattle.abc_text_tokens.proofs.ahead.meet.Goals as goal

pub returns-then-matches : goal.returns-then-matches
returns-then-matches c = all_met c.args.first c.loop-next.next c.loop-next.ahead.items c.loop-next.invariant.more

pub loop-next-preserved : goal.loop-next-preserved
loop-next-preserved c =
    let none : c.after-next.result ≡ None = c.in_default-next.is in
    record {
      numbered = subst AreNumbered (sym none) tt;
      more = λ more follows. last_one c.args.first c.loop-next.ahead.items c.loop-next.next c.loop-next.invariant.more more (subst (λ (o : Option Line). FollowsLine o more) none follows);
    }

pub returns : goal.returns
returns c = all_met c.args.first c.loop-next.next c.loop-next.ahead.items c.loop-next.invariant.more
