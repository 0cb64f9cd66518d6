-- Each entry is of no word.
use Rattle.std.proofs.Common.{sym, subst}
use Rattle.abc_text_tokens.specs.Entries.{AreRight}
use Rattle.abc_text_tokens.proofs.Entering.{one_more}
use Rattle.abc_text_tokens.proofs.Wording.{no_word}
use Rattle.abc_text_tokens.proofs.entries.no_entries.Goals as goal

pub loop-preserved : goal.loop-preserved
loop-preserved c = subst AreRight (sym c.in_ok-push.ensures.items) (one_more c.loop.entries.items _ c.loop.invariant (sym no_word))
