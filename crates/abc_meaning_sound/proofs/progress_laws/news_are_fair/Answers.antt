use Rattle.abc_meaning_sound.proofs.Fared.{news_fair}
use Rattle.abc_meaning_sound.proofs.progress_laws.news_are_fair.Goals as goal

pub returns : goal.returns
returns c = news_fair
