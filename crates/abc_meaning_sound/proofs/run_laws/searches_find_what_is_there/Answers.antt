use Rattle.abc_meaning_sound.proofs.Searched.{search_given}
use Rattle.abc_meaning_sound.proofs.run_laws.searches_find_what_is_there.Goals as goal

pub returns : goal.returns
returns c = search_given
