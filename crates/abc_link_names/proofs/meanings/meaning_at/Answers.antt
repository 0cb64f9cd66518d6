use Rattle.std.proofs.Common.{◌∙◌, sym}
use Rattle.abc_link_names.proofs.Meant.{known_means}
use Rattle.abc_link_names.proofs.meanings.meaning_at.Goals as goal

pub returns-in-Some : goal.returns-in-Some
returns-in-Some c = known_means c.args.names.now.abc.now c.args.known.now c.args.name c.in-Some.found c.requires (sym c.known_at.ensures ∙ c.in-Some.is)
