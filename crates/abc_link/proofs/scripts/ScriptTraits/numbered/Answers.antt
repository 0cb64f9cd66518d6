use Rattle.std.proofs.Common.{◌∙◌}
use Rattle.abc_link.proofs.ScriptPlaces.{numbered, unnumbered}
use Rattle.abc_link.proofs.scripts.ScriptTraits.numbered.Goals as goal

pub returns-in-Some : goal.returns-in-Some
returns-in-Some c = λ t is. c.get.ensures.value ∙ numbered c.args.abc.now c.args.texts.now c.args.self.now c.in-Some.number t c.requires (is ∙ c.in-Some.is)

pub returns-in-None : goal.returns-in-None
returns-in-None c = λ t is. unnumbered c.args.abc.now c.args.texts.now c.args.self.now t c.requires (is ∙ c.in-None.is)
