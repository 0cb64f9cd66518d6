use Rattle.std.proofs.Common.{◌∙◌, ◌-◌, Bool, List, sym, ap}
use Rattle.std.specs.Prelude.{slice_get}
use Rattle.abc_link.proofs.SetSearch.{no_public}
use Rattle.abc_link.proofs.sets.SetSpaces.holds_public.Goals as goal

pub returns-in-None : goal.returns-in-None
returns-in-None c = no_public c.args.names.now.abc.now c.args.set c.if-set-eq0.false (ap (λ (bs : List Bool). slice_get bs (c.args.set - 1)) (sym c.requires.publics) ∙ sym c.fetch.ensures ∙ c.in-None.is)
