use Rattle.std.proofs.Common.{sym, ◌∙◌}
use Rattle.abc_verify_flow.proofs.Numbering.{read_blank, read_kept}
use Rattle.abc_verify_flow.proofs.place_numbers.PlaceNumbers.at.Goals as goal

pub returns-in-Some : goal.returns-in-Some
returns-in-Some c = read_kept c.self.inside.places c.args.place c.in-Some.number c.self.inside.kept c.args.self.now c.self.view_is (sym c.fetch.ensures ∙ c.in-Some.is)

pub returns-in-None : goal.returns-in-None
returns-in-None c = read_blank c.self.inside.places c.args.place c.self.inside.kept c.args.self.now c.self.invariant c.self.view_is (sym c.fetch.ensures ∙ c.in-None.is) c.requires
