use Rattle.abc_verify_flow.proofs.Numbering.{place_before, put_padded, put_within}
use Rattle.abc_verify_flow.proofs.place_numbers.PlaceNumbers.put.Goals as goal

pub reach-requires-clause-inside : goal.reach-requires-clause-inside
reach-requires-clause-inside c = place_before c.self.inside.places c.args.place c.self.inside.kept c.args.self.now c.self.invariant c.self.view_is c.requires

pub set-requires : goal.set-requires
set-requires c = c.in_ok-reach.ensures.ok.far

pub invariant_of-self-2 : goal.invariant_of-self-2
invariant_of-self-2 c = put_within c.args.place c.self.inside.places c.args.number c.self.inside.kept c.reach.new.kept c.set.new.self c.in_ok-reach.ensures.ok c.set.ensures

pub returns-clause-ok : goal.returns-clause-ok
returns-clause-ok c = put_padded c.args.place c.self.inside.places c.args.number c.self.inside.kept c.reach.new.kept c.set.new.self c.args.self.now c.self.view_is c.in_ok-reach.ensures.ok c.set.ensures
