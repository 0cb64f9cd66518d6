use Rattle.abc_run_state.specs.Outer.{world}
use Rattle.abc_run_members.proofs.Places.{element_there, place_is, place_open}
use Rattle.abc_run_members.proofs.values.element_of.Goals as goal

pub element-requires : goal.element-requires
element-requires g c = place_open (λ ob. ob.elements) c.args.holder c.args.index (world c.args.s.now g.out) c.requires.1

pub returns-clause-part : goal.returns-clause-part
returns-clause-part g c = place_is (λ ob. ob.elements) c.args.holder c.args.index c.element.result (world c.args.s.now g.out) c.requires.1 c.element.ensures

pub returns-clause-there : goal.returns-clause-there
returns-clause-there g c = element_there c.args.linked.now c.args.holder c.args.index c.element.result (world c.args.s.now g.out) c.requires.0 c.requires.1 c.element.ensures
