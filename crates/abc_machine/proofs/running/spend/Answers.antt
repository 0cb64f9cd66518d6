use Rattle.abc_machine.proofs.Spending.{stepped_as}
use Rattle.abc_machine.proofs.running.spend.Goals as goal

pub returns-clause-spends : goal.returns-clause-spends
returns-clause-spends g c = stepped_as c.args.linked.now g.out c.args.s.now c.step_on.new.s c.args.fuel.now c.step_on.new.halted (g.K.Sink.written c.args.sink.now) (g.K.Sink.written c.step_on.new.sink) c.requires.1.1.0 c.requires.1.1.1.1.0 c.step_on.ensures.step c.step_on.ensures.value c.step_on.ensures.leaves.sized c.step_on.ensures.leaves.limit

pub step_on-requires : goal.step_on-requires
step_on-requires g c = λ κs among. (among.0, (among.1, (c.requires.1.1.0, (c.requires.1.1.1.0, (c.requires.1.1.1.1.1.0, (c.requires.1.1.1.1.1.1.0, c.requires.1.1.1.1.1.1.1))))))
