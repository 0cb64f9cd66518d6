use Rattle.abc_varint.proofs.Inputs.{at_end, kept_is_no_memory}
use Rattle.abc_varint.proofs.window.Window.is_at_end.Goals as goal

pub returns-in-Some-clause-no_memory : goal.returns-in-Some-clause-no_memory
returns-in-Some-clause-no_memory g c = λ h. kept_is_no_memory c.in-Some.e (c.self.invariant.7 c.in-Some.e c.in-Some.is) cc

pub returns-clause-value : goal.returns-clause-value
returns-clause-value g c = at_end c.fill.new.self (g.S.Source.left c.fill.new.source) c.is_used_up-2.result c.is_used_up-2.ensures c.in_ok-fill.ensures.end
