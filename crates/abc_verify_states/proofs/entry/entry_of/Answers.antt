use Rattle.abc_verify_states.proofs.Starts.{begun}
use Rattle.abc_verify_states.proofs.entry.entry_of.Goals as goal

pub returns : goal.returns
returns c = begun _ _ _ _ c.new-stack.ensures c.new-scopes.ensures c.in_ok-locals.ensures
