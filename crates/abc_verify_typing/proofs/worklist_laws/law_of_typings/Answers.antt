use Rattle.abc_verify_typing.proofs.Good.{good}
use Rattle.abc_verify_typing.proofs.Exact.{exactly}
use Rattle.abc_verify_typing.proofs.worklist_laws.law_of_typings.Goals as goal

pub returns : goal.returns
returns c = λ p m t. exactly p m (good p t)
