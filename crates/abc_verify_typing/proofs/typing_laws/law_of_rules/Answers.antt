use Rattle.abc_verify_typing.proofs.Monotone.{fine_down, follows_le}
use Rattle.abc_verify_typing.proofs.Good.{good}
use Rattle.abc_verify_typing.proofs.typing_laws.law_of_rules.Goals as goal

pub returns : goal.returns
returns c = record { fine = λ p m i s t g le f. fine_down p m i s t (good p g) le f; follows = λ p m i s t k n g le fine f. follows_le p m i s t k n (good p g) le fine f }
