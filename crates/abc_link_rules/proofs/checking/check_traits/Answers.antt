use Rattle.std.proofs.lemmas.Result.{MatchResult-weaker}
use Rattle.abc_link_names.proofs.FirstBroken.{all_hold}
use Rattle.abc_link_rules.proofs.checking.check_traits.Goals as goal

pub returns : goal.returns
returns c = MatchResult-weaker c.check-4.result c.check-4.ensures (λ _ h. all_hold c.args.abc.now h) (λ _ h. h)
