use Rattle.std.proofs.Common.{ℕ, sym, subst}
use Rattle.abc_base.specs.Numbers.{IsFewest, SpellsU30}
use Rattle.abc_base.proofs.Spelling.{u30_fewest}
use Rattle.abc_base.proofs.number.len_u30.Goals as goal

pub returns-clause-fewest : goal.returns-clause-fewest
returns-clause-fewest c = λ lt. subst (λ (k : ℕ). IsFewest (SpellsU30 c.args.v) k) (sym c.len_u32.ensures.is) (u30_fewest c.args.v lt)
