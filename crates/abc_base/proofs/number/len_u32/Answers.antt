use Rattle.std.proofs.Common.{◌≡◌, ℕ, ◌^◌, ◌<◌, length, sym, subst, arith}
use Rattle.abc_base.specs.Numbers.{IsFewest, SpellsU32, number_bytes}
use Rattle.abc_base.proofs.Spelling.{length_1, length_2, length_3, length_4, length_5, u32_fewest}
use Rattle.abc_base.proofs.number.len_u32.Goals as goal

fewest_at : (v n : ℕ) → v < 2 ^ 32 → length (number_bytes v) ≡ n → IsFewest (SpellsU32 v) n
fewest_at v n lt e = subst (λ (k : ℕ). IsFewest (SpellsU32 v) k) e (u32_fewest v lt)

pub returns-in-0-to-127-clause-is : goal.returns-in-0-to-127-clause-is
returns-in-0-to-127-clause-is c = sym (length_1 c.args.v (omega arith))

pub returns-in-0-to-127-clause-fewest : goal.returns-in-0-to-127-clause-fewest
returns-in-0-to-127-clause-fewest c = fewest_at c.args.v 1 (omega arith) (length_1 c.args.v (omega arith))

pub returns-in-128-to-16383-clause-is : goal.returns-in-128-to-16383-clause-is
returns-in-128-to-16383-clause-is c = sym (length_2 c.args.v (omega arith) (omega arith))

pub returns-in-128-to-16383-clause-fewest : goal.returns-in-128-to-16383-clause-fewest
returns-in-128-to-16383-clause-fewest c = fewest_at c.args.v 2 (omega arith) (length_2 c.args.v (omega arith) (omega arith))

pub returns-in-16384-to-2097151-clause-is : goal.returns-in-16384-to-2097151-clause-is
returns-in-16384-to-2097151-clause-is c = sym (length_3 c.args.v (omega arith) (omega arith))

pub returns-in-16384-to-2097151-clause-fewest : goal.returns-in-16384-to-2097151-clause-fewest
returns-in-16384-to-2097151-clause-fewest c = fewest_at c.args.v 3 (omega arith) (length_3 c.args.v (omega arith) (omega arith))

pub returns-in-2097152-to-268435455-clause-is : goal.returns-in-2097152-to-268435455-clause-is
returns-in-2097152-to-268435455-clause-is c = sym (length_4 c.args.v (omega arith) (omega arith))

pub returns-in-2097152-to-268435455-clause-fewest : goal.returns-in-2097152-to-268435455-clause-fewest
returns-in-2097152-to-268435455-clause-fewest c = fewest_at c.args.v 4 (omega arith) (length_4 c.args.v (omega arith) (omega arith))

pub returns-in_default-clause-is : goal.returns-in_default-clause-is
returns-in_default-clause-is c = sym (length_5 c.args.v (omega arith) (omega arith))

pub returns-in_default-clause-fewest : goal.returns-in_default-clause-fewest
returns-in_default-clause-fewest c = fewest_at c.args.v 5 (omega arith) (length_5 c.args.v (omega arith) (omega arith))
