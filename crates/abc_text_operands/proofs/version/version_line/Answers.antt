use Rattle.std.proofs.Common.{ℕ, sym}
use Rattle.abc_text_lines.specs.Operands.{any_number, exactly}
use Rattle.abc_text_operands.proofs.Joining.{two_bad, two_good}
use Rattle.abc_text_operands.proofs.version.version_line.Goals as goal

pub returns-in-Some : goal.returns-in-Some
unfolding any_number
returns-in-Some c labels =
    sym (two_good (λ (x : ℕ × (ℕ × Unit {0})). x) (λ (x : ℕ × (ℕ × Unit {0})). x) (exactly 16) (exactly 46) c.args.tokens.now c.in-Some.minor c.in-Some.major labels c.exactly.result c.exactly-in-Some.result c.two.result c.in-Some.ensures c.exactly.ensures c.exactly-in-Some.ensures c.two.ensures)

pub returns-in-None : goal.returns-in-None
returns-in-None c labels = sym (two_bad (λ (x : ℕ × (ℕ × Unit {0})). x) (λ (x : ℕ × (ℕ × Unit {0})). x) (exactly 16) (exactly 46) c.args.tokens.now labels c.in-None.ensures)
