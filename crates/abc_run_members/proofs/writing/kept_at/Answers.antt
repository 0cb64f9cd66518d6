use Rattle.std.proofs.Common.{ap, arith}
use Rattle.std.specs.Prelude.{Some}
use Rattle.abc_lookup.specs.declared.elements.ElementName.{ElementName}
use Rattle.abc_lookup.specs.Named.{element_in}
use Rattle.abc_run_members.proofs.writing.kept_at.Goals as goal

pub returns-then-k-length : goal.returns-then-k-length
returns-then-k-length c = (ap (λ (e : ElementName). element_in (Some e)) c.in-Number.is, omega (arith, c.if-k-length.true, c.length.ensures))
