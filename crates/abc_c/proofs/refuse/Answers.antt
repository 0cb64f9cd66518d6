use Rattle.std.proofs.Common.{ℕ, List, [], refl, subst}
use Rattle.std.specs.Prelude.{Some}
use Rattle.abc_base.specs.Sinks.{GrowsByFront}
use Rattle.abc_c.proofs.Telling.{some_front}
use Rattle.abc_c.proofs.refuse.Goals as goal

pub returns-clause-front : goal.returns-clause-front
returns-clause-front c =
    let now = Some c.write_all.new.out.taken in
    let wrote = some_front c.write_all.result (Some c.args.out.now.taken) now c.reason_for.result.now (c.write_all.ensures.bytes refl) in
    subst (λ (bs : List ℕ). GrowsByFront (Some []) now bs) c.reason_for.ensures (subst (λ (xs : List ℕ). GrowsByFront (Some xs) now c.reason_for.result.now) c.requires wrote)
