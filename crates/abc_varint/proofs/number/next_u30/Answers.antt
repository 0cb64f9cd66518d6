use Rattle.std.proofs.Common.{refl, ◌^◌}
use Rattle.std.specs.Prelude.{nat_lt}
use Rattle.std.proofs.lemmas.Bool.{le-ltb}
use Rattle.abc_file_types.specs.declared.reason.Reason.TheVariants as reasons
use Rattle.abc_file_types.specs.Numbers.{number, u30}
use Rattle.abc_varint.proofs.Refusing.{refused_and_kept}
use Rattle.abc_varint.proofs.number.next_u30.Goals as goal

pub returns-then-x-clause-value : goal.returns-then-x-clause-value
unfolding u30
returns-then-x-clause-value g c =
    refused_and_kept g.S.Source.left g.S.Source.faults number (λ x. nat_lt x (2 ^ 30)) reasons.BigNumber c.in_ok-x.x c.args.w.now c.next_number.new.w c.args.source.now c.next_number.new.source c.place-start.result
    (le-ltb c.in_ok-x.x (2 ^ 30) c.if-x.true) c.place-start.ensures.is c.refuse.new.self c.refuse.result refl c.refuse.ensures.is c.refuse.ensures.keeps c.in_ok-x.ensures.value.0
