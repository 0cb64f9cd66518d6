use Rattle.std.proofs.Common.{◌≡◌, false, refl, arith}
use Rattle.std.specs.Prelude.{nat_eq}
use Rattle.std.proofs.lemmas.Bool.Decides.{nat_tests}
use Rattle.abc_file_types.specs.declared.reason.Reason.TheVariants as reasons
use Rattle.abc_file_types.specs.Numbers.{u16}
use Rattle.abc_varint.proofs.Refusing.{refused}
use Rattle.abc_file.proofs.reading.read_version_number.Goals as goal

pub returns-then-number-wanted : goal.returns-then-number-wanted
returns-then-number-wanted g c =
    let no : nat_eq c.in_ok-number.number c.args.wanted ≡ false = grind (arith, nat_tests) in
    refused g.S.Source.left g.S.Source.faults u16 (λ n. nat_eq n c.args.wanted) reasons.Version c.in_ok-number.number c.args.w.now c.read_u16.new.w c.args.source.now c.read_u16.new.source c.place-place.result no c.place-place.ensures.is refl c.in_ok-number.ensures.value.0
