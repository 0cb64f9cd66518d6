use Rattle.std.proofs.Common.{◌≡◌, false, refl, arith}
use Rattle.std.specs.Prelude.{nat_le}
use Rattle.std.proofs.lemmas.Bool.Decides.{nat_tests}
use Rattle.abc_file_types.specs.declared.reason.Reason.TheVariants as reasons
use Rattle.abc_file_types.specs.Numbers.{u30}
use Rattle.abc_varint.proofs.Refusing.{refused}
use Rattle.abc_traits.proofs.options.read_option_count.Goals as goal

pub returns-then-count-params : goal.returns-then-count-params
returns-then-count-params g c =
    let no : nat_le c.in_ok-count.count c.args.params ≡ false = grind (arith, nat_tests) in
    refused g.S.Source.left g.S.Source.faults u30 (λ n. nat_le n c.args.params) reasons.OptionCount c.in_ok-count.count c.args.w.now c.read_u30.new.w c.args.source.now c.read_u30.new.source c.place-place.result no c.place-place.ensures.is refl c.in_ok-count.ensures.value.0
