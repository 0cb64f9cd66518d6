use Rattle.std.proofs.Common.{◌≡◌, ℕ, ◌/◌, ◌%◌, false, refl, arith}
use Rattle.std.specs.Prelude.{nat_le}
use Rattle.std.proofs.lemmas.Bool.Decides.{nat_tests}
use Rattle.abc_file_types.specs.declared.reason.Reason.TheVariants as reasons
use Rattle.abc_file_types.specs.Numbers.{u8}
use Rattle.abc_file_types.specs.Traits.{trait_kind, trait_kind_of}
use Rattle.abc_varint.proofs.Refusing.{refused_image}
use Rattle.abc_traits.proofs.traits.read_trait_kind.Goals as goal

pub returns-in_default : goal.returns-in_default
unfolding trait_kind
returns-in_default g c =
    let x = c.in_ok-byte.byte in
    let no : nat_le (x % 16) 6 ≡ false = grind (arith, nat_tests) in
    refused_image g.S.Source.left g.S.Source.faults u8 (λ b. nat_le (b % 16) 6) reasons.TraitKind x c.args.w.now c.read_u8.new.w c.args.source.now c.read_u8.new.source c.place-place.result no c.place-place.ensures.is (λ (b : ℕ). (trait_kind_of (b % 16), b / 16 % 16)) refl c.in_ok-byte.ensures.value.0
