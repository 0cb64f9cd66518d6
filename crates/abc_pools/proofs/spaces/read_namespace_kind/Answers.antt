use Rattle.std.proofs.Common.{◌≡◌, false, refl, arith}
use Rattle.std.proofs.lemmas.Bool.Decides.{nat_tests}
use Rattle.abc_file_types.specs.declared.reason.Reason.TheVariants as reasons
use Rattle.abc_file_types.specs.Numbers.{u8}
use Rattle.abc_file_types.specs.Pools.{is_namespace_kind, namespace_kind, namespace_kind_of}
use Rattle.abc_varint.proofs.Refusing.{refused_image}
use Rattle.abc_pools.proofs.spaces.read_namespace_kind.Goals as goal

pub returns-in_default-clause-value : goal.returns-in_default-clause-value
unfolding namespace_kind
returns-in_default-clause-value g c =
    let x = c.in_ok-read_u8.field-0 in
    let no : is_namespace_kind x ≡ false = grind (arith, nat_tests) in
    refused_image g.S.Source.left g.S.Source.faults u8 is_namespace_kind reasons.NamespaceKind x c.args.w.now c.read_u8.new.w c.args.source.now c.read_u8.new.source c.place-place.result no c.place-place.ensures.is namespace_kind_of refl c.in_ok-read_u8.ensures.value.0
