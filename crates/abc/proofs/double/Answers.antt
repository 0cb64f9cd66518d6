use Rattle.std.proofs.Common.{◌≡◌, pos, ◌*ℤ◌, w64, sym, ap, ◌∙◌, arith}
use Rattle.std.proofs.lemmas.Int.{ints}
use mir.Val.{to_z, of_z}
use Rattle.abc_base.specs.Hosts.{number_or_none}
use Rattle.abc_base.proofs.Formulas.{twice_gives}
use Rattle.abc.proofs.double.Goals as goal

pub returns : goal.returns
returns c =
    let args = c.args.args.now in
    let value : to_z w64 (of_z w64 (pos 2 *ℤ to_z w64 (of_z w64 args.a))) ≡ pos 2 *ℤ args.a = omega (arith, ints, args.first) in
    c.in_range.ensures ∙ ap number_or_none value ∙ sym (twice_gives args c.requires)
