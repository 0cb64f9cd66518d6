use Rattle.std.proofs.Common.{◌≡◌, ◌+ℤ◌, w64, sym, ap, ◌∙◌, arith}
use Rattle.std.proofs.lemmas.Int.{ints}
use mir.Val.{to_z, of_z}
use Rattle.abc_base.specs.Hosts.{number_or_none}
use Rattle.abc_base.proofs.Formulas.{plus_gives}
use Rattle.abc.proofs.sum.Goals as goal

pub returns : goal.returns
returns c =
    let args = c.args.args.now in
    let value : to_z w64 (of_z w64 (to_z w64 (of_z w64 args.a) +ℤ to_z w64 (of_z w64 args.b))) ≡ args.a +ℤ args.b = omega (arith, ints, args.first, args.second) in
    c.in_range.ensures ∙ ap number_or_none value ∙ sym (plus_gives args c.requires)
