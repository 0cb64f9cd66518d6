use Rattle.std.proofs.Common.{◌≡◌, ℕ, pos, ◌+ℤ◌, ◌*ℤ◌, [], ◌∷◌, take, w64, sym, ap, ◌∙◌, arith}
use Rattle.std.proofs.lemmas.Int.{ints}
use mir.Val.{to_z, of_z}
use Rattle.abc_base.specs.Hosts.{answer_of, number_or_none, value_of}
use Rattle.abc_embed.specs.Fare.{fare as the_fare}
use Rattle.abc_embed.proofs.fare.Goals as goal

pub returns : goal.returns
returns c =
    let args = c.args.args.now in
    let gives : answer_of the_fare args ≡ number_or_none (pos 300 +ℤ (pos 25 *ℤ args.a)) =
    ap (λ (n : ℕ). number_or_none (value_of the_fare (take n (args.a ∷ args.b ∷ args.c ∷ args.d ∷ [])))) c.requires
    ∙ ap number_or_none (let e : pos 300 +ℤ ((pos 25 *ℤ args.a) +ℤ pos 0) ≡ pos 300 +ℤ (pos 25 *ℤ args.a) = omega (arith, ints) in e) in
    let value : to_z w64 (of_z w64 (pos 300 +ℤ to_z w64 (of_z w64 (pos 25 *ℤ to_z w64 (of_z w64 args.a))))) ≡ pos 300 +ℤ (pos 25 *ℤ args.a) = omega (arith, ints, args.first) in
    c.in_range.ensures ∙ ap number_or_none value ∙ sym gives
