use Rattle.std.proofs.Common.{◌≡◌, ℕ, pos, ◌+ℤ◌, ◌*ℤ◌, length, w64, sym, ap, ◌∙◌, arith}
use Rattle.std.proofs.lemmas.Int.{ints}
use mir.Val.{to_z, of_z}
use Rattle.abc_base.specs.Hosts.{answer_of, builtin_formulas, formula_at, number_or_none}
use Rattle.abc_base.proofs.Formulas.{twice_gives, plus_gives}
use Rattle.abc_base.proofs.host.BuiltinHostHost.call.Goals as goal

pub returns-in-0 : goal.returns-in-0
returns-in-0 c =
    let args = c.args.args.now in
    let value : to_z w64 (of_z w64 (pos 2 *ℤ to_z w64 (of_z w64 args.a))) ≡ pos 2 *ℤ args.a = omega (arith, ints, args.first) in
    let count = c.requires.given ∙ ap (λ (i : ℕ). length (formula_at builtin_formulas i).factors) c.in-0.is in
    c.in_range.ensures ∙ ap number_or_none value ∙ sym (twice_gives args count) ∙ ap (λ (i : ℕ). answer_of (formula_at builtin_formulas i) args) (sym c.in-0.is)

pub returns-in-1 : goal.returns-in-1
returns-in-1 c =
    let args = c.args.args.now in
    let value : to_z w64 (of_z w64 (to_z w64 (of_z w64 args.a) +ℤ to_z w64 (of_z w64 args.b))) ≡ args.a +ℤ args.b = omega (arith, ints, args.first, args.second) in
    let count = c.requires.given ∙ ap (λ (i : ℕ). length (formula_at builtin_formulas i).factors) c.in-1.is in
    c.in_range-in-1.ensures ∙ ap number_or_none value ∙ sym (plus_gives args count) ∙ ap (λ (i : ℕ). answer_of (formula_at builtin_formulas i) args) (sym c.in-1.is)
