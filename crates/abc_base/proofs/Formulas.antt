-- What the formulas of the built-in host give.
use Rattle.std.proofs.Common.{◌≡◌, ℕ, pos, ◌+ℤ◌, ◌*ℤ◌, ◌∷◌, [], take, ap, ◌∙◌, arith}
use Rattle.std.proofs.lemmas.Int.{ints}
use Rattle.abc_base.specs.Hosts.{answer_of, number_or_none, value_of, twice, plus}
use Rattle.abc_base.specs.declared.plain.Plain.{Plain}

pub twice_gives : (args : Plain) → args.count ≡ 1 → answer_of twice args ≡ number_or_none (pos 2 *ℤ args.a)
twice_gives args one =
    ap (λ (n : ℕ). number_or_none (value_of twice (take n (args.a ∷ args.b ∷ args.c ∷ args.d ∷ [])))) one
    ∙ ap number_or_none (let e : pos 0 +ℤ ((pos 2 *ℤ args.a) +ℤ pos 0) ≡ pos 2 *ℤ args.a = omega (arith, ints) in e)

pub plus_gives : (args : Plain) → args.count ≡ 2 → answer_of plus args ≡ number_or_none (args.a +ℤ args.b)
plus_gives args two =
    ap (λ (n : ℕ). number_or_none (value_of plus (take n (args.a ∷ args.b ∷ args.c ∷ args.d ∷ [])))) two
    ∙ ap number_or_none (let e : pos 0 +ℤ ((pos 1 *ℤ args.a) +ℤ ((pos 1 *ℤ args.b) +ℤ pos 0)) ≡ args.a +ℤ args.b = omega (arith, ints) in e)
