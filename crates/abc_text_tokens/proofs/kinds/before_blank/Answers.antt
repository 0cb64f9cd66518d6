use Rattle.std.proofs.Common.{◌≡◌, ◌<◌, ℕ, true, nat_eq, get_or, length, take, sym, ap, ◌∙◌, arith}
use Rattle.std.proofs.lemmas.List.{take_all}
use Rattle.std.proofs.lemmas.List.Sums.{position_or_len_is}
use Rattle.std.proofs.lemmas.Bool.Decides.{nat_tests}
use Rattle.abc_text_tokens.proofs.kinds.before_blank.Goals as goal

pub returns-then-word-i-eq32 : goal.returns-then-word-i-eq32
returns-then-word-i-eq32 c =
    let here : c.loop-i.i < length c.args.word.now → nat_eq (get_or c.args.word.now c.loop-i.i 0) 0x20 ≡ true = λ h. let e = c.if-word-i-eq32.true in grind (arith, nat_tests) in
    ap (λ (n : ℕ). take n c.args.word.now) (sym (position_or_len_is (λ b. nat_eq b 0x20) c.args.word.now c.loop-i.i 0 (omega arith) c.loop-i.invariant here))

pub returns : goal.returns
returns c =
    let le : length c.args.word.now ≡ c.loop-i.i = omega (arith, c.loop-i-test.false) in
    let p = position_or_len_is (λ b. nat_eq b 0x20) c.args.word.now c.loop-i.i 0 (omega arith) c.loop-i.invariant (λ h. absurd (omega arith)) in
    sym (take_all c.loop-i.i c.args.word.now (omega arith)) ∙ ap (λ (n : ℕ). take n c.args.word.now) (sym p)
