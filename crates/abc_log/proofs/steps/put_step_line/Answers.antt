use Rattle.std.proofs.Common.{◌≡◌, ℕ, ◌+◌, ◌-◌, ◌<◌, ◌≤◌, ◌^◌, List, [], ◌∷◌, ◌++◌, length, drop, decimal, refl, sym, ap, ◌∙◌, rules, arith, append_assoc}
use Rattle.std.proofs.Math.ListN.{set, length-set}
use Rattle.std.proofs.lemmas.Fmt.{length-decimal-le}
use Rattle.std.proofs.lemmas.Grind.{common_steps}
use Rattle.std.proofs.lemmas.List.{drop-set, drop_all}
use Rattle.abc_log.specs.Lines.{step_line}
use Rattle.abc_log.proofs.steps.put_step_line.Goals as goal

-- a number of 32 bits has few digits
few_digits : (n number : ℕ) → n ≡ number → number < 2 ^ 32 → length (decimal n) ≤ 10
few_digits n number same small = length-decimal-le 10 n (omega arith) (omega arith) (omega arith)

-- what is put from the last byte to the first
put : (line mid end : List ℕ) (method index m i space start : ℕ) → m ≡ method → i ≡ index → length line ≡ 22 → 1 ≤ space → space ≤ length mid
    → drop space mid ≡ decimal i ++ drop 21 (set line 21 10) → drop start end ≡ decimal m ++ drop (space - 1) (set mid (space - 1) 32) → drop start end ≡ step_line method index
unfolding step_line
put line mid end method index m i space start same_m same_i long some within second first =
    let below : 21 < length line = omega arith in
    let feed : drop 21 (set line 21 10) ≡ 10 ∷ [] = drop-set line 21 10 below ∙ ap (λ (l : List ℕ). 10 ∷ l) (drop_all 22 line (omega arith)) in
    let one : space - 1 + 1 ≡ space = omega arith in
    let low : space - 1 < length mid = omega arith in
    let gap : drop (space - 1) (set mid (space - 1) 32) ≡ 32 ∷ drop space mid = drop-set mid (space - 1) 32 low ∙ ap (λ (k : ℕ). 32 ∷ drop k mid) one in
    let rest : drop space mid ≡ decimal index ++ 10 ∷ [] = second ∙ ap (λ (l : List ℕ). decimal i ++ l) feed ∙ ap (λ (k : ℕ). decimal k ++ 10 ∷ []) same_i in
    first ∙ ap (λ (l : List ℕ). decimal m ++ l) (gap ∙ ap (λ (l : List ℕ). 32 ∷ l) rest) ∙ ap (λ (k : ℕ). decimal k ++ (32 ∷ (decimal index ++ 10 ∷ []))) same_m
    ∙ sym (append_assoc (decimal method) (32 ∷ decimal index) (10 ∷ []))

pub write_digits-space-requires : goal.write_digits-space-requires
write_digits-space-requires c =
    let few = few_digits c.from.result c.args.index c.from.ensures (omega arith) in
    (omega (arith, few), first_of (search rules, grind (arith, common_steps), omega (arith, length-set {A = ℕ})))

pub overflow_sub-space : goal.overflow_sub-space
overflow_sub-space c =
    let few = few_digits c.from.result c.args.index c.from.ensures (omega arith) in
    omega (arith, few, c.write_digits-space.ensures.start)

pub write_digits-requires : goal.write_digits-requires
write_digits-requires c =
    let few = few_digits c.from.result c.args.index c.from.ensures (omega arith) in
    let fewer = few_digits c.from-2.result c.args.method c.from-2.ensures (omega arith) in
    (omega (arith, few, fewer, c.write_digits-space.ensures.start), first_of (search rules, grind (arith, common_steps), omega (arith, length-set {A = ℕ})))

pub returns-clause-bytes : goal.returns-clause-bytes
returns-clause-bytes c =
    let few = few_digits c.from.result c.args.index c.from.ensures (omega arith) in
    let e = c.write_digits-space.ensures in
    put c.args.line.now c.write_digits-space.new.buf c.write_digits.new.buf c.args.method c.args.index c.from-2.result c.from.result c.write_digits-space.result c.write_digits.result c.from-2.ensures c.from.ensures
    (first_of (search rules, omega arith)) (omega (arith, few, e.start)) (first_of (search rules, grind (arith, common_steps), omega (arith, e.start, length-set {A = ℕ}))) e.written c.write_digits.ensures.written
