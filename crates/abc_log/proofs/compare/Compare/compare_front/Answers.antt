use Rattle.std.proofs.Common.{◌≡◌, ℕ, zero, ◌+◌, ◌-◌, ◌<◌, ◌≤◌, List, [], ◌++◌, length, take, get_or, ap, subst, ◌∙◌, rules, arith, length-take-le}
use Rattle.std.proofs.lemmas.Grind.{common_steps}
use Rattle.std.proofs.lemmas.List.{length-append, length-take, take-append-le, take-take}
use Rattle.std.specs.Io.KnownBytes.{IsAtEnd}
use Rattle.abc_log.specs.Followed.{FollowsOn}
use Rattle.abc_log.specs.declared.compare.Verdict.TheVariants.{Differs}
use Rattle.abc_log.proofs.Following.{differs_on}
use Rattle.abc_log.proofs.compare.Compare.compare_front.Goals as goal
use Rattle.abc_log.proofs.compare.Compare.compare_front.Goals.{else-same-count-via-else-same-count, else-same-count-via-then-same-count+else-count-gt0}

-- what was read lies at the front of the block
at_front : (read rest : List ℕ) (n : ℕ) → n ≤ length read → take n (read ++ rest) ≡ take n read
at_front read rest n fits = take-append-le n read rest fits

shorter : (same n : ℕ) (read : List ℕ) → same ≤ n → take same (take n read) ≡ take same read
shorter same n read low = take-take same n read low

pub returns-clause-follows : goal.returns-clause-follows
returns-clause-follows g c =
    let wanted : List ℕ = c.args.piece.now in
    let read : List ℕ = c.read.new.into in
    let n : ℕ = c.in-Ok.count in
    let same : ℕ = c.same_front-same.result in
    let given : List ℕ = take n read in
    let fits : n ≤ length read = omega (arith, c.in-Ok.ensures.bound.0) in
    let far : length given ≡ n = length-take-le n read fits in
    let room : 0 < length read = first_of (search rules, grind (arith, common_steps), omega (arith, length-take {A = ℕ})) in
    let within : same ≤ length given = first_of (grind (arith, common_steps), omega (arith, far, c.same_front-same.ensures.within, length-take {A = ℕ}, length-append {A = ℕ})) in
    let front : take same given ≡ take same wanted = first_of (grind (arith, common_steps), grind (arith, common_steps, at_front, shorter, c.same_front-same.ensures.same)) in
    let other : same < length given → get_or given same 0 ≡ get_or wanted same 0 → ⊥ = λ (lt : same < length given) (e : get_or given same 0 ≡ get_or wanted same 0). first_of (grind (arith, common_steps), grind (arith, common_steps, at_front, c.same_front-same.ensures.parts)) in
    let some : same + 1 ≤ length wanted = first_of (search rules, grind (arith, common_steps)) in
    let none : n ≤ same → n ≡ 0 = λ (le : n ≤ same). elim c.else-same-count.branch [
      | else-same-count-via-then-same-count+else-count-gt0 w ↦ omega arith
      | else-same-count-via-else-same-count w ↦ absurd (omega (arith, far, within, le))
    ] in
    let ended : length given ≤ same → (given ≡ []) × IsAtEnd (g.S.Source.left c.read.new.self) = λ (le : length given ≤ same).
    let gone : n ≡ 0 = none (omega (arith, far, le)) in
    (ap (λ (k : ℕ). take k read) gone, c.in-Ok.ensures.bytes.1 gone room) in
    subst (λ (v : _). FollowsOn (g.S.Source.left v.source) (g.S.Source.faults v.source) v.agreed (take (same + 1) wanted) (g.S.Source.left c.read.new.self) (g.S.Source.faults c.read.new.self) c.saturating_add-self-inside.result (Differs c.saturating_add-self-inside.result)) c.self.view_is
    (differs_on _ _ _ _ _ _ same given wanted c.in-Ok.ensures.cause.later c.in-Ok.ensures.bytes.0 within (omega (arith, some)) front other ended c.saturating_add-self-inside.ensures)
