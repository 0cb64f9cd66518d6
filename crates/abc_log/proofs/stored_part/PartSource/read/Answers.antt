use Rattle.std.proofs.Common.{ℕ, ◌<◌, ◌≤◌, ◌++◌, List, length, drop, ap, rules, arith}
use Rattle.std.proofs.lemmas.Grind.{common_steps}
use Rattle.std.proofs.lemmas.List.{length-append, length-drop}
use Rattle.abc_log.proofs.Taken.{part_taken}
use Rattle.abc_log.proofs.stored_part.PartSource.read.Goals as goal

pub returns-clause-bytes : goal.returns-clause-bytes
returns-clause-bytes g c =
    let piece : List ℕ = c.read.new.into in
    let rest : List ℕ = drop c.min-most.result c.args.into.now in
    let n : ℕ = c.in_ok-count.count in
    let room : ℕ = c.self.inside.room in
    let fits : n ≤ length piece = first_of (search rules, grind (arith, common_steps), omega (arith, c.in_ok-count.ensures.bound.0)) in
    let within : n ≤ room = first_of (search rules, grind (arith, common_steps), omega (arith, fits)) in
    let some : 0 < length (piece ++ rest) → 0 < length piece = λ (h : 0 < length (piece ++ rest)). first_of (grind (arith, common_steps), omega (arith, length-append piece rest, length-drop c.min-most.result c.args.into.now)) in
    part_taken _ _ _ piece rest room _ n (ap (λ (v : _). g.S.Source.left v.source) c.self.view_is) (ap (λ (v : _). v.room) c.self.view_is) fits within some c.in_ok-count.ensures.bytes.0 c.in_ok-count.ensures.bytes.1
