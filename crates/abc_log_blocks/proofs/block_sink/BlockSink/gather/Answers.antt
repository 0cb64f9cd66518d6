use Rattle.std.proofs.Common.{◌≡◌, ◌∙◌, ◌++◌, ◌-◌, ◌≤◌, List, ℕ, ap, arith, drop, length, length-take, take}
use Rattle.abc_log_blocks.proofs.Blocks.{grown}
use Rattle.abc_log_blocks.proofs.block_sink.BlockSink.gather.Goals as goal

pub returns-clause-bytes : goal.returns-clause-bytes
returns-clause-bytes g c =
    let s = c.args.self.now in
    let n : ℕ = c.min-count.result in
    let after = c.copy_from_slice.ensures.after in
    let same : length c.copy_from_slice.new.self ≡ length (take n c.args.piece.now) = ap length after in
    let long : length c.copy_from_slice.new.self ≡ n = omega (arith, same, length-take n c.args.piece.now, c.min-count.ensures) in
    let high : s.end ≤ length s.bytes = omega arith in
    grown s.bytes c.copy_from_slice.new.self s.at s.end n _ s.within high long ∙ ap (λ (l : List ℕ). take (s.end - s.at) (drop s.at s.bytes) ++ l) after
