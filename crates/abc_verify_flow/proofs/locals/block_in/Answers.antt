use Rattle.std.proofs.Common.{◌≡◌, ℕ, ◌+◌, ◌-◌, ◌*◌, take, drop, ap, arith}
use Rattle.abc_verify_flow.proofs.Cut.{short_block}
use Rattle.abc_verify_flow.proofs.locals.block_in.Goals as goal

pub returns-then-left-le-BLOCK : goal.returns-then-left-le-BLOCK
returns-then-left-le-BLOCK c = short_block c.args.locals.now (c.args.index * 64) (omega arith)

pub returns : goal.returns
returns c =
    let whole : c.args.index * 64 + 64 - c.args.index * 64 ≡ 64 = omega arith in
    ap (λ (n : ℕ). take n (drop (c.args.index * 64) c.args.locals.now)) whole
