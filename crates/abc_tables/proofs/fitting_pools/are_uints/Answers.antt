use Rattle.std.proofs.Common.{arith}
use Rattle.abc_tables.proofs.PoolsFit.{uints_fit}
use Rattle.abc_tables.proofs.fitting_pools.are_uints.Goals as goal

pub returns : goal.returns
returns c =
    let fit = uints_fit c.args.uints.now (λ i. omega (arith, c.type_inv.uints i)) in
    (λ h. fit.1 (c.is_pool_count.ensures.0 h), λ h. c.is_pool_count.ensures.1 (fit.0 h))
