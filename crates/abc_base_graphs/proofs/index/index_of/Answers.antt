use Rattle.std.proofs.Common.{arith}
use Rattle.abc_base_graphs.proofs.Lookup.{index_more}
use Rattle.abc_base_graphs.proofs.index.index_of.Goals as goal

pub loop-i-preserved : goal.loop-i-preserved
loop-i-preserved g c =
    let within = c.loop-i.auto.i in
    let pos = c.loop-i-test.true in
    index_more g.K.PartialEq.eq g.met.K.Eq.laws.symm c.loop-i.map c.insert.new.self c.args.keys.now c.loop-i.i c.index-keys-i.result (omega (arith, pos)) (omega (arith, within)) c.index-keys-i.is c.in_ok-insert.ensures.updates.0 c.loop-i.invariant
