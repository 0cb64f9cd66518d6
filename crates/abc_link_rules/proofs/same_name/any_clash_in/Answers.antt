use Rattle.std.proofs.Common.{sym, arith, below_more}
use Rattle.abc_link_rules.proofs.SidedRepeats.{names_apart_in, names_meet_in}
use Rattle.abc_link_rules.proofs.same_name.any_clash_in.Goals as goal

pub returns-then-is_clash : goal.returns-then-is_clash
returns-then-is_clash c =
    sym (names_meet_in c.args.keys.now c.args.firsts.now c.args.sided.now c.loop-i.i c.requires.names c.requires.sides (omega arith) (sym c.if-is_clash.ensures))

pub returns : goal.returns
returns c = sym (names_apart_in c.args.keys.now c.args.firsts.now c.args.sided.now c.requires.names c.requires.sides (λ i lt. c.loop-i.invariant i (omega arith)))

pub loop-i-preserved : goal.loop-i-preserved
loop-i-preserved c = below_more _ _ c.loop-i.invariant (sym c.if-is_clash.ensures)
