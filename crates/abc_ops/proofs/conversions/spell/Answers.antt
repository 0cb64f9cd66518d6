use Rattle.abc_ops.specs.Conversions.{spelling}
use Rattle.abc_ops.proofs.Staying.{spelled_stays, stays_left}
use Rattle.abc_ops.proofs.conversions.spell.Goals as goal

pub returns-clause-over : goal.returns-clause-over
returns-clause-over c =
    let l = c.args.l.now in
    let h = c.args.a.now in
    (stays_left l h c.spell_as.new.a (spelling l h c.args.v) c.spell_as.result c.spell_as.ensures (spelled_stays l h c.args.v c.requires.over c.requires.value)).over

pub returns-clause-grows : goal.returns-clause-grows
returns-clause-grows c =
    let l = c.args.l.now in
    let h = c.args.a.now in
    (stays_left l h c.spell_as.new.a (spelling l h c.args.v) c.spell_as.result c.spell_as.ensures (spelled_stays l h c.args.v c.requires.over c.requires.value)).grows

pub returns-clause-there : goal.returns-clause-there
returns-clause-there c =
    let l = c.args.l.now in
    let h = c.args.a.now in
    (stays_left l h c.spell_as.new.a (spelling l h c.args.v) c.spell_as.result c.spell_as.ensures (spelled_stays l h c.args.v c.requires.over c.requires.value)).there
