use Rattle.abc_traits.proofs.Filling.{passes_definitions}
use Rattle.abc_traits.proofs.pass.pass_definitions.Goals as goal

pub returns : goal.returns
returns g c = λ abc same.
    let e = c.pass_tables.ensures in
    (passes_definitions abc c.args.pools.now c.args.w.now (g.S.Source.left c.args.source.now) c.pass_tables.new.w (g.S.Source.left c.pass_tables.new.source) c.args.out.now.items c.pass_tables.new.out.items c.pass_tables.result same e.0, e.1, e.2, e.3, e.4)
