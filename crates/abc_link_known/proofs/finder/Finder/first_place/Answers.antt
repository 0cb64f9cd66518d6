use Rattle.std.proofs.Common.{◌∙◌, ℕ, List, ap, arith}
use Rattle.std.proofs.lemmas.List.{take_all}
use Rattle.abc_base_graphs.specs.Index.{first}
use Rattle.abc_link_known.specs.Slates.{has_spot_among}
use Rattle.abc_link_known.proofs.Firsts.{next_earlier, none_first}
use Rattle.abc_link_known.proofs.finder.Finder.first_place.Goals as goal

pub loop-space-init : goal.loop-space-init
loop-space-init c = none_first c.args.self.now.names.abc.now c.args.self.now.names.tables.now.numbers c.args.classes.now

pub loop-space-preserved : goal.loop-space-preserved
loop-space-preserved c =
    next_earlier c.args.self.now.names.abc.now c.args.self.now.names.tables.now.numbers c.args.classes.now c.args.spaces.now c.loop-space.space-index c.loop-space.first c.earlier-first.result c.place_of.result c.loop-space.invariant c.place_of.ensures c.earlier-first.ensures (omega arith)

pub returns : goal.returns
returns c =
    let v = c.args.self.now.names.abc.now in
    let numbers = c.args.self.now.names.tables.now.numbers in
    c.loop-space.invariant ∙ ap (λ (spaces : List ℕ). first (has_spot_among v numbers spaces) c.args.classes.now) (take_all c.loop-space.space-index c.args.spaces.now (omega arith))
