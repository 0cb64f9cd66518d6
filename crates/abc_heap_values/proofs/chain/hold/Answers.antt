use Rattle.std.proofs.Common.{◌∙◌, ap}
use Rattle.std.specs.Prelude.{slice_get, Some, ◌≡◌}
use Rattle.abc_heap_values.proofs.Grows.{set_held}
use Rattle.abc_heap_values.proofs.chain.hold.Goals as goal

pub returns : goal.returns
returns c =
    let e : slice_get c.args.cells.now.items c.args.place ≡ Some c.cell_at-old.result = c.cell_at-old.ensures in
    c.set.ensures ∙ ap (λ s. record { items = s; limit = c.args.cells.now.limit }) (set_held c.args.cells.now.items c.args.place c.cell_at-old.result c.args.held e)
