use Rattle.std.proofs.Common.{ap, length, arith}
use Rattle.abc_base_trees.proofs.InRows.{length_rows}
use Rattle.abc_base_trees.proofs.rows.Rows.len.Goals as goal

pub returns : goal.returns
returns g c =
    let many = length_rows 0 c.self.inside.ends.items c.self.inside.items.items in
    let same = ap length c.self.view_is in
    omega (arith, many, same)
