use Rattle.abc_file_types.proofs.Exact.{times-exact}
use Rattle.abc_file_types.proofs.Numbers.{counted-exact, pool-exact}
use Rattle.abc_varint.proofs.laws.lists_law.Goals as goal

pub returns : goal.returns
returns g c = record {
  times = λ n. times-exact n _ c.requires.item;
  counted = counted-exact _ c.requires.item;
  pool = pool-exact _ c.requires.item;
}
