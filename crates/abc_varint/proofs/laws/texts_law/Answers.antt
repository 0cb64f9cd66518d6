use Rattle.abc_file_types.proofs.Fixed.{text-canonical, text-exact}
use Rattle.abc_file_types.proofs.Numbers.{entry_index-exact, index_below-exact, pool_index-exact}
use Rattle.abc_varint.proofs.laws.texts_law.Goals as goal

pub returns : goal.returns
returns c = record {
  index_below = index_below-exact;
  pool_index = pool_index-exact;
  entry_index = entry_index-exact;
  text = text-exact;
  shortest_text = text-canonical;
}
