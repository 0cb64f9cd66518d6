use Rattle.abc_file_types.proofs.Determined.{determined}
use Rattle.abc_file_types.proofs.Exactness.{multiname-exact, pools-exact}
use Rattle.abc_file_types.proofs.Shortest.{multiname-canonical, pools-canonical}
use Rattle.abc_pools.proofs.pools.shortest_spelling.Goals as goal

pub returns : goal.returns
returns c = record {
  one_reading = determined _ pools-exact;
  shortest = pools-canonical;
  one_reading_of_names = λ strings spaces sets names. determined _ (multiname-exact strings spaces sets names);
  shortest_names = multiname-canonical;
}
