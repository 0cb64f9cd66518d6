use Rattle.abc_file_types.proofs.Exactness.{double-exact, multiname-exact, multinames-exact, namespace-exact, namespace_set-exact, pools-exact}
use Rattle.abc_pools.proofs.laws.pools_law.Goals as goal

pub returns : goal.returns
returns c = record {
  double = double-exact;
  namespace = namespace-exact;
  namespace_set = namespace_set-exact;
  multiname = multiname-exact;
  multinames = multinames-exact;
  pools = pools-exact;
}
