use Rattle.abc_base_graphs.proofs.Walks.{is_way, only_way}
use Rattle.abc_base_graphs.proofs.ways.one_way.Goals as goal

pub returns : goal.returns
returns c = record { is_way = is_way; no_other = only_way }
