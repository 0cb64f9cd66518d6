use Rattle.std.proofs.Common.{None}
use Rattle.abc_base_graphs.proofs.Slated.{resized}
use Rattle.abc_link_known.proofs.known.none_known.Goals as goal

pub returns : goal.returns
returns c = resized c.args.count None c.new-known.result c.resize.new.self c.new-known.ensures c.in_ok-resize.ensures.ok
