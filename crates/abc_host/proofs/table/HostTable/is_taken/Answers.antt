use Rattle.std.proofs.Common.{map}
use Rattle.abc_host.proofs.Taken.{taken_by_host, taken_by_one}
use Rattle.abc_host.proofs.table.HostTable.is_taken.Goals as goal

pub returns-then-is_name_of_host : goal.returns-then-is_name_of_host
returns-then-is_name_of_host g c = taken_by_host (map (λ entry. entry.formula) c.args.self.now.entries.items) _ _ _ c.as_slice-bytes.ensures c.if-is_name_of_host.true c.is_name_of_host.ensures

pub returns-else-is_name_of_host : goal.returns-else-is_name_of_host
returns-else-is_name_of_host g c = taken_by_one (λ entry. entry.formula) _ _ _ _ _ _ c.as_slice-entries.ensures.value c.as_slice-bytes.ensures c.if-is_name_of_host.false c.is_name_of_host.ensures c.is_name_among.ensures
