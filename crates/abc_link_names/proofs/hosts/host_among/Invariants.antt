use Rattle.std.proofs.Common.{◌≡◌, drop}
use Rattle.abc_link_names.specs.Meaning.{host_among}
use Rattle.abc_link_names.proofs.hosts.host_among.Given as goal

abbrev pub invariant-loop-host : goal.invariant-loop-host
invariant-loop-host l = host_among l.hosts l.text ≡ host_among (drop l.host-index l.hosts) l.text
