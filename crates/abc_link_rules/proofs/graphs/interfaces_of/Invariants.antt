use Rattle.std.proofs.Common.{◌≡◌, take}
use Rattle.std.specs.List.{flat_map}
use Rattle.abc_link_names.specs.Meaning.{resolve}
use Rattle.abc_link_names.specs.Bases.{interfaces_named}
use Rattle.abc_link_rules.proofs.graphs.interfaces_of.Given as goal

abbrev pub invariant-loop-name : goal.invariant-loop-name
invariant-loop-name l = l.list ≡ flat_map (λ n. interfaces_named l.meanings.abc.now (resolve l.meanings.abc.now n)) (take l.name-index l.names)
